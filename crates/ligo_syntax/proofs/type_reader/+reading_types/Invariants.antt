use Rattle.std.proofs.Common.{◌≡◌, ◌∷◌, [], ◌+◌, ◌-◌, ◌*◌, ◌≤◌, length}
use Rattle.ligo_tokens.specs.declared.token.Kind.TheVariants as kind
use Rattle.ligo_syntax.specs.Depth.{deepest, type_depth}
use Rattle.ligo_syntax.specs.Readers.{loop}
use Rattle.ligo_syntax.specs.Phrases.{key}
use Rattle.ligo_syntax.specs.TypeReading.{type_at, Post}
use Rattle.ligo_syntax.proofs.Turns.{with_front}
use Rattle.ligo_syntax.proofs.type_reader.+reading_types.Given as goal

abbrev pub decreases-read_type : goal.decreases-read_type
decreases-read_type l = 8 * l.depth

abbrev pub decreases-read_post : goal.decreases-read_post
decreases-read_post l = 8 * l.depth

abbrev pub decreases-read_bracket : goal.decreases-read_bracket
decreases-read_bracket l = 8 * l.depth + 1

abbrev pub decreases-base_type : goal.decreases-base_type
decreases-base_type l = 8 * l.depth + 2

abbrev pub decreases-post_type : goal.decreases-post_type
decreases-post_type l = 8 * l.depth + 3

abbrev pub decreases-more_types : goal.decreases-more_types
decreases-more_types l = 8 * l.depth + 1

abbrev pub invariant-more_types-loop : goal.invariant-more_types-loop
invariant-more_types-loop l =
    (with_front l.items (loop (kind.Star ∷ []) (key kind.Star (type_at l.depth Post)) (length l.tokens - l.counter) l.rest)
    ≡ loop (kind.Star ∷ []) (key kind.Star (type_at l.depth Post)) (length l.tokens) l.tokens)
    × (deepest type_depth l.items ≤ l.depth)
