use Rattle.std.proofs.Common.{◌≡◌, ◌∷◌, [], ◌+◌, ◌-◌, ◌*◌, ◌≤◌, length}
use Rattle.ligo_tokens.specs.declared.token.Kind.TheVariants as kind
use Rattle.ligo_syntax.specs.Depth.{deepest, pattern_depth}
use Rattle.ligo_syntax.specs.Readers.{loop}
use Rattle.ligo_syntax.specs.Phrases.{key}
use Rattle.ligo_syntax.specs.TypeReading.{pattern_at, Single}
use Rattle.ligo_syntax.proofs.Turns.{with_front}
use Rattle.ligo_syntax.proofs.pattern_reader.+reading_patterns.Given as goal

abbrev pub decreases-read_pattern : goal.decreases-read_pattern
decreases-read_pattern l = 8 * l.depth

abbrev pub decreases-read_single : goal.decreases-read_single
decreases-read_single l = 8 * l.depth

abbrev pub decreases-single_pattern : goal.decreases-single_pattern
decreases-single_pattern l = 8 * l.depth + 2

abbrev pub decreases-more_patterns : goal.decreases-more_patterns
decreases-more_patterns l = 8 * l.depth + 1

abbrev pub invariant-more_patterns-loop : goal.invariant-more_patterns-loop
invariant-more_patterns-loop l =
    (with_front l.items (loop (kind.Comma ∷ []) (key kind.Comma (pattern_at l.depth Single)) (length l.tokens - l.counter) l.rest)
    ≡ loop (kind.Comma ∷ []) (key kind.Comma (pattern_at l.depth Single)) (length l.tokens) l.tokens)
    × (deepest pattern_depth l.items ≤ l.depth)
