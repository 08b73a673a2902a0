use Rattle.std.proofs.Common.{◌≡◌, ◌∷◌, [], ◌-◌, ◌≤◌, length}
use Rattle.ligo_tokens.specs.declared.token.Kind.TheVariants as kind
use Rattle.ligo_syntax.specs.Classes.{link_kinds}
use Rattle.ligo_syntax.specs.Depth.{expr_depth}
use Rattle.ligo_syntax.specs.Readers.{links}
use Rattle.ligo_syntax.specs.Phrases.{key}
use Rattle.ligo_syntax.specs.TypeReading.{token}
use Rattle.ligo_syntax.specs.AtomTrees.{dotted}
use Rattle.ligo_syntax.proofs.leaf_reader.read_dots.Given as goal

abbrev pub invariant-loop : goal.invariant-loop
invariant-loop l =
    (links expr_depth l.depth dotted (kind.Dot ∷ []) (key kind.Dot (token link_kinds)) (length l.tokens - l.counter) l.made l.rest
    ≡ links expr_depth l.depth dotted (kind.Dot ∷ []) (key kind.Dot (token link_kinds)) (length l.tokens) l.fn.first l.tokens)
    × (l.made.depth ≤ l.depth)
