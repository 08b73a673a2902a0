use Rattle.std.proofs.Common.{◌≡◌, ◌≤◌, ◌-◌, length, take, drop}
use Rattle.ligo_syntax.specs.Classes.{attribute_kinds}
use Rattle.ligo_syntax.specs.Readers.{loop}
use Rattle.ligo_syntax.specs.TypeReading.{token}
use Rattle.ligo_syntax.proofs.Turns.{with_front}
use Rattle.ligo_syntax.proofs.decl_reader.count_marks.Given as goal

abbrev pub invariant-loop-count : goal.invariant-loop-count
invariant-loop-count l =
    (with_front (take l.count l.tokens) (loop attribute_kinds (token attribute_kinds) (length l.tokens - l.count) (drop l.count l.tokens))
    ≡ loop attribute_kinds (token attribute_kinds) (length l.tokens) l.tokens)
    × (l.count ≤ length l.tokens)

abbrev pub decreases-loop-count : goal.decreases-loop-count
decreases-loop-count l = length l.tokens - l.count
