-- The lines that are left give the same; and fewer are left.
use Rattle.std.proofs.Common.{◌≡◌, length}
use Rattle.chain_text.specs.Standing.{nothing}
use Rattle.chain_text.specs.Inside.{left_groups}
use Rattle.chain_text.specs.Reading.{all_lines}
use Rattle.chain_text.proofs.reader.all_lines.Given as goal

abbrev pub invariant-loop-group : goal.invariant-loop-group
invariant-loop-group l = all_lines l.standing (left_groups l.lines) ≡ all_lines nothing (left_groups l.fn.lines)

abbrev pub decreases-loop-group : goal.decreases-loop-group
decreases-loop-group l = length (left_groups l.lines)
