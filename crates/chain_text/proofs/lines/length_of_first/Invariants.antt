-- What is counted, and what is left.
use Rattle.std.proofs.Common.{◌≡◌, ◌+◌, drop}
use Rattle.std.specs.List.{prefix_len}
use Rattle.chain_text.specs.Lines.{is_inside}
use Rattle.chain_text.proofs.lines.length_of_first.Given as goal

abbrev pub invariant-loop-i : goal.invariant-loop-i
invariant-loop-i l = l.i + prefix_len is_inside (drop l.i l.text) ≡ prefix_len is_inside l.text
