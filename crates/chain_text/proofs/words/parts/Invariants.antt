-- What is counted, and what is left.
use Rattle.std.proofs.Common.{◌≡◌, ◌+◌, drop}
use Rattle.std.specs.List.{prefix_len}
use Rattle.chain_text.specs.Lines.{is_part}
use Rattle.chain_text.proofs.words.parts.Given as goal

abbrev pub invariant-loop-i : goal.invariant-loop-i
invariant-loop-i l = l.i + prefix_len is_part (drop l.i l.line) ≡ prefix_len is_part l.line
