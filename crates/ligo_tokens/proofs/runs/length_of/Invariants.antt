-- What is counted, and what is left.
use Rattle.std.proofs.Common.{◌≡◌, ◌+◌, drop}
use Rattle.std.specs.List.{prefix_len}
use Rattle.ligo_tokens.specs.Lexing.{is_run}
use Rattle.ligo_tokens.proofs.runs.length_of.Given as goal

abbrev pub invariant-loop-i : goal.invariant-loop-i
invariant-loop-i l = l.i + prefix_len (is_run l.run) (drop l.i l.bytes) ≡ prefix_len (is_run l.run) l.bytes
