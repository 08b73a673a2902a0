-- What is counted, and what is left.
use Rattle.std.proofs.Common.{◌≡◌, ◌+◌, drop}
use Rattle.std.specs.List.{prefix_len}
use Rattle.micheline_text.specs.Kinds.{is_kind}
use Rattle.micheline_text.proofs.kinds.run_of.Given as goal

abbrev pub invariant-loop-i : goal.invariant-loop-i
invariant-loop-i l = l.i + prefix_len (is_kind l.kind) (drop l.i l.bytes) ≡ prefix_len (is_kind l.kind) l.bytes
