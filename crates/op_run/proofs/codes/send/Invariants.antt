-- What is left to send, with what was sent, is the same throughout.
use Rattle.std.proofs.Common.{◌≡◌, ◌++◌, length, map}
use Rattle.op_rules.specs.Operations.{sent_by}
use Rattle.op_run.proofs.codes.send.Given as goal

abbrev pub invariant-loop-emit : goal.invariant-loop-emit
invariant-loop-emit l = map (sent_by l.sender) l.ops ++ l.pending ≡ map (sent_by l.sender) l.fn.ops ++ l.fn.pending

abbrev pub decreases-loop-emit : goal.decreases-loop-emit
decreases-loop-emit l = length l.ops
