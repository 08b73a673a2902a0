-- The nodes so far are no deeper.
use Rattle.std.proofs.Common.{take}
use Rattle.std.specs.Prelude.{IsTrue, nat_le}
use Rattle.std.specs.List.{list_all}
use Rattle.micheline_text.specs.Again.{argument_depth, depth_of_node}
use Rattle.micheline_text.proofs.brackets.+bracketing.Given as goal

abbrev pub invariant-arguments_within-loop-arg : goal.invariant-arguments_within-loop-arg
invariant-arguments_within-loop-arg l = IsTrue (list_all (λ n. nat_le (argument_depth (depth_of_node n)) l.most) (take l.arg-index l.args))

abbrev pub invariant-items_within-loop-node : goal.invariant-items_within-loop-node
invariant-items_within-loop-node l = IsTrue (list_all (λ n. nat_le (depth_of_node n).0 l.most) (take l.node-index l.nodes))
