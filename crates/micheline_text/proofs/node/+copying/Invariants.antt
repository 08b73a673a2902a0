-- The copies so far.
use Rattle.std.proofs.Common.{◌≡◌, take}
use Rattle.micheline_text.proofs.node.+copying.Given as goal

abbrev pub invariant-copy_nodes-loop-node : goal.invariant-copy_nodes-loop-node
invariant-copy_nodes-loop-node l = l.made ≡ take l.node-index l.nodes
