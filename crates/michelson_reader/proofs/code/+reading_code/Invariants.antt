-- What was read stands before what is left; and the readers go down the nodes.
use Rattle.std.proofs.Common.{◌≡◌, ◌+◌, ◌*◌, drop, map, max}
use Rattle.micheline_text.specs.declared.node.Body.TheViews.{size-Node}
use Rattle.michelson_reader.specs.CodeFaults.{instruction_read}
use Rattle.michelson_reader.specs.Returned.{each}
use Rattle.michelson_reader.proofs.ReadTurns.{behind}
use Rattle.michelson_reader.proofs.code.+reading_code.Given as goal

abbrev pub decreases-read_code : goal.decreases-read_code
decreases-read_code l = 8 * size-Node l.n.now + 3

abbrev pub decreases-in_order : goal.decreases-in_order
decreases-in_order l = 8 * goal.size-in_order l + 6

abbrev pub decreases-instruction : goal.decreases-instruction
decreases-instruction l = 8 * size-Node l.n.now + 5

abbrev pub decreases-applied : goal.decreases-applied
decreases-applied l = 8 * goal.size-applied l + 6

abbrev pub decreases-with_one : goal.decreases-with_one
decreases-with_one l = 8 * size-Node l.operand.now + 5

abbrev pub decreases-body_form : goal.decreases-body_form
decreases-body_form l = 8 * size-Node l.operand.now + 4

abbrev pub decreases-with_two : goal.decreases-with_two
decreases-with_two l = 8 * max (size-Node l.first.now) (size-Node l.second.now) + 5

abbrev pub decreases-dip : goal.decreases-dip
decreases-dip l = 8 * size-Node l.second.now + 4

abbrev pub decreases-bodies_form : goal.decreases-bodies_form
decreases-bodies_form l = 8 * max (size-Node l.first.now) (size-Node l.second.now) + 4

abbrev pub invariant-in_order-loop-node : goal.invariant-in_order-loop-node
invariant-in_order-loop-node l = behind l.code (each (map instruction_read (drop l.node-index l.nodes))) ≡ each (map instruction_read l.nodes)
