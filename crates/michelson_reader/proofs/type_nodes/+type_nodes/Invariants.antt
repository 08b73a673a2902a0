-- The first parts so far stand before the rest of the comb.
use Rattle.std.proofs.Common.{◌≡◌, ◌≤◌, ◌+◌, ◌*◌}
use Rattle.value_core.specs.declared.ty.Ty.{size-Ty}
use Rattle.value_core.specs.Combs.{comb}
use Rattle.michelson_reader.specs.Printed.{type_node}
use Rattle.michelson_reader.specs.Printing.{pair_node}
use Rattle.michelson_reader.proofs.type_nodes.+type_nodes.Given as goal

abbrev pub invariant-type_node-loop-rest : goal.invariant-type_node-loop-rest
invariant-type_node-loop-rest l = record {
  node : type_node l.fn.t ≡ comb pair_node l.firsts (type_node l.rest);
  no_deeper : size-Ty l.rest ≤ size-Ty l.fn.t;
}

abbrev pub decreases-type_node : goal.decreases-type_node
decreases-type_node l = 3 * size-Ty l.t.now + 2

abbrev pub decreases-node_by_parts : goal.decreases-node_by_parts
decreases-node_by_parts l = 3 * size-Ty l.t.now + 1

abbrev pub decreases-type_parts : goal.decreases-type_parts
decreases-type_parts l = 3 * size-Ty l.t.now
