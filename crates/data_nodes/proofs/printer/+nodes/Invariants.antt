-- The nodes so far, and of a pair the nodes of its first parts.
use Rattle.std.proofs.Common.{◌≡◌, ◌≤◌, ◌+◌, ◌*◌, max, take, map}
use Rattle.value_core.specs.declared.val.Val.{size-Val}
use Rattle.value_core.specs.Combs.{comb}
use Rattle.data_nodes.specs.Printed.{node_of}
use Rattle.data_nodes.specs.Printing.{entry_of, paired}
use Rattle.data_nodes.proofs.printer.+nodes.Given as goal

abbrev pub decreases-data_node : goal.decreases-data_node
decreases-data_node l = 2 * size-Val l.v.now

abbrev pub decreases-comb_node : goal.decreases-comb_node
decreases-comb_node l = 2 * max (size-Val l.first.now) (size-Val l.rest.now) + 1

abbrev pub decreases-item_nodes : goal.decreases-item_nodes
decreases-item_nodes l = 2 * goal.size-item_nodes l + 1

abbrev pub decreases-entry_nodes : goal.decreases-entry_nodes
decreases-entry_nodes l = 2 * goal.size-entry_nodes l + 1

abbrev pub invariant-item_nodes-loop-item : goal.invariant-item_nodes-loop-item
invariant-item_nodes-loop-item l = l.nodes ≡ map node_of (take l.item-index l.items)

abbrev pub invariant-entry_nodes-loop-entry : goal.invariant-entry_nodes-loop-entry
invariant-entry_nodes-loop-entry l = l.nodes ≡ map entry_of (take l.entry-index l.entries)

abbrev pub invariant-comb_node-loop-last : goal.invariant-comb_node-loop-last
invariant-comb_node-loop-last l = record {
  made : paired (node_of l.fn.first) (node_of l.fn.rest) ≡ comb paired l.firsts (node_of l.last);
  no_deeper : size-Val l.last ≤ size-Val l.fn.rest;
}
