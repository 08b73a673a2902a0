-- The readers go down the type; what a loop has read stands before what is left.
use Rattle.std.proofs.Common.{◌≡◌, ◌≤◌, ◌+◌, ◌-◌, ◌*◌, None, drop, length, map, max}
use Rattle.value_core.specs.declared.ty.Ty.{size-Ty}
use Rattle.value_core.specs.Lasts.{last_item, last_key}
use Rattle.data_nodes.specs.Readers.{ascending, comb, entries, items}
use Rattle.data_nodes.specs.Faults.{reader}
use Rattle.data_nodes.proofs.Combs.{behind_firsts}
use Rattle.data_nodes.proofs.LoopTurns.{behind}
use Rattle.data_nodes.proofs.+reading.Given as goal

abbrev pub decreases-reader::value : goal.decreases-reader::value
decreases-reader::value l = 9 * size-Ty l.t.now + 7

abbrev pub decreases-reader::applied : goal.decreases-reader::applied
decreases-reader::applied l = 9 * size-Ty l.t.now + 6

abbrev pub decreases-reader::sequence : goal.decreases-reader::sequence
decreases-reader::sequence l = 9 * size-Ty l.t.now + 6

abbrev pub decreases-reader::with_one : goal.decreases-reader::with_one
decreases-reader::with_one l = 9 * size-Ty l.t.now + 5

abbrev pub decreases-reader::pair_of : goal.decreases-reader::pair_of
decreases-reader::pair_of l = 9 * size-Ty l.t.now + 5

-- one item alone is read at the type itself
abbrev pub decreases-reader::comb : goal.decreases-reader::comb
decreases-reader::comb l = 9 * size-Ty l.t.now + 4 + 4 * (2 - length l.nodes.now)

abbrev pub decreases-items::items : goal.decreases-items::items
decreases-items::items l = 9 * size-Ty l.t.now + 8

abbrev pub decreases-items::ascending : goal.decreases-items::ascending
decreases-items::ascending l = 9 * size-Ty l.t.now + 8

abbrev pub decreases-items::entries : goal.decreases-items::entries
decreases-items::entries l = 9 * max (size-Ty l.k.now) (size-Ty l.v.now) + 10

abbrev pub decreases-items::entry : goal.decreases-items::entry
decreases-items::entry l = 9 * max (size-Ty l.k.now) (size-Ty l.v.now) + 9

abbrev pub decreases-items::entry_of : goal.decreases-items::entry_of
decreases-items::entry_of l = 9 * max (size-Ty l.k.now) (size-Ty l.v.now) + 8

abbrev pub invariant-items::items-loop-node : goal.invariant-items::items-loop-node
invariant-items::items-loop-node l = behind l.items (items l.t (map reader (drop l.node-index l.nodes))) ≡ items l.t (map reader l.nodes)

abbrev pub invariant-items::ascending-loop-node : goal.invariant-items::ascending-loop-node
invariant-items::ascending-loop-node l = behind l.items (ascending l.t (last_item l.items) (map reader (drop l.node-index l.nodes))) ≡ ascending l.t None (map reader l.nodes)

abbrev pub invariant-items::entries-loop-node : goal.invariant-items::entries-loop-node
invariant-items::entries-loop-node l =
    behind l.entries (entries l.k l.v (last_key l.entries) (map reader (drop l.node-index l.nodes))) ≡ entries l.k l.v None (map reader l.nodes)

abbrev pub invariant-reader::comb-loop-left : goal.invariant-reader::comb-loop-left
invariant-reader::comb-loop-left l =
    (behind_firsts l.firsts (comb l.at (map reader l.left) l.behind) ≡ comb l.at (map reader l.fn.nodes) l.fn.t)
    × (9 * size-Ty l.behind + 4 * (2 - length l.left) ≤ 9 * size-Ty l.fn.t + 4 * (2 - length l.fn.nodes))

abbrev pub decreases-reader::comb-loop-left : goal.decreases-reader::comb-loop-left
decreases-reader::comb-loop-left l = length l.left
