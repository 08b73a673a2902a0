-- All of a list are within a depth where all that is left of it are.
use Rattle.std.proofs.Common.{drop, map}
use Rattle.std.specs.Prelude.{◌≤◌, ◌↔◌}
use Rattle.value_core.specs.Depth.{depth_of, greatest}
use Rattle.value_core.specs.Layer.{flat}
use Rattle.value_core.proofs.depth.+deepening.Given as goal

abbrev pub invariant-are_items_within-loop-item : goal.invariant-are_items_within-loop-item
invariant-are_items_within-loop-item l =
    (greatest (map depth_of l.items) ≤ l.most) ↔ (greatest (map depth_of (drop l.item-index l.items)) ≤ l.most)

abbrev pub invariant-are_entries_within-loop-entry : goal.invariant-are_entries_within-loop-entry
invariant-are_entries_within-loop-entry l =
    (greatest (map depth_of (flat l.entries)) ≤ l.most) ↔ (greatest (map depth_of (flat (drop l.entry-index l.entries))) ≤ l.most)
