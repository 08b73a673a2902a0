-- All of a list are within so many brackets where all that is left of it are.
use Rattle.std.proofs.Common.{drop, map}
use Rattle.std.specs.Prelude.{◌≤◌, ◌↔◌}
use Rattle.value_core.specs.Depth.{greatest}
use Rattle.michelson_code.specs.Brackets.{entry_inside, inside, nesting_of, nestings_of}
use Rattle.michelson_code.proofs.value_brackets.+nesting.Given as goal

abbrev pub invariant-items_within-loop-item : goal.invariant-items_within-loop-item
invariant-items_within-loop-item l =
    (greatest (map inside (map nesting_of l.items)) ≤ l.most) ↔ (greatest (map inside (map nesting_of (drop l.item-index l.items))) ≤ l.most)

abbrev pub invariant-entries_within-loop-entry : goal.invariant-entries_within-loop-entry
invariant-entries_within-loop-entry l =
    (greatest (map entry_inside (map nestings_of l.entries)) ≤ l.most) ↔ (greatest (map entry_inside (map nestings_of (drop l.entry-index l.entries))) ≤ l.most)
