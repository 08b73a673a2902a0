-- The value has no big map where what is left of it has none.
use Rattle.std.proofs.Common.{◌≡◌, ◌≤◌, drop}
use Rattle.std.specs.List.{list_all}
use Rattle.value_core.specs.declared.val.Val.{size-Val}
use Rattle.value_core.specs.BigMaps.{has_no_big_map}
use Rattle.value_core.specs.Layer.{flat}
use Rattle.value_core.proofs.big_maps.+no_big_map.Given as goal

abbrev pub invariant-has_no_big_map-loop-rest : goal.invariant-has_no_big_map-loop-rest
invariant-has_no_big_map-loop-rest l = record {
  same : has_no_big_map l.fn.v ≡ has_no_big_map l.rest;
  no_deeper : size-Val l.rest ≤ size-Val l.fn.v;
}

abbrev pub invariant-items_have_none-loop-item : goal.invariant-items_have_none-loop-item
invariant-items_have_none-loop-item l = list_all has_no_big_map l.items ≡ list_all has_no_big_map (drop l.item-index l.items)

abbrev pub invariant-entries_have_none-loop-entry : goal.invariant-entries_have_none-loop-entry
invariant-entries_have_none-loop-entry l =
    list_all has_no_big_map (flat l.entries) ≡ list_all has_no_big_map (flat (drop l.entry-index l.entries))
