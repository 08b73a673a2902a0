-- The value is settled where what is left of it is.
use Rattle.std.proofs.Common.{◌≡◌, ◌≤◌, drop}
use Rattle.std.specs.List.{list_all}
use Rattle.value_core.specs.declared.val.Val.{size-Val}
use Rattle.value_core.specs.Layer.{flat}
use Rattle.value_core.specs.Settled.{is_settled}
use Rattle.value_core.proofs.plainness.+settling.Given as goal

abbrev pub invariant-is_settled-loop-rest : goal.invariant-is_settled-loop-rest
invariant-is_settled-loop-rest l = record {
  same : is_settled l.fn.v ≡ is_settled l.rest;
  no_deeper : size-Val l.rest ≤ size-Val l.fn.v;
}

abbrev pub invariant-items_are_settled-loop-item : goal.invariant-items_are_settled-loop-item
invariant-items_are_settled-loop-item l = list_all is_settled l.items ≡ list_all is_settled (drop l.item-index l.items)

abbrev pub invariant-entries_are_settled-loop-entry : goal.invariant-entries_are_settled-loop-entry
invariant-entries_are_settled-loop-entry l =
    list_all is_settled (flat l.entries) ≡ list_all is_settled (flat (drop l.entry-index l.entries))
