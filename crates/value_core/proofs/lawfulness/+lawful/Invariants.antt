-- What is left to look at decides; items and entries so far are lawful.
use Rattle.std.proofs.Common.{◌≡◌, ◌≤◌, true, take}
use Rattle.std.specs.Prelude.{IsTrue}
use Rattle.std.specs.List.{list_all}
use Rattle.value_core.specs.declared.val.Val.{size-Val}
use Rattle.value_core.specs.Lawful.{is_lawful, is_lawful_entry}
use Rattle.value_core.proofs.lawfulness.+lawful.Given as goal

abbrev pub invariant-leaves_are_lawful-loop-rest : goal.invariant-leaves_are_lawful-loop-rest
invariant-leaves_are_lawful-loop-rest l = record {
  lawful : is_lawful l.rest ≡ true → is_lawful l.fn.v ≡ true;
  no_deeper : size-Val l.rest ≤ size-Val l.fn.v;
}

abbrev pub invariant-items_are_lawful-loop-item : goal.invariant-items_are_lawful-loop-item
invariant-items_are_lawful-loop-item l = IsTrue (list_all is_lawful (take l.item-index l.items))

abbrev pub invariant-entries_are_lawful-loop-entry : goal.invariant-entries_are_lawful-loop-entry
invariant-entries_are_lawful-loop-entry l = IsTrue (list_all is_lawful_entry (take l.entry-index l.entries))
