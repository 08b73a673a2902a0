-- The sum so far is that of the front of the list, or of the parts before the last one; and what was looked at is lawful.
use Rattle.std.proofs.Common.{◌≡◌, ◌-◌, ◌^◌, ◌≤◌, min, ◌+◌, sum_by, take, true}
use Rattle.std.specs.Prelude.{IsTrue}
use Rattle.std.specs.List.{list_all}
use Rattle.value_core.specs.declared.val.Val.{size-Val}
use Rattle.value_core.specs.Lawful.{is_lawful, is_lawful_entry}
use Rattle.value_core.specs.Size.{entry_size, size_of}
use Rattle.value_core.proofs.sizing.+sizing.Given as goal

abbrev pub invariant-size_of_items-loop-item : goal.invariant-size_of_items-loop-item
invariant-size_of_items-loop-item l = record {
  same : l.total ≡ min (1 + sum_by size_of (take l.item-index l.items)) (2 ^ 64 - 1);
  lawful : IsTrue (list_all is_lawful (take l.item-index l.items));
}

abbrev pub invariant-size_of_entries-loop-entry : goal.invariant-size_of_entries-loop-entry
invariant-size_of_entries-loop-entry l = record {
  same : l.total ≡ min (1 + sum_by entry_size (take l.entry-index l.entries)) (2 ^ 64 - 1);
  lawful : IsTrue (list_all is_lawful_entry (take l.entry-index l.entries));
}

abbrev pub invariant-size-loop-v : goal.invariant-size-loop-v
invariant-size-loop-v l = record {
  same : min (size_of l.fn.v) (2 ^ 64 - 1) ≡ min (l.before + size_of l.v) (2 ^ 64 - 1);
  lawful : is_lawful l.v ≡ true → is_lawful l.fn.v ≡ true;
  no_deeper : size-Val l.v ≤ size-Val l.fn.v;
}
