-- What the loops of the writer have added so far, and that it is lawful.
use Rattle.std.proofs.Common.{◌≡◌, ◌++◌, ◌∷◌, length, take}
use Rattle.std.specs.Prelude.{IsTrue}
use Rattle.std.specs.List.{flat_map, list_all}
use Rattle.value_core.specs.Lawful.{is_lawful, is_lawful_entry}
use Rattle.value_codec.specs.Spelling.{spell, spell_entry, word}
use Rattle.value_codec.proofs.writer.+writing.Given as goal

abbrev pub invariant-put_items-loop-item : goal.invariant-put_items-loop-item
invariant-put_items-loop-item l = record {
  added : l.draft.added ≡ (l.fn.draft.added ++ l.tag ∷ word (length l.items)) ++ flat_map spell (take l.item-index l.items);
  lawful : IsTrue (list_all is_lawful (take l.item-index l.items));
  before : l.draft.before ≡ l.fn.draft.before;
}

abbrev pub invariant-put_entries-loop-entry : goal.invariant-put_entries-loop-entry
invariant-put_entries-loop-entry l = record {
  added : l.draft.added ≡ (l.fn.draft.added ++ 17 ∷ word (length l.entries)) ++ flat_map spell_entry (take l.entry-index l.entries);
  lawful : IsTrue (list_all is_lawful_entry (take l.entry-index l.entries));
  before : l.draft.before ≡ l.fn.draft.before;
}
