-- The name so far stands before those that are left.
use Rattle.std.proofs.Common.{◌≡◌, ◌++◌, drop}
use Rattle.std.specs.Prelude.{IfSome, IsTrue}
use Rattle.value_core.specs.Leaves.{is_name}
use Rattle.michelson_reader.specs.Entries.{entry_in, names_in, only_name}
use Rattle.michelson_reader.specs.Returned.{as_names}
use Rattle.michelson_reader.proofs.entries.entry_in.Given as goal

abbrev pub invariant-loop-note : goal.invariant-loop-note
invariant-loop-note l = record {
  so_far : only_name (as_names l.found ++ names_in (drop l.note-index l.notes)) ≡ entry_in l.notes;
  fit : IfSome l.found (λ name. IsTrue (is_name name));
}
