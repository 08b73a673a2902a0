-- The entries so far that have the place.
use Rattle.std.proofs.Common.{◌≡◌, take}
use Rattle.data_nodes.specs.Storage.{entries_at}
use Rattle.data_nodes.proofs.joining.entries_at.Given as goal

abbrev pub invariant-loop-entry : goal.invariant-loop-entry
invariant-loop-entry l = l.found ≡ entries_at l.place (take l.entry-index l.entries)
