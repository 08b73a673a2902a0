-- The names that go on to the side, of those so far.
use Rattle.std.proofs.Common.{◌≡◌, map, take}
use Rattle.michelson_reader.specs.Printing.{below_of, entry_of}
use Rattle.michelson_reader.proofs.parameter_nodes.entries_below.Given as goal

abbrev pub invariant-loop-entry : goal.invariant-loop-entry
invariant-loop-entry l = map entry_of l.below.items ≡ below_of l.side (take l.entry-index l.entries)
