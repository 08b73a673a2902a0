-- The annotations so far.
use Rattle.std.proofs.Common.{◌≡◌, take}
use Rattle.michelson_reader.specs.Printing.{notes_of}
use Rattle.michelson_reader.proofs.parameter_nodes.notes_here.Given as goal

abbrev pub invariant-loop-entry : goal.invariant-loop-entry
invariant-loop-entry l = l.notes ≡ notes_of (take l.entry-index l.entries)
