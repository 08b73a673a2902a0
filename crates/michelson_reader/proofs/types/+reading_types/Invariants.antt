-- What was read stands before what is left.
use Rattle.std.proofs.Common.{◌≡◌, drop, map}
use Rattle.michelson_reader.specs.Returned.{each}
use Rattle.michelson_reader.specs.TypeFaults.{type_read}
use Rattle.michelson_reader.proofs.ReadTurns.{behind}
use Rattle.michelson_reader.proofs.types.+reading_types.Given as goal

abbrev pub invariant-read_others-loop-i : goal.invariant-read_others-loop-i
invariant-read_others-loop-i l = behind l.types (each (map type_read (drop l.i l.nodes))) ≡ each (map type_read (drop 1 l.nodes))
