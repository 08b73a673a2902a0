-- The entries so far.
use Rattle.std.proofs.Common.{◌≡◌, map, take}
use Rattle.michelson_reader.specs.Printing.{entry_of}
use Rattle.michelson_reader.proofs.parameter_nodes.parameter_node.Given as goal

abbrev pub invariant-loop-path : goal.invariant-loop-path
invariant-loop-path l = map entry_of l.entries.items ≡ take l.path-index l.names
