-- The name is none of those that were passed.
use Rattle.std.proofs.Common.{◌≡◌, drop}
use Rattle.michelson_code.specs.Entries.{path_of}
use Rattle.op_run.proofs.codes.path_of.Given as goal

abbrev pub invariant-loop-entry : goal.invariant-loop-entry
invariant-loop-entry l = path_of l.name (drop l.entry-index l.script.names) ≡ path_of l.name l.script.names
