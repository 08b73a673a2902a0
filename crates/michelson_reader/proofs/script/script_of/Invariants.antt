-- The sections so far, and those that are left, are the script.
use Rattle.std.proofs.Common.{◌≡◌, drop}
use Rattle.michelson_reader.specs.Returned.{shown}
use Rattle.michelson_reader.specs.ScriptFaults.{script_read, sections}
use Rattle.michelson_reader.proofs.script.script_of.Given as goal

abbrev pub invariant-loop-node : goal.invariant-loop-node
invariant-loop-node l = sections l.end (shown l.sections) (drop l.node-index l.inner) ≡ script_read l.end l.nodes
