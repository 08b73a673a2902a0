-- What has been copied so far is the front of the list.
use Rattle.std.proofs.Common.{◌≡◌, take}
use Rattle.michelson_code.proofs.script.copy_names.Given as goal

abbrev pub invariant-loop-name : goal.invariant-loop-name
invariant-loop-name l = l.made ≡ take l.name-index l.names
