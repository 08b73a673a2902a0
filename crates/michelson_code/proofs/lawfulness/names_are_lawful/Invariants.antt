-- The names so far are names.
use Rattle.std.proofs.Common.{take}
use Rattle.std.specs.Prelude.{IsTrue}
use Rattle.std.specs.List.{list_all}
use Rattle.michelson_code.specs.Lawful.{is_lawful_entry}
use Rattle.michelson_code.proofs.lawfulness.names_are_lawful.Given as goal

abbrev pub invariant-loop-name : goal.invariant-loop-name
invariant-loop-name l = IsTrue (list_all is_lawful_entry (take l.name-index l.names))
