-- The names so far stand at such nodes.
use Rattle.std.proofs.Common.{take}
use Rattle.std.specs.Prelude.{IsTrue}
use Rattle.std.specs.List.{list_all}
use Rattle.michelson_code.specs.Printable.{stands_in}
use Rattle.michelson_code.proofs.printable.all_stand_in.Given as goal

abbrev pub invariant-loop-name : goal.invariant-loop-name
invariant-loop-name l = IsTrue (list_all (stands_in l.param) (take l.name-index l.names))
