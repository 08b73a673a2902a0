-- All names are in order where those that are left are, behind the last one looked at.
use Rattle.std.proofs.Common.{◌≡◌, [], ◌∷◌, drop}
use Rattle.michelson_code.specs.Entries.{are_in_order}
use Rattle.michelson_code.proofs.printable.are_in_order.Given as goal

abbrev pub invariant-loop-name : goal.invariant-loop-name
invariant-loop-name l = are_in_order l.fn.names ≡ are_in_order ((l.last, []) ∷ drop l.name-index l.rest)
