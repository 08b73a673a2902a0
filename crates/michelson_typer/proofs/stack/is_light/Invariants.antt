-- All types are within the limits where those that are left are.
use Rattle.std.proofs.Common.{◌≡◌, drop}
use Rattle.std.specs.List.{list_all}
use Rattle.michelson_code.specs.WrittenTypes.{is_within_limits}
use Rattle.michelson_typer.specs.Tables.{types_at}
use Rattle.michelson_typer.proofs.stack.is_light.Given as goal

abbrev pub invariant-loop-id : goal.invariant-loop-id
invariant-loop-id l = list_all is_within_limits (types_at l.types l.stack) ≡ list_all is_within_limits (types_at l.types (drop l.id-index l.stack))
