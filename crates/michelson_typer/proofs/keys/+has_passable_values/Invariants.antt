-- Values of big maps are passable where those of what is left of the type are.
use Rattle.std.proofs.Common.{◌≡◌, ◌≤◌}
use Rattle.value_core.specs.declared.ty.Ty.{size-Ty}
use Rattle.michelson_code.specs.WrittenTypes.{has_passable_values}
use Rattle.michelson_typer.proofs.keys.+has_passable_values.Given as goal

abbrev pub invariant-loop-rest : goal.invariant-loop-rest
invariant-loop-rest l = record {
  same : has_passable_values l.fn.t ≡ has_passable_values l.rest;
  no_deeper : size-Ty l.rest ≤ size-Ty l.fn.t;
}
