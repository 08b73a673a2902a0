-- No big map stands in the type where none stands in what is left of it.
use Rattle.std.proofs.Common.{◌≡◌, ◌≤◌}
use Rattle.value_core.specs.declared.ty.Ty.{size-Ty}
use Rattle.michelson_code.specs.WrittenTypes.{is_free_of_big_maps}
use Rattle.michelson_typer.proofs.keys.+is_free_of_big_maps.Given as goal

abbrev pub invariant-loop-rest : goal.invariant-loop-rest
invariant-loop-rest l = record {
  same : is_free_of_big_maps l.fn.t ≡ is_free_of_big_maps l.rest;
  no_deeper : size-Ty l.rest ≤ size-Ty l.fn.t;
}
