-- Big maps stand on the path of pairs where those of what is left of the type do.
use Rattle.std.proofs.Common.{◌≡◌, ◌≤◌}
use Rattle.value_core.specs.declared.ty.Ty.{size-Ty}
use Rattle.michelson_code.specs.WrittenTypes.{has_placed_big_maps}
use Rattle.michelson_typer.proofs.keys.+has_placed_big_maps.Given as goal

abbrev pub invariant-loop-rest : goal.invariant-loop-rest
invariant-loop-rest l = record {
  same : has_placed_big_maps l.fn.t ≡ has_placed_big_maps l.rest;
  no_deeper : size-Ty l.rest ≤ size-Ty l.fn.t;
}
