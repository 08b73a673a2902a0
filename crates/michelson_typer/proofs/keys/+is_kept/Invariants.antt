-- The type is kept where what is left of it is.
use Rattle.std.proofs.Common.{◌≡◌, ◌≤◌}
use Rattle.value_core.specs.declared.ty.Ty.{size-Ty}
use Rattle.michelson_code.specs.WrittenTypes.{is_kept}
use Rattle.michelson_typer.proofs.keys.+is_kept.Given as goal

abbrev pub invariant-loop-rest : goal.invariant-loop-rest
invariant-loop-rest l = record {
  same : is_kept l.fn.t ≡ is_kept l.rest;
  no_deeper : size-Ty l.rest ≤ size-Ty l.fn.t;
}
