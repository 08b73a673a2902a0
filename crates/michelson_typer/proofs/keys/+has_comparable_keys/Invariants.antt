-- Keys of the type are comparable where those of what is left of it are.
use Rattle.std.proofs.Common.{◌≡◌, ◌≤◌}
use Rattle.value_core.specs.declared.ty.Ty.{size-Ty}
use Rattle.michelson_code.specs.WrittenTypes.{has_comparable_keys}
use Rattle.michelson_typer.proofs.keys.+has_comparable_keys.Given as goal

abbrev pub invariant-loop-rest : goal.invariant-loop-rest
invariant-loop-rest l = record {
  same : has_comparable_keys l.fn.t ≡ has_comparable_keys l.rest;
  no_deeper : size-Ty l.rest ≤ size-Ty l.fn.t;
}
