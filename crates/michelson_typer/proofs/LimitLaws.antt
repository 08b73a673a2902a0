-- A type is within the limits where its extent is.
use Rattle.std.proofs.Common.{◌≡◌}
use Rattle.value_core.specs.declared.ty.Ty.{Ty}
use Rattle.michelson_code.specs.WrittenTypes.{is_within_limits}
use Rattle.michelson_typer.specs.Extents.{extent_of, is_light}
use Rattle.michelson_typer.proofs.ExtentLaws.{light-extent}

pub light : (t : Ty) → is_light (extent_of t) ≡ is_within_limits t
light t = light-extent (λ (u : Ty). u) t

pub ruleset limit_laws = (light)
