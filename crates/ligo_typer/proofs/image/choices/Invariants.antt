-- What was joined stands behind what is left.
use Rattle.std.proofs.Common.{◌≡◌, length}
use Rattle.value_core.specs.Combs.{comb}
use Rattle.value_core.specs.declared.ty.Ty.TheVariants as image
use Rattle.ligo_typer.specs.Image.{right_comb}
use Rattle.ligo_typer.proofs.image.choices.Given as goal

abbrev pub invariant-loop-first : goal.invariant-loop-first
invariant-loop-first l = comb image.Or l.parts l.whole ≡ right_comb image.Or l.fn.parts

abbrev pub decreases-loop-first : goal.decreases-loop-first
decreases-loop-first l = length l.parts
