-- The parts so far fit, so that the first misfit is one of the parts that are left.
use Rattle.std.proofs.Common.{◌≡◌, map}
use Rattle.std.specs.Prelude.{slice_get}
use Rattle.ligo_typer.specs.Patterns.{each_of, misfits}
use Rattle.ligo_typer.proofs.PatternLaws.{misfits_from}
use Rattle.ligo_typer.proofs.patterns.+misfitting.Given as goal

abbrev pub invariant-part_misfit-loop-i : goal.invariant-part_misfit-loop-i
invariant-part_misfit-loop-i l = slice_get (each_of (map misfits l.parts) l.types) 0 ≡ slice_get (misfits_from l.i l.parts l.types) 0
