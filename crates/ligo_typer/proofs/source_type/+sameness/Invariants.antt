-- The fronts that were compared are equal.
use Rattle.std.proofs.Common.{◌≡◌, take}
use Rattle.ligo_typer.proofs.source_type.+sameness.Given as goal

abbrev pub invariant-all_same-loop-i : goal.invariant-all_same-loop-i
invariant-all_same-loop-i l = take l.i l.a ≡ take l.i l.b

abbrev pub invariant-fields_same-loop-i : goal.invariant-fields_same-loop-i
invariant-fields_same-loop-i l = take l.i l.a ≡ take l.i l.b

abbrev pub invariant-cases_same-loop-i : goal.invariant-cases_same-loop-i
invariant-cases_same-loop-i l = take l.i l.a ≡ take l.i l.b
