-- The patterns so far are those of the front of the list.
use Rattle.std.proofs.Common.{◌≡◌, take}
use Rattle.std.specs.Prelude.{map}
use Rattle.ligo_typer.specs.Patterns.{typed_pattern}
use Rattle.ligo_typer.proofs.patterns.+patterns.Given as goal

abbrev pub invariant-typed_patterns-loop-part : goal.invariant-typed_patterns-loop-part
invariant-typed_patterns-loop-part l = l.made ≡ map typed_pattern (take l.part-index l.parts)
