-- Each line takes more where each that is left does.
use Rattle.std.proofs.Common.{◌<◌, length, drop}
use Rattle.std.specs.Prelude.{◌↔◌}
use Rattle.std.specs.List.{AllByRecursion}
use Rattle.michelson_code.specs.Typing.{slot_list}
use Rattle.michelson_typer.proofs.operands.are_longer.Given as goal

abbrev pub invariant-loop-line : goal.invariant-loop-line
invariant-loop-line l =
    AllByRecursion (λ m. l.count < length (slot_list m.0)) l.lines ↔ AllByRecursion (λ m. l.count < length (slot_list m.0)) (drop l.line-index l.lines)
