-- Any other instruction asks for the types that it writes.
use Rattle.std.proofs.Common.{ap, sym, ◌∙◌}
use Rattle.std.specs.List.{list_all}
use Rattle.michelson_code.specs.WrittenTypes.{has_passable_values}
use Rattle.michelson_typer.proofs.OperandLaws.{types_of-other}
use Rattle.michelson_typer.proofs.operands.writes_passable_values.Goals as goal

pub returns-in_default : goal.returns-in_default
returns-in_default c =
    c.each_written.ensures has_passable_values (λ t r h. h.says.met ∙ ap has_passable_values h.shows)
    ∙ ap (list_all has_passable_values) (sym (types_of-other c.args.instr.now c.in_default.not-EmptySet c.in_default.not-EmptyMap))
