-- Any other instruction asks for the types that it writes.
use Rattle.std.proofs.Common.{ap, sym, ◌∙◌}
use Rattle.std.specs.List.{list_all}
use Rattle.michelson_code.specs.WrittenTypes.{has_comparable_keys}
use Rattle.michelson_typer.proofs.OperandLaws.{types_of-other}
use Rattle.michelson_typer.proofs.operands.writes_comparable_keys.Goals as goal

pub returns-in_default : goal.returns-in_default
returns-in_default c =
    c.each_written.ensures has_comparable_keys (λ t r h. h.says.met ∙ ap has_comparable_keys h.shows)
    ∙ ap (list_all has_comparable_keys) (sym (types_of-other c.args.instr.now c.in_default.not-EmptySet c.in_default.not-EmptyMap))
