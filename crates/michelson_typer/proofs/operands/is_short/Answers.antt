-- With lines the stack is too short where it is shorter than each, or has one item where two may stand.
use Rattle.std.proofs.Common.{length, sym}
use Rattle.std.proofs.lemmas.List.{length-map}
use Rattle.michelson_code.specs.declared.instr.Instr.TheViews.{out-Instr}
use Rattle.michelson_code.specs.FirstFault.{IsLone}
use Rattle.michelson_typer.specs.Tables.{type_at, types_at}
use Rattle.michelson_typer.proofs.OperandLaws.{short_by_lines}
use Rattle.michelson_typer.proofs.operands.is_short.Goals as goal

pub returns-else-is_lone : goal.returns-else-is_lone
returns-else-is_lone c =
    let alone : IsLone (out-Instr c.args.instr.now) (types_at c.args.types.now c.args.stack.now) → ⊥ =
    λ is. let h = c.if-is_lone.ensures.1 is in cc in
    short_by_lines _ _ c.lines_of-lines.result.now (length c.args.stack.now) c.are_longer.result c.lines_of-lines.ensures
    (sym (length-map c.args.stack.now (type_at c.args.types.now))) c.if-is_empty.ensures alone c.are_longer.ensures
