-- What the stack's types were they are in a table that grew.
use Rattle.std.proofs.Common.{List, subst}
use Rattle.value_core.specs.declared.ty.Ty.{Ty}
use Rattle.michelson_code.specs.declared.instr.Instr.TheViews.{out-Instr}
use Rattle.michelson_typer.specs.Lines.{FindsMade, FindsNone}
use Rattle.michelson_typer.specs.Tables.{Grows}
use Rattle.michelson_typer.proofs.AppliedLaws.{further}
use Rattle.michelson_typer.proofs.GrowLaws.{grows_more, in_later, typed_later, types_later}
use Rattle.michelson_typer.proofs.ResultLaws.{with_ok}
use Rattle.michelson_typer.proofs.operands.by_its_line.Goals as goal

pub by_line-requires-clause-stack : goal.by_line-requires-clause-stack
by_line-requires-clause-stack c =
    in_later c.args.types.now c.written_by.new.types (grows_more _ _ _ c.intern.ensures.grows c.written_by.ensures.grows) c.args.stack.now c.requires

pub by_line-requires-clause-unit : goal.by_line-requires-clause-unit
by_line-requires-clause-unit c = typed_later _ _ c.written_by.ensures.grows c.in_ok-unit.unit _ c.in_ok-unit.ensures.number

pub returns-in-Some-clause-made : goal.returns-in-Some-clause-made
returns-in-Some-clause-made c =
    let grows : Grows c.args.types.now c.written_by.new.types = grows_more _ _ _ c.intern.ensures.grows c.written_by.ensures.grows in
    let same = types_later c.args.types.now c.written_by.new.types grows c.args.stack.now c.requires in
    with_ok _ _ (λ o h. further _ _ _ _
    (subst (λ (b : List Ty). FindsNone c.args.script.now (out-Instr c.args.instr.now) b) same)
    (λ made f. subst (λ (b : List Ty). FindsMade c.args.script.now (out-Instr c.args.instr.now) b c.by_line.new.types made.items) same f) o h)
    c.by_line.result c.by_line.ensures.made
