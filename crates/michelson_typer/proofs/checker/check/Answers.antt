-- Each refusal tells the first fault, and a script without one is typed.
use Rattle.std.proofs.Common.{refl, sym, subst}
use Rattle.michelson_code.specs.declared.type_fault.TypeKind.TheVariants as kind
use Rattle.michelson_code.specs.FirstFault.{ScriptFault, WholeBreaks, of_the_end, of_the_whole}
use Rattle.value_core.specs.declared.ty.Ty.{Ty}
use Rattle.value_core.specs.declared.ty.Ty.TheVariants as type
use Rattle.michelson_typer.specs.Told.{IsTold}
use Rattle.michelson_typer.specs.Closed.{end_at, end_of}
use Rattle.michelson_typer.specs.FirstKinds.{IsKindOfParts}
use Rattle.michelson_typer.specs.Tables.{IsTypeOf}
use Rattle.michelson_typer.proofs.CheckLaws.{code_fault, code_typed, ends_last, ends_otherwise, err_so, none_so, nothing, script_typed}
use Rattle.michelson_typer.proofs.CombLaws.{some_case}
use Rattle.michelson_typer.proofs.GrowLaws.{grows_more}
use Rattle.michelson_typer.proofs.ToldLaws.{here_told, told_weaker}
use Rattle.michelson_typer.proofs.WholeLaws.{code_is_first, large_is_first, whole_is_sound}
use Rattle.michelson_typer.proofs.checker.check.Goals as goal

pub returns-in-Some-clause-fault : goal.returns-in-Some-clause-fault
returns-in-Some-clause-fault c =
    here_told _ c.here.result c.in-Some.kind c.here.ensures
    (of_the_whole c.in-Some.kind (subst (IsKindOfParts c.args.script) c.in-Some.is c.in_ok-kind.ensures))

pub returns-in_default-2-clause-fault : goal.returns-in_default-2-clause-fault
returns-in_default-2-clause-fault c =
    let s = c.args.script in
    let parts = nothing (IsKindOfParts s) c.in_ok-kind.field-0 c.in_default.not-Some c.in_ok-kind.ensures in
    let large : WholeBreaks s kind.TypeTooLarge = none_so _ _ c.in_ok-first.field-0 c.in_default-2.not-Some c.in_ok-first.ensures.first in
    here_told _ c.here-in_default-2.result kind.TypeTooLarge c.here-in_default-2.ensures (of_the_whole kind.TypeTooLarge (large_is_first s parts large))

pub returns-then-not-is_small-clause-fault : goal.returns-then-not-is_small-clause-fault
returns-then-not-is_small-clause-fault c =
    let s = c.args.script in
    let parts = nothing (IsKindOfParts s) c.in_ok-kind.field-0 c.in_default.not-Some c.in_ok-kind.ensures in
    let first = some_case _ _ c.in_ok-first.field-0 c.in-Some-2.first c.in-Some-2.is c.in_ok-first.ensures.first in
    here_told _ c.here-then-not-is_small.result kind.CodeTooLarge c.here-then-not-is_small.ensures
    (of_the_whole kind.CodeTooLarge (code_is_first s parts first.0 c.if-not-is_small.ensures))

pub returns-in_err-ends-clause-fault : goal.returns-in_err-ends-clause-fault
returns-in_err-ends-clause-fault c =
    let s = c.args.script in
    let parts = nothing (IsKindOfParts s) c.in_ok-kind.field-0 c.in_default.not-Some c.in_ok-kind.ensures in
    let first = some_case _ _ c.in_ok-first.field-0 c.in-Some-2.first c.in-Some-2.is c.in_ok-first.ensures.first in
    let sound = whole_is_sound s parts first.0 c.if-not-is_small.ensures in
    let told = told_weaker _ (ScriptFault s) c.in_err-ends.field-0.0
    (code_fault s c.first_item.new.types c.in-Some-2.first first.1 _ c.as_slice.ensures sound) c.in_err-ends.ensures.ends in
    err_so _ (IsTold (ScriptFault s)) (λ e is. subst (IsTold (ScriptFault s)) (sym is) told) c.from_residual-in_err-ends.result c.from_residual-in_err-ends.ensures.1

pub returns-then-not-is_last-clause-fault : goal.returns-then-not-is_last-clause-fault
returns-then-not-is_last-clause-fault c =
    let s = c.args.script in
    let parts = nothing (IsKindOfParts s) c.in_ok-kind.field-0 c.in_default.not-Some c.in_ok-kind.ensures in
    let first = some_case _ _ c.in_ok-first.field-0 c.in-Some-2.first c.in-Some-2.is c.in_ok-first.ensures.first in
    let sound = whole_is_sound s parts first.0 c.if-not-is_small.ensures in
    let table = c.code_ends.new.types in
    let e = end_of c.in_ok-ends.ends in
    let code = c.in_ok-ends.ensures.ends in
    let typed = code_typed s c.first_item.new.types c.in-Some-2.first first.1 _ c.as_slice.ensures (end_at table e) code.0 in
    let grows = grows_more _ _ _ c.intern_type.ensures.grows c.last_item.ensures.grows in
    let last =
    subst (λ (t : Ty). IsTypeOf c.last_item.new.types c.in_ok-last.last (type.Pair (type.List type.Operation) t)) c.in_ok-storage.ensures.number.is
    c.in_ok-last.ensures.last in
    here_told _ c.here-then-not-is_last.result kind.LastStack c.here-then-not-is_last.ensures
    (of_the_end (end_at table e) sound typed
    (ends_otherwise s table c.last_item.new.types grows e code.1 c.in_ok-last.last last c.are_distinct.ensures (λ so. let h = c.if-not-is_last.ensures.1 so in cc)))

pub new-requires : goal.new-requires
new-requires c =
    let s = c.args.script in
    let parts = nothing (IsKindOfParts s) c.in_ok-kind.field-0 c.in_default.not-Some c.in_ok-kind.ensures in
    let first = some_case _ _ c.in_ok-first.field-0 c.in-Some-2.first c.in-Some-2.is c.in_ok-first.ensures.first in
    let sound = whole_is_sound s parts first.0 c.if-not-is_small.ensures in
    let table = c.code_ends.new.types in
    let e = end_of c.in_ok-ends.ends in
    let code = c.in_ok-ends.ensures.ends in
    let typed = code_typed s c.first_item.new.types c.in-Some-2.first first.1 _ c.as_slice.ensures (end_at table e) code.0 in
    let grows = grows_more _ _ _ c.intern_type.ensures.grows c.last_item.ensures.grows in
    let last =
    subst (λ (t : Ty). IsTypeOf c.last_item.new.types c.in_ok-last.last (type.Pair (type.List type.Operation) t)) c.in_ok-storage.ensures.number.is
    c.in_ok-last.ensures.last in
    script_typed s sound (end_at table e) typed (ends_last s table c.last_item.new.types grows e code.1 c.in_ok-last.last last (c.if-not-is_last.ensures.0 refl))
