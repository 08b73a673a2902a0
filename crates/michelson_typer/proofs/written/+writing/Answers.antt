-- A level has its number, or it waits for a last part that has fewer nodes.
use Rattle.std.proofs.Common.{◌≡◌, ◌<◌, ◌≤◌, ap, subst, sym, ◌∙◌, arith}
use Rattle.value_core.specs.Nodes.{nodes_of}
use Rattle.michelson_typer.specs.Stacks.{IsLevelFor}
use Rattle.michelson_typer.specs.Tables.{IsTypeOf, type_at}
use Rattle.michelson_typer.specs.Writing.{IsBegun, over_all}
use Rattle.michelson_typer.proofs.GrowLaws.{grows_more}
use Rattle.michelson_typer.proofs.ResultLaws.{with_ok}
use Rattle.std.proofs.Common.{List}
use Rattle.michelson_typer.specs.declared.written.Waiting.{Waiting}
use Rattle.michelson_typer.proofs.WritingLaws.{IsUnder, opens, over_all-later, waiting-later}
use Rattle.michelson_typer.proofs.written.+writing.Goals as goal

pub intern_type-close_all-requires-clause-above : goal.intern_type-close_all-requires-clause-above
intern_type-close_all-requires-clause-above t c =
    waiting-later c.loop-above.types c.intern.new.self (grows_more c.loop-above.types c.open_type.new.types c.intern.new.self c.open_type.ensures.grows c.intern.ensures.grows)
    c.loop-above.above.items c.loop-above.invariant.1.waiting

pub intern_type-returns-in-Whole-clause-number : goal.intern_type-returns-in-Whole-clause-number
intern_type-returns-in-Whole-clause-number t c =
    let table = c.loop-above.types in
    let new = c.intern.new.self in
    let grows = grows_more table c.open_type.new.types new c.open_type.ensures.grows c.intern.ensures.grows in
    let level : IsLevelFor c.open_type.new.types c.in-Whole.level c.loop-above.rest.now =
    subst (IsBegun c.open_type.new.types c.loop-above.rest.now) c.in-Whole.is c.in_ok-level.ensures.begun in
    let rest : type_at new c.in_ok-id-in-Whole.id ≡ c.loop-above.rest.now = c.in_ok-id-in-Whole.ensures.number.is ∙ level.is in
    let whole : over_all new c.loop-above.above.items (type_at new c.in_ok-id-in-Whole.id) ≡ c.args.t.now =
    ap (over_all new c.loop-above.above.items) rest ∙ over_all-later table new grows c.loop-above.above.items c.loop-above.rest.now c.loop-above.invariant.1.waiting
    ∙ c.loop-above.invariant.1.is in
    with_ok _ _ (λ id made. subst (IsTypeOf c.close_all.new.types id) whole made) c.close_all.result c.close_all.ensures.number

pub intern_type-loop-above-preserved : goal.intern_type-loop-above-preserved
intern_type-loop-above-preserved t c =
    let begun = subst (IsBegun c.open_type.new.types c.loop-above.rest.now) c.in-Waits.is c.in_ok-level.ensures.begun in
    let fewer : nodes_of c.in-Waits.last.now < nodes_of c.loop-above.rest.now = begun.2 in
    let few : nodes_of c.loop-above.rest.now ≤ nodes_of c.args.t.now = c.loop-above.invariant.0 in (
      omega arith,
      subst (λ (ws : List Waiting). IsUnder c.args.types.now c.args.t.now c.open_type.new.types ws c.in-Waits.last.now) (sym c.in_ok-push-in-Waits.ensures.items)
          (opens _ _ c.loop-above.types c.open_type.new.types c.open_type.ensures.grows c.loop-above.above.items c.in-Waits.waiting c.loop-above.rest.now c.in-Waits.last.now
          begun.0 begun.1 c.loop-above.invariant.1),
    )
