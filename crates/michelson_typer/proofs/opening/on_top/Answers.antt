use Rattle.std.proofs.Common.{◌≡◌, false, [], ◌∷◌, Some, ap, sym, ◌∙◌, rules}
use Rattle.michelson_code.specs.declared.instr.Instr.TheViews.{out-Instr}
use Rattle.michelson_typer.specs.declared.extent.Extent.{Extent}
use Rattle.michelson_typer.specs.Opened.{has_bodies}
use Rattle.michelson_typer.proofs.OpeningLaws.{handed, none_begin, opens_failwith, opens_if, opens_if_cons, opens_if_left, opens_if_none, opens_loop, opens_loop_left, shut_if, shut_if_cons, shut_if_left, shut_if_none, shut_loop, shut_loop_left}
use Rattle.michelson_typer.proofs.opening.on_top.Goals as goal

pub returns-in-Bool-clause-starts : goal.returns-in-Bool-clause-starts
unfolding out-Instr denote.Hole.Carrier.out
returns-in-Bool-clause-starts c =
    handed c.args.types.now c.args.types.now c.args.instr.now (c.args.top ∷ c.args.rest.now) c.two_bodies.result (Some ((0, c.args.rest.now) ∷ (0, c.args.rest.now) ∷ [])) c.two_bodies.ensures
    (opens_if c.args.types.now c.args.instr.now c.args.top c.args.rest.now c.requires.stack _ _ (ap out-Instr c.in-If.is) c.in-Bool.ensures.is)

pub returns-in-Option-clause-starts : goal.returns-in-Option-clause-starts
unfolding out-Instr denote.Hole.Carrier.out
returns-in-Option-clause-starts c =
    handed c.args.types.now c.args.types.now c.args.instr.now (c.args.top ∷ c.args.rest.now) c.two_bodies-in-Option.result (Some ((0, c.args.rest.now) ∷ (0, c.in-Option.a ∷ c.args.rest.now) ∷ [])) c.two_bodies-in-Option.ensures
    (opens_if_none c.args.types.now c.args.instr.now c.args.top c.args.rest.now c.requires.stack _ _ c.in-Option.a (ap out-Instr c.in-IfNone.is) c.in-Option.ensures.is c.in-Option.ensures.parts)

pub returns-in-Or-clause-starts : goal.returns-in-Or-clause-starts
unfolding out-Instr denote.Hole.Carrier.out
returns-in-Or-clause-starts c =
    handed c.args.types.now c.args.types.now c.args.instr.now (c.args.top ∷ c.args.rest.now) c.two_bodies-in-Or.result (Some ((0, c.in-Or.a ∷ c.args.rest.now) ∷ (0, c.in-Or.b ∷ c.args.rest.now) ∷ [])) c.two_bodies-in-Or.ensures
    (opens_if_left c.args.types.now c.args.instr.now c.args.top c.args.rest.now c.requires.stack _ _ c.in-Or.a c.in-Or.b (ap out-Instr c.in-IfLeft.is) c.in-Or.ensures.is c.in-Or.ensures.parts)

pub returns-in-List-clause-starts : goal.returns-in-List-clause-starts
unfolding out-Instr denote.Hole.Carrier.out
returns-in-List-clause-starts c =
    handed c.args.types.now c.args.types.now c.args.instr.now (c.args.top ∷ c.args.rest.now) c.two_bodies-in-List.result (Some ((0, c.in-List.a ∷ c.args.top ∷ c.args.rest.now) ∷ (0, c.args.rest.now) ∷ [])) c.two_bodies-in-List.ensures
    (opens_if_cons c.args.types.now c.args.instr.now c.args.top c.args.rest.now c.requires.stack _ _ c.in-List.a (ap out-Instr c.in-IfCons.is) c.in-List.ensures.is c.in-List.ensures.parts)

pub returns-in-Bool-level-clause-starts : goal.returns-in-Bool-level-clause-starts
unfolding out-Instr denote.Hole.Carrier.out
returns-in-Bool-level-clause-starts c =
    handed c.args.types.now c.args.types.now c.args.instr.now (c.args.top ∷ c.args.rest.now) c.one_body.result (Some ((0, c.args.rest.now) ∷ [])) c.one_body.ensures
    (opens_loop c.args.types.now c.args.instr.now c.args.top c.args.rest.now c.requires.stack _ (ap out-Instr c.in-Loop.is) c.in-Bool-level.ensures.is)

pub returns-in-Or-level-clause-starts : goal.returns-in-Or-level-clause-starts
unfolding out-Instr denote.Hole.Carrier.out
returns-in-Or-level-clause-starts c =
    handed c.args.types.now c.args.types.now c.args.instr.now (c.args.top ∷ c.args.rest.now) c.one_body-in-Or-level.result (Some ((0, c.in-Or-level.a ∷ c.args.rest.now) ∷ [])) c.one_body-in-Or-level.ensures
    (opens_loop_left c.args.types.now c.args.instr.now c.args.top c.args.rest.now c.requires.stack _ c.in-Or-level.a _ (ap out-Instr c.in-LoopLeft.is) c.in-Or-level.ensures.is c.in-Or-level.ensures.parts)

pub returns-in_default-level-clause-starts : goal.returns-in_default-level-clause-starts
unfolding out-Instr denote.Hole.Carrier.out
returns-in_default-level-clause-starts c =
    shut_if c.args.types.now c.args.instr.now c.args.top c.args.rest.now c.requires.stack _ _ c.level.result (ap out-Instr c.in-If.is) c.level.ensures.is c.in_default-level.not-Bool

pub returns-in_default-level-2-clause-starts : goal.returns-in_default-level-2-clause-starts
unfolding out-Instr denote.Hole.Carrier.out
returns-in_default-level-2-clause-starts c =
    shut_if_none c.args.types.now c.args.instr.now c.args.top c.args.rest.now c.requires.stack _ _ c.level-in-IfNone.result (ap out-Instr c.in-IfNone.is) c.level-in-IfNone.ensures.is c.in_default-level-2.not-Option

pub returns-in_default-level-3-clause-starts : goal.returns-in_default-level-3-clause-starts
unfolding out-Instr denote.Hole.Carrier.out
returns-in_default-level-3-clause-starts c =
    shut_if_left c.args.types.now c.args.instr.now c.args.top c.args.rest.now c.requires.stack _ _ c.level-in-IfLeft.result (ap out-Instr c.in-IfLeft.is) c.level-in-IfLeft.ensures.is c.in_default-level-3.not-Or

pub returns-in_default-level-4-clause-starts : goal.returns-in_default-level-4-clause-starts
unfolding out-Instr denote.Hole.Carrier.out
returns-in_default-level-4-clause-starts c =
    shut_if_cons c.args.types.now c.args.instr.now c.args.top c.args.rest.now c.requires.stack _ _ c.level-in-IfCons.result (ap out-Instr c.in-IfCons.is) c.level-in-IfCons.ensures.is c.in_default-level-4.not-List

pub returns-in_default-level-5-clause-starts : goal.returns-in_default-level-5-clause-starts
unfolding out-Instr denote.Hole.Carrier.out
returns-in_default-level-5-clause-starts c =
    shut_loop c.args.types.now c.args.instr.now c.args.top c.args.rest.now c.requires.stack _ c.level-in-Loop.result (ap out-Instr c.in-Loop.is) c.level-in-Loop.ensures.is c.in_default-level-5.not-Bool

pub returns-in_default-level-6-clause-starts : goal.returns-in_default-level-6-clause-starts
unfolding out-Instr denote.Hole.Carrier.out
returns-in_default-level-6-clause-starts c =
    shut_loop_left c.args.types.now c.args.instr.now c.args.top c.args.rest.now c.requires.stack _ c.level-in-LoopLeft.result (ap out-Instr c.in-LoopLeft.is) c.level-in-LoopLeft.ensures.is c.in_default-level-6.not-Or

pub returns-in_default-clause-starts : goal.returns-in_default-clause-starts
returns-in_default-clause-starts c =
    let none : has_bodies (out-Instr c.args.instr.now) ≡ false = search rules in
    none_begin c.args.types.now c.args.instr.now (c.args.top ∷ c.args.rest.now) none

pub returns-in-true-clause-starts : goal.returns-in-true-clause-starts
unfolding out-Instr denote.Hole.Carrier.out
returns-in-true-clause-starts c =
    opens_failwith c.args.types.now c.args.instr.now c.args.top c.args.rest.now c.requires.stack (ap out-Instr c.in-Failwith.is)
    (sym (ap (λ (e : Extent). e.passable) c.extent.ensures) ∙ c.in-true.is)
