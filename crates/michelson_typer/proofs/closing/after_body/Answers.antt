use Rattle.std.proofs.Common.{ℕ, subst, List, [], ◌∷◌, drop, take, ap}
use Rattle.std.proofs.lemmas.Result.{IfOk-weaker}
use Rattle.michelson_code.specs.declared.instr.Instr.{Instr}
use Rattle.michelson_code.specs.declared.instr.Instr.TheViews.{out-Instr}
use Rattle.michelson_typer.specs.declared.stack.Ends.{Ends}
use Rattle.michelson_code.specs.declared.type_fault.TypeKind.{TypeKind}
use Rattle.std.specs.Prelude.{IfOk, Result}
use Rattle.michelson_typer.specs.Closed.{Closes, IsDipped, IsMapped, IsRound, closed, end_of}
use Rattle.michelson_typer.specs.Opened.{dips}
use Rattle.michelson_typer.proofs.EndingLaws.{ending_dip, ending_dip_n, ending_iter, ending_loop, ending_loop_left, ending_map, finds_n, finds_or, finds_top, rest_is}
use Rattle.michelson_typer.proofs.closing.after_body.Goals as goal

pub after_dip-requires-in-DipN : goal.after_dip-requires-in-DipN
unfolding out-Instr denote.Hole.Carrier.out
after_dip-requires-in-DipN c = finds_n c.args.types.now c.args.instr.now c.args.stack.now c.requires.begun c.requires.stack c.in-DipN.n _ (ap out-Instr c.in-DipN.is)

pub returns-in-Dip-clause-closes : goal.returns-in-Dip-clause-closes
unfolding out-Instr denote.Hole.Carrier.out
returns-in-Dip-clause-closes c =
    let stack = c.args.stack.now in
    let e = end_of c.args.end in
    IfOk-weaker c.after_dip.result (λ (a : Result Ends TypeKind). IsDipped (take 1 stack) e (closed a)) (λ (a : Result Ends TypeKind). Closes c.args.types.now c.args.types.now c.args.instr.now stack (e ∷ []) (closed a))
    (λ a so. ending_dip c.args.types.now c.args.instr.now c.args.stack.now c.requires.begun c.requires.stack c.are_distinct.ensures e c.requires.end (closed a) _ (ap out-Instr c.in-Dip.is) so)
    c.after_dip.ensures

pub returns-in-DipN-clause-closes : goal.returns-in-DipN-clause-closes
unfolding out-Instr denote.Hole.Carrier.out
returns-in-DipN-clause-closes c =
    let stack = c.args.stack.now in
    let e = end_of c.args.end in
    IfOk-weaker c.after_dip-in-DipN.result (λ (a : Result Ends TypeKind). IsDipped (take c.in-DipN.n stack) e (closed a)) (λ (a : Result Ends TypeKind). Closes c.args.types.now c.args.types.now c.args.instr.now stack (e ∷ []) (closed a))
    (λ a so. ending_dip_n c.args.types.now c.args.instr.now c.args.stack.now c.requires.begun c.requires.stack c.are_distinct.ensures e c.requires.end (closed a) c.in-DipN.n _ (ap out-Instr c.in-DipN.is) so)
    c.after_dip-in-DipN.ensures

pub returns-in-Map-clause-closes : goal.returns-in-Map-clause-closes
unfolding out-Instr denote.Hole.Carrier.out
returns-in-Map-clause-closes c =
    let stack = c.args.stack.now in
    let e = end_of c.args.end in
    IfOk-weaker c.after_map.result (λ (a : Result Ends TypeKind). IsMapped c.args.types.now c.after_map.new.types stack e (closed a)) (λ (a : Result Ends TypeKind). Closes c.args.types.now c.after_map.new.types c.args.instr.now stack (e ∷ []) (closed a))
    (λ a so. ending_map c.args.types.now c.args.instr.now c.args.stack.now c.requires.begun c.requires.stack c.are_distinct.ensures e c.requires.end (closed a) c.after_map.new.types c.after_map.ensures.grows _ (ap out-Instr c.in-Map.is) so)
    c.after_map.ensures.mapped

pub returns-in-Or-clause-closes : goal.returns-in-Or-clause-closes
unfolding out-Instr denote.Hole.Carrier.out
returns-in-Or-clause-closes c =
    let stack = c.args.stack.now in
    let e = end_of c.args.end in
    IfOk-weaker c.after_round.result (λ (a : Result Ends TypeKind). IsRound stack (c.in-Or.b ∷ drop 1 stack) e (closed a)) (λ (a : Result Ends TypeKind). Closes c.args.types.now c.args.types.now c.args.instr.now stack (e ∷ []) (closed a))
    (λ a so. ending_loop_left c.args.types.now c.args.instr.now c.args.stack.now c.requires.begun c.requires.stack c.are_distinct.ensures e c.requires.end (closed a) _ c.in-Or.field-0 c.in-Or.b (ap out-Instr c.in-LoopLeft.is) c.in-len1-up.len_at_least c.in-Or.ensures.is c.in-Or.ensures.parts so)
    (subst (λ (z : List ℕ). IfOk c.after_round.result (λ (a : Result Ends TypeKind). IsRound stack (c.in-Or.b ∷ z) e (closed a))) (rest_is stack) c.after_round.ensures)

pub returns-in-len1-up-stack-clause-closes : goal.returns-in-len1-up-stack-clause-closes
unfolding out-Instr denote.Hole.Carrier.out
returns-in-len1-up-stack-clause-closes c =
    let stack = c.args.stack.now in
    let e = end_of c.args.end in
    IfOk-weaker c.after_round-in-len1-up-stack.result (λ (a : Result Ends TypeKind). IsRound stack (drop 1 stack) e (closed a)) (λ (a : Result Ends TypeKind). Closes c.args.types.now c.args.types.now c.args.instr.now stack (e ∷ []) (closed a))
    (λ a so. ending_loop c.args.types.now c.args.instr.now c.args.stack.now c.requires.begun c.requires.stack c.are_distinct.ensures e c.requires.end (closed a) _ (ap out-Instr c.in-Loop.is) c.in-len1-up-stack.len_at_least so)
    (subst (λ (z : List ℕ). IfOk c.after_round-in-len1-up-stack.result (λ (a : Result Ends TypeKind). IsRound stack z e (closed a))) (rest_is stack) c.after_round-in-len1-up-stack.ensures)

pub returns-in-len1-up-stack-2-clause-closes : goal.returns-in-len1-up-stack-2-clause-closes
unfolding out-Instr denote.Hole.Carrier.out
returns-in-len1-up-stack-2-clause-closes c =
    let stack = c.args.stack.now in
    let e = end_of c.args.end in
    IfOk-weaker c.after_round-in-len1-up-stack-2.result (λ (a : Result Ends TypeKind). IsRound (drop 1 stack) (drop 1 stack) e (closed a)) (λ (a : Result Ends TypeKind). Closes c.args.types.now c.args.types.now c.args.instr.now stack (e ∷ []) (closed a))
    (λ a so. ending_iter c.args.types.now c.args.instr.now c.args.stack.now c.requires.begun c.requires.stack c.are_distinct.ensures e c.requires.end (closed a) _ (ap out-Instr c.in-Iter.is) c.in-len1-up-stack-2.len_at_least so)
    (subst (λ (z : List ℕ). IfOk c.after_round-in-len1-up-stack-2.result (λ (a : Result Ends TypeKind). IsRound z z e (closed a))) (rest_is stack) c.after_round-in-len1-up-stack-2.ensures)

pub returns-in-empty-clause-closes : goal.returns-in-empty-clause-closes
unfolding out-Instr denote.Hole.Carrier.out
returns-in-empty-clause-closes c = absurd (finds_top c.args.types.now c.args.instr.now c.args.stack.now c.requires.begun c.requires.stack c.in-empty.len_below (ap (λ (i : Instr). dips (out-Instr i)) c.in-LoopLeft.is))

pub returns-in-empty-stack-clause-closes : goal.returns-in-empty-stack-clause-closes
unfolding out-Instr denote.Hole.Carrier.out
returns-in-empty-stack-clause-closes c = absurd (finds_top c.args.types.now c.args.instr.now c.args.stack.now c.requires.begun c.requires.stack c.in-empty-stack.len_below (ap (λ (i : Instr). dips (out-Instr i)) c.in-Loop.is))

pub returns-in-empty-stack-2-clause-closes : goal.returns-in-empty-stack-2-clause-closes
unfolding out-Instr denote.Hole.Carrier.out
returns-in-empty-stack-2-clause-closes c = absurd (finds_top c.args.types.now c.args.instr.now c.args.stack.now c.requires.begun c.requires.stack c.in-empty-stack-2.len_below (ap (λ (i : Instr). dips (out-Instr i)) c.in-Iter.is))

pub returns-in_default-level-clause-closes : goal.returns-in_default-level-clause-closes
unfolding out-Instr denote.Hole.Carrier.out
returns-in_default-level-clause-closes c =
    absurd (finds_or c.args.types.now c.args.instr.now c.args.stack.now c.requires.begun c.requires.stack _ c.level.result (ap out-Instr c.in-LoopLeft.is) c.in-len1-up.len_at_least c.level.ensures.is c.in_default-level.not-Or)
