use Rattle.std.proofs.Common.{◌≡◌, List, ap, sym, subst, ◌∙◌}
use Rattle.value_core.specs.declared.val.Val.{Val}
use Rattle.michelson_rules.specs.Runs.{Run, then_do}
use Rattle.michelson_rules.specs.Bodies.{On, by_top, looped}
use Rattle.michelson_rules.specs.Rules.{charges}
use Rattle.michelson_rules.specs.EachRun.{LoopsOn}
use Rattle.michelson_rules.specs.Metered.{outcome_of}
use Rattle.michelson_machine.specs.declared.frame.While.{While}
use Rattle.michelson_machine.specs.declared.frame.Frame.TheVariants as frame
use Rattle.michelson_machine.specs.declared.state.State.{State}
use Rattle.michelson_machine.specs.Resume.{beside_of, loops_on, resumed}
use Rattle.michelson_machine.specs.Steps.{follows, runs, started}
use Rattle.michelson_machine.proofs.StepLaws.{enacts_by}
use Rattle.michelson_machine.proofs.LoopLaws.{left_on, loop_on, true_on}
use Rattle.michelson_machine.proofs.state.State.again.Goals as goal

pub returns-in-Bool-true-clause-same : goal.returns-in-Bool-true-clause-same
returns-in-Bool-true-clause-same c =
    let m : State = c.args.self.now in
    let kind : While = c.args.kind in
    let goes : by_top (loops_on kind) m.stack ≡ On c.pop.new.self = ap (λ k. by_top (loops_on k) m.stack) c.in-True.is ∙ true_on m.stack c.pop.new.self c.in-Some.top c.in-Some.ensures (cc) in
    enacts_by (λ w. looped (loops_on kind) (runs m w c.args.body.now)) (λ w. started (runs m w c.args.body.now) (follows m w (frame.Again kind c.args.body)))
    m (record m { stack = c.pop.new.self }) c.turn.new.self c.turn.result
    (λ w never. ap (λ (r : Run (List Val)). outcome_of m.left (then_do r (resumed m.script.now m.env w m.frames)))
    (loop_on kind (runs m w) (let P : While → Type 0 = λ k. LoopsOn (loops_on k) (runs m w) in
    subst P (sym c.in-True.is) (c.a_loop_is_its_body_and_itself.ensures.while_true charges c.both_ways_to_charge_are_fair.ensures.charges m.script.now m.env w))
    c.args.body.now m.stack c.pop.new.self (beside_of m) goes)) c.turn.ensures.same

pub returns-in-Left-top-clause-same : goal.returns-in-Left-top-clause-same
returns-in-Left-top-clause-same c =
    let m : State = c.args.self.now in
    let kind : While = c.args.kind in
    let goes : by_top (loops_on kind) m.stack ≡ On c.push_part.new.self = ap (λ k. by_top (loops_on k) m.stack) c.in-Left.is ∙ left_on m.stack c.pop.new.self c.in-Some.top c.in-Left-top.field-0 c.in-Some.ensures c.in-Left-top.is
    ∙ ap On (sym (c.in_ok-push_part-in-Left-top.ensures.left c.in-Left-top.field-0 c.in-Left-top.is)) in
    enacts_by (λ w. looped (loops_on kind) (runs m w c.args.body.now)) (λ w. started (runs m w c.args.body.now) (follows m w (frame.Again kind c.args.body)))
    m (record m { stack = c.push_part.new.self }) c.turn-in-Left-top.new.self c.turn-in-Left-top.result
    (λ w never. ap (λ (r : Run (List Val)). outcome_of m.left (then_do r (resumed m.script.now m.env w m.frames)))
    (loop_on kind (runs m w) (let P : While → Type 0 = λ k. LoopsOn (loops_on k) (runs m w) in
    subst P (sym c.in-Left.is) (c.a_loop_is_its_body_and_itself.ensures.while_left charges c.both_ways_to_charge_are_fair.ensures.charges m.script.now m.env w))
    c.args.body.now m.stack c.push_part.new.self (beside_of m) goes)) c.turn-in-Left-top.ensures.same
