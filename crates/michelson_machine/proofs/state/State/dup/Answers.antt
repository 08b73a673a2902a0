use Rattle.std.proofs.Common.{◌≡◌, ◌∷◌, Some, ◌-◌, slice_get, ap, sym, ◌∙◌}
use Rattle.michelson_rules.specs.Runs.{then_do}
use Rattle.michelson_rules.specs.Rules.{answered}
use Rattle.michelson_rules.specs.Metered.{outcome_of}
use Rattle.michelson_machine.specs.declared.state.State.{State}
use Rattle.michelson_machine.specs.Resume.{beside_of, resumed}
use Rattle.michelson_machine.proofs.LoopLaws.{copied_is}
use Rattle.michelson_machine.proofs.state.State.dup.Goals as goal

pub returns-in_ok-push-in-Some-clause-same : goal.returns-in_ok-push-in-Some-clause-same
returns-in_ok-push-in-Some-clause-same c =
    λ w never.
    let m : State = c.args.self.now in
    let there : slice_get m.stack (c.args.number - 1) ≡ Some c.in-Some.item.now = sym c.in-Some.ensures in
    let pushed : c.in-Some.item.now ∷ m.stack ≡ c.push.new.self = cc (c.in_ok-push-in-Some.ensures.ok, c.in_ok-copy-in-Some.ensures) in
    ap (λ a. outcome_of m.left (then_do (answered a (beside_of m)) (resumed m.script.now m.env w m.frames))) (copied_is c.args.number m.stack c.in-Some.item.now c.if-number-eq0.false there)
    ∙ ap (λ s. outcome_of m.left (resumed m.script.now m.env w m.frames s (beside_of m))) pushed
