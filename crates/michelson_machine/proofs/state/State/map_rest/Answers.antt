use Rattle.std.proofs.Common.{◌∷◌, ◌++◌, [], List, ap, sym, ◌∙◌}
use Rattle.value_core.specs.declared.val.Val.{Val}
use Rattle.michelson_rules.specs.Runs.{Run, then_do}
use Rattle.michelson_rules.specs.Metered.{outcome_of}
use Rattle.michelson_machine.specs.declared.frame.Frame.TheVariants as frame
use Rattle.michelson_machine.specs.declared.state.State.{State}
use Rattle.michelson_machine.specs.Resume.{beside_of, mapping, resumed, with_top}
use Rattle.michelson_machine.specs.Steps.{follows, runs, started}
use Rattle.michelson_machine.proofs.StepLaws.{enacts_by}
use Rattle.michelson_machine.proofs.LoopLaws.{map_on}
use Rattle.michelson_machine.proofs.state.State.map_rest.Goals as goal

pub returns-clause-same : goal.returns-clause-same
returns-clause-same c =
    let m : State = c.args.self.now in
    enacts_by (λ w. mapping (runs m w c.args.body.now) c.args.keys c.args.done c.args.items)
    (λ w. started (runs m w c.args.body.now) (follows m w (frame.Mapping (record { body = c.args.body; items = c.pop.new.self; keys = c.args.keys; done = c.args.done }))))
    m (record m { stack = c.push.new.self }) c.turn.new.self c.turn.result
    (λ w never. ap (λ (r : Run (List Val)). outcome_of m.left (then_do r (resumed m.script.now m.env w m.frames)))
    (ap (λ i. mapping (runs m w c.args.body.now) c.args.keys c.args.done i m.stack (beside_of m)) c.in-Some.ensures
    ∙ map_on (runs m w c.args.body.now) c.args.keys c.args.done c.in-Some.item c.pop.new.self m.stack (beside_of m)
    ∙ ap (λ s. started (runs m w c.args.body.now) (with_top (λ y. mapping (runs m w c.args.body.now) c.args.keys (c.args.done ++ y ∷ []) c.pop.new.self)) s (beside_of m)) (sym c.in_ok-push-in-Some.ensures.ok)))
    c.turn.ensures.same
