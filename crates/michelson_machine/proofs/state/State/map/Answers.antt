use Rattle.std.proofs.Common.{List, ap, sym, ◌∙◌}
use Rattle.value_core.specs.declared.val.Val.{Val}
use Rattle.value_core.specs.declared.val.Val.TheViews.{out-Val}
use Rattle.michelson_rules.specs.Runs.{Run, then_do}
use Rattle.michelson_rules.specs.Bodies.{on_top}
use Rattle.michelson_rules.specs.Rules.{mapped}
use Rattle.michelson_rules.specs.Metered.{outcome_of}
use Rattle.michelson_machine.specs.declared.state.State.{State}
use Rattle.michelson_machine.specs.Resume.{beside_of, mapping, resumed}
use Rattle.michelson_machine.specs.Steps.{runs}
use Rattle.michelson_machine.proofs.StepLaws.{enacts_by}
use Rattle.michelson_machine.proofs.LoopLaws.{mapped_is}
use Rattle.michelson_machine.proofs.state.State.map.Goals as goal

pub returns-in_ok-items-in-Some-clause-same : goal.returns-in_ok-items-in-Some-clause-same
returns-in_ok-items-in-Some-clause-same c =
    let m : State = c.args.self.now in
    enacts_by (λ w. on_top (mapped (runs m w c.args.body.now)))
    (λ w. mapping (runs m w c.args.body.now) c.in_ok-keys-in-Some.keys c.new.result c.in_ok-items-in-Some.items)
    m (record m { stack = c.pop.new.self }) c.map_rest.new.self c.map_rest.result
    (λ w never. ap (λ (r : Run (List Val)). outcome_of m.left (then_do r (resumed m.script.now m.env w m.frames)))
    (ap (λ s. on_top (mapped (runs m w c.args.body.now)) s (beside_of m)) c.in-Some.ensures
    ∙ mapped_is (runs m w c.args.body.now) (out-Val c.in-Some.top) c.in_ok-keys-in-Some.keys c.in_ok-items-in-Some.items c.pop.new.self (beside_of m)
    c.in_ok-keys-in-Some.ensures c.in_ok-items-in-Some.ensures
    ∙ ap (λ d. mapping (runs m w c.args.body.now) c.in_ok-keys-in-Some.keys d c.in_ok-items-in-Some.items c.pop.new.self (beside_of m)) (sym c.new.ensures)))
    c.map_rest.ensures.same
