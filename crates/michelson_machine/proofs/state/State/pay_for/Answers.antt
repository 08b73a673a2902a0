use Rattle.michelson_rules.specs.Metered.{less_gas}
use Rattle.michelson_rules.specs.Rules.{charges, rule}
use Rattle.michelson_machine.specs.declared.state.State.{State}
use Rattle.michelson_machine.specs.Steps.{acted}
use Rattle.michelson_machine.proofs.StepLaws.{charged_first, enacts_by}
use Rattle.michelson_machine.proofs.state.State.pay_for.Goals as goal

pub returns-clause-same : goal.returns-clause-same
returns-clause-same c =
    let m : State = c.args.self.now in
    enacts_by (λ w. rule charges m.script.now m.env w c.args.instr.now) (λ w. acted m w c.args.instr.now) m (record m { left = less_gas m.left c.cost-cost.result })
    c.act.new.self c.act.result (λ w never. charged_first w m c.args.instr.now c.cost-cost.result c.cost-cost.ensures c.if-self-cost.false) c.act.ensures.same
