use Rattle.michelson_machine.proofs.TurnLaws.{told_fails, told_on}
use Rattle.michelson_machine.proofs.machine.Machine.advance.Goals as goal

pub returns-in-On-clause-same : goal.returns-in-On-clause-same
returns-in-On-clause-same c =
    told_on c.args.self.now c.turn-in-On.new.self c.in-Told.look c.in-Told.v c.answer.new.self c.run-in-On.new.self c.in_ok-answer-in-Told.field-0
    c.in_ok-step-in-On.step c.turn-in-On.result c.in-Told.ensures.value c.in_ok-answer-in-Told.ensures.same c.in-On.is
    c.in_ok-step-in-On.ensures.same c.turn-in-On.ensures.same

pub returns-in-Fail-clause-same : goal.returns-in-Fail-clause-same
returns-in-Fail-clause-same c =
    told_fails c.args.self.now c.in-Told.look c.in-Told.v c.answer.new.self c.in_ok-answer-in-Told.field-0 c.in-Fail.why
    c.in-Told.ensures.value c.in_ok-answer-in-Told.ensures.same c.in-Fail.is
