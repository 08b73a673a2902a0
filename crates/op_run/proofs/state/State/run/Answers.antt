-- A code that has turned goes on as its question or its end does.
use Rattle.op_run.proofs.CodeTurns.{closed_goes, closed_goes_safe, looked_goes, looked_goes_safe}
use Rattle.op_run.proofs.state.State.run.Goals as goal

pub returns-in-Ask-clause-same : goal.returns-in-Ask-clause-same
returns-in-Ask-clause-same c =
    looked_goes c.args.self.now c.args.code c.in_ok-code.code c.look.new.self c.in_ok-code.turn c.in_ok-code.ensures c.look.result c.in-Ask.ask c.in-Ask.is
    c.look.ensures.same

pub returns-in-Ask-clause-safe : goal.returns-in-Ask-clause-safe
returns-in-Ask-clause-safe c =
    looked_goes_safe c.args.self.now c.args.code c.in_ok-code.code c.look.new.self c.in_ok-code.turn c.in_ok-code.ensures c.look.result c.in-Ask.ask c.in-Ask.is
    c.look.ensures.safe

pub returns-in-Done-clause-same : goal.returns-in-Done-clause-same
returns-in-Done-clause-same c =
    closed_goes c.args.self.now c.args.code c.in_ok-code.code c.close-closed.new.self c.in_ok-code.turn c.in_ok-code.ensures c.close-closed.result c.in-Done.end c.in-Done.is
    c.close-closed.ensures.same

pub returns-in-Done-clause-safe : goal.returns-in-Done-clause-safe
returns-in-Done-clause-safe c =
    closed_goes_safe c.args.self.now c.args.code c.in_ok-code.code c.close-closed.new.self c.in_ok-code.turn c.in_ok-code.ensures c.close-closed.result c.in-Done.end c.in-Done.is
    c.close-closed.ensures.safe
