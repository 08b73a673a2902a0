-- What is told is what the ledger answers.
use Rattle.op_run.proofs.CodeTurns.{tells_on, tells_safe}
use Rattle.op_run.proofs.state.State.tell.Goals as goal

pub returns-clause-same : goal.returns-clause-same
returns-clause-same c =
    tells_on c.args.self.now c.args.code c.in_ok-code.code c.standing-answer.result c.in_ok-code.ensures c.args.address c.args.entry c.args.ty c.standing-answer.ensures c.go_on.new.self c.go_on.ensures

pub returns-clause-safe : goal.returns-clause-safe
returns-clause-safe c =
    tells_safe c.args.self.now c.args.code c.in_ok-code.code c.standing-answer.result c.in_ok-code.ensures c.args.address c.args.entry c.args.ty c.standing-answer.ensures c.go_on.new.self c.go_on.ensures
