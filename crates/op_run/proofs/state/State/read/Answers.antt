-- The look is the access that is asked for.
use Rattle.op_run.proofs.CodeTurns.{reads_on, reads_safe}
use Rattle.op_run.proofs.state.State.read.Goals as goal

pub returns-clause-same : goal.returns-clause-same
returns-clause-same c = reads_on c.args.self.now c.args.code c.args.cell c.ask.new.self c.left-self.result c.left-self.ensures c.ask.ensures.same

pub returns-clause-safe : goal.returns-clause-safe
returns-clause-safe c = reads_safe c.args.self.now c.args.code c.args.cell c.ask.new.self c.left-self.result c.left-self.ensures c.ask.ensures.safe
