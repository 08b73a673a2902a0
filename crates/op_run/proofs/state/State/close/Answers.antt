-- What is returned is kept; after a failure what waits is as safe as it was.
use Rattle.op_run.proofs.CodeTurns.{kept_closes, kept_closes_safe}
use Rattle.op_run.proofs.state.State.close.Goals as goal

pub returns-in-Fail-clause-safe : goal.returns-in-Fail-clause-safe
returns-in-Fail-clause-safe c = λ m all o is safe. c.fail.ensures.safe m safe.pending

pub returns-in-Return-clause-same : goal.returns-in-Return-clause-same
returns-in-Return-clause-same c =
    kept_closes c.args.self.now c.args.code.now c.in-Return.left c.keep.new.self c.in-Return.ops c.in-Return.storage c.in-Return.changes c.args.end c.in-Return.is
    c.keep.result c.keep.ensures.same

pub returns-in-Return-clause-safe : goal.returns-in-Return-clause-safe
returns-in-Return-clause-safe c =
    kept_closes_safe c.args.self.now c.args.code.now c.in-Return.left c.keep.new.self c.in-Return.ops c.in-Return.storage c.in-Return.changes c.args.end c.in-Return.is
    c.keep.result c.keep.ensures.safe
