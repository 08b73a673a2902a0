-- A contract that is called takes the param as it is wrapped.
use Rattle.std.proofs.Common.{refl, sym}
use Rattle.op_run.proofs.Stepping.{calls_typed}
use Rattle.op_run.proofs.state.State.call.Goals as goal

pub ask-requires : goal.ask-requires
ask-requires c =
    let there = sym c.in-Some.ensures.script in
    (calls_typed c.args.self.now.book.now c.args.t c.in-Some.code.now.script c.requires.0 there c.in-Some.ensures.listed.contract, refl, c.requires.1)

pub returns-in-Some-clause-safe : goal.returns-in-Some-clause-safe
returns-in-Some-clause-safe c = λ m fit safe. c.ask.ensures.safe m (record { now = safe.now; pending = safe.pending })
