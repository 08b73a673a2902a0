-- A code begins with what its storage leaves of the room.
use Rattle.op_run.proofs.Starting.{starts}
use Rattle.op_run.proofs.state.State.start.Goals as goal

pub returns-in-None-clause-safe : goal.returns-in-None-clause-safe
returns-in-None-clause-safe c = λ m all safe. c.fail.ensures.safe m safe.pending

pub returns-in_ok-machine-in-Some-clause-same : goal.returns-in_ok-machine-in-Some-clause-same
returns-in_ok-machine-in-Some-clause-same c = λ m all safe.
    starts c.args.self.now (record { dest = c.args.t.dest; code = c.args.code; stored = c.args.stored; machine = c.in_ok-machine-in-Some.machine }) c.args.t
    c.in-Some.room c.in-Some.ensures c.in_ok-machine-in-Some.ensures.same c.go_on.new.self c.go_on.ensures m
