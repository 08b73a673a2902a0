-- A step is that of its phase.
use Rattle.std.proofs.Common.{sym}
use Rattle.op_run.specs.declared.phase.Phase.TheVariants as phase
use Rattle.op_run.specs.Steps.{GoesOn, StaysSafe}
use Rattle.op_run.proofs.Chained.{goes_by, on_ok, safe_by, sound_by}
use Rattle.op_run.proofs.state.State.step.Goals as goal

pub ready-requires : goal.ready-requires
ready-requires c = sound_by c.args.self.now phase.Ready (sym c.in-Ready.ensures.value) c.requires

pub returns-in-Ready-clause-same : goal.returns-in-Ready-clause-same
returns-in-Ready-clause-same c = goes_by c.args.self.now c.ready.new.self phase.Ready (sym c.in-Ready.ensures.value) c.ready.ensures.same

pub returns-in-Ready-clause-safe : goal.returns-in-Ready-clause-safe
returns-in-Ready-clause-safe c = safe_by c.args.self.now c.ready.new.self phase.Ready (sym c.in-Ready.ensures.value) c.ready.ensures.safe

pub enter-requires : goal.enter-requires
enter-requires c = sound_by c.args.self.now (phase.Entering c.in-Entering.t) (sym c.in-Entering.ensures.value) c.requires

pub returns-in-Entering-clause-same : goal.returns-in-Entering-clause-same
returns-in-Entering-clause-same c = goes_by c.args.self.now c.enter.new.self (phase.Entering c.in-Entering.t) (sym c.in-Entering.ensures.value) c.enter.ensures.same

pub returns-in-Entering-clause-safe : goal.returns-in-Entering-clause-safe
returns-in-Entering-clause-safe c = safe_by c.args.self.now c.enter.new.self (phase.Entering c.in-Entering.t) (sym c.in-Entering.ensures.value) c.enter.ensures.safe

pub pay-requires : goal.pay-requires
pay-requires c = sound_by c.args.self.now (phase.Paying c.in-Paying.t) (sym c.in-Paying.ensures.value) c.requires

pub returns-in-Paying-clause-same : goal.returns-in-Paying-clause-same
returns-in-Paying-clause-same c = goes_by c.args.self.now c.pay.new.self (phase.Paying c.in-Paying.t) (sym c.in-Paying.ensures.value) c.pay.ensures.same

pub returns-in-Paying-clause-safe : goal.returns-in-Paying-clause-safe
returns-in-Paying-clause-safe c = safe_by c.args.self.now c.pay.new.self (phase.Paying c.in-Paying.t) (sym c.in-Paying.ensures.value) c.pay.ensures.safe

pub credit-requires : goal.credit-requires
credit-requires c = sound_by c.args.self.now (phase.Crediting c.in-Crediting.t) (sym c.in-Crediting.ensures.value) c.requires

pub returns-in-Crediting-clause-same : goal.returns-in-Crediting-clause-same
returns-in-Crediting-clause-same c = goes_by c.args.self.now c.credit.new.self (phase.Crediting c.in-Crediting.t) (sym c.in-Crediting.ensures.value) c.credit.ensures.same

pub returns-in-Crediting-clause-safe : goal.returns-in-Crediting-clause-safe
returns-in-Crediting-clause-safe c = safe_by c.args.self.now c.credit.new.self (phase.Crediting c.in-Crediting.t) (sym c.in-Crediting.ensures.value) c.credit.ensures.safe

pub call-requires : goal.call-requires
call-requires c = sound_by c.args.self.now (phase.Calling c.in-Calling.t) (sym c.in-Calling.ensures.value) c.requires

pub returns-in-Calling-clause-same : goal.returns-in-Calling-clause-same
returns-in-Calling-clause-same c = goes_by c.args.self.now c.call.new.self (phase.Calling c.in-Calling.t) (sym c.in-Calling.ensures.value) c.call.ensures.same

pub returns-in-Calling-clause-safe : goal.returns-in-Calling-clause-safe
returns-in-Calling-clause-safe c = safe_by c.args.self.now c.call.new.self (phase.Calling c.in-Calling.t) (sym c.in-Calling.ensures.value) c.call.ensures.safe

pub start-requires : goal.start-requires
start-requires c = sound_by c.args.self.now (phase.Starting c.in-Starting.t c.in-Starting.code c.in-Starting.stored) (sym c.in-Starting.ensures.value) c.requires

pub returns-in-Starting-clause-same : goal.returns-in-Starting-clause-same
returns-in-Starting-clause-same c =
    let s = c.args.self.now in
    let p = phase.Starting c.in-Starting.t c.in-Starting.code c.in-Starting.stored in
    on_ok c.start.result (GoesOn s p c.start.new.self) (GoesOn s s.phase c.start.new.self) (goes_by s c.start.new.self p (sym c.in-Starting.ensures.value)) c.start.ensures.same

pub returns-in-Starting-clause-safe : goal.returns-in-Starting-clause-safe
returns-in-Starting-clause-safe c =
    let s = c.args.self.now in
    let p = phase.Starting c.in-Starting.t c.in-Starting.code c.in-Starting.stored in
    on_ok c.start.result (StaysSafe s p c.start.new.self) (StaysSafe s s.phase c.start.new.self) (safe_by s c.start.new.self p (sym c.in-Starting.ensures.value)) c.start.ensures.safe

pub run-requires : goal.run-requires
run-requires c = sound_by c.args.self.now (phase.Running c.in-Running.code) (sym c.in-Running.ensures.value) c.requires

pub returns-in-Running-clause-same : goal.returns-in-Running-clause-same
returns-in-Running-clause-same c =
    let s = c.args.self.now in
    let p = phase.Running c.in-Running.code in
    on_ok c.run.result (GoesOn s p c.run.new.self) (GoesOn s s.phase c.run.new.self) (goes_by s c.run.new.self p (sym c.in-Running.ensures.value)) c.run.ensures.same

pub returns-in-Running-clause-safe : goal.returns-in-Running-clause-safe
returns-in-Running-clause-safe c =
    let s = c.args.self.now in
    let p = phase.Running c.in-Running.code in
    on_ok c.run.result (StaysSafe s p c.run.new.self) (StaysSafe s s.phase c.run.new.self) (safe_by s c.run.new.self p (sym c.in-Running.ensures.value)) c.run.ensures.safe

pub store-requires : goal.store-requires
store-requires c = sound_by c.args.self.now (phase.Storing c.in-Storing.dest c.in-Storing.v c.in-Storing.changes) (sym c.in-Storing.ensures.value) c.requires

pub returns-in-Storing-clause-same : goal.returns-in-Storing-clause-same
returns-in-Storing-clause-same c = goes_by c.args.self.now c.store.new.self (phase.Storing c.in-Storing.dest c.in-Storing.v c.in-Storing.changes) (sym c.in-Storing.ensures.value) c.store.ensures.same

pub returns-in-Storing-clause-safe : goal.returns-in-Storing-clause-safe
returns-in-Storing-clause-safe c = safe_by c.args.self.now c.store.new.self (phase.Storing c.in-Storing.dest c.in-Storing.v c.in-Storing.changes) (sym c.in-Storing.ensures.value) c.store.ensures.safe

pub write-requires : goal.write-requires
write-requires c = sound_by c.args.self.now (phase.Writing c.in-Writing.dest c.in-Writing.changes) (sym c.in-Writing.ensures.value) c.requires

pub returns-in-Writing-clause-same : goal.returns-in-Writing-clause-same
returns-in-Writing-clause-same c = goes_by c.args.self.now c.write.new.self (phase.Writing c.in-Writing.dest c.in-Writing.changes) (sym c.in-Writing.ensures.value) c.write.ensures.same

pub returns-in-Writing-clause-safe : goal.returns-in-Writing-clause-safe
returns-in-Writing-clause-safe c = safe_by c.args.self.now c.write.new.self (phase.Writing c.in-Writing.dest c.in-Writing.changes) (sym c.in-Writing.ensures.value) c.write.ensures.safe
