-- What goes on with the reply is what waited for it.
use Rattle.std.specs.List.{AllByRecursion}
use Rattle.cell_names.specs.Contents.{Contents}
use Rattle.cell_names.specs.Effects.{after}
use Rattle.cell_names.specs.declared.access.Access.{Access}
use Rattle.op_run.specs.declared.phase.Then.TheVariants as then
use Rattle.op_run.specs.Resumed.{ResumedSafe, ResumedSame}
use Rattle.op_run.specs.Safe.{IsMoney, Safe}
use Rattle.op_run.proofs.Chained.{on_ok}
use Rattle.op_run.proofs.Resuming.{safe_by, same_by}
use Rattle.op_run.proofs.state.State.resume.Goals as goal

pub returns-in-Debited-clause-same : goal.returns-in-Debited-clause-same
returns-in-Debited-clause-same c =
    same_by c.args.self.now c.debited.new.self c.args.access.now c.args.r.now c.args.then (then.Debited c.in-Debited.t) c.in-Debited.is (c.debited.ensures.same c.args.access.now)

pub returns-in-Debited-clause-safe : goal.returns-in-Debited-clause-safe
returns-in-Debited-clause-safe c =
    safe_by c.args.self.now c.debited.new.self c.args.access.now c.args.r.now c.args.then (then.Debited c.in-Debited.t) c.in-Debited.is
    (λ m safe. c.debited.ensures.safe (after c.args.access.now m) safe.now safe.pending)

pub returns-in-Stored-clause-same : goal.returns-in-Stored-clause-same
returns-in-Stored-clause-same c =
    let s = c.args.self.now in
    let a = c.args.access.now in
    let next = then.Stored c.in-Stored.t c.in-Stored.code in
    on_ok c.stored.result ((x : Access) → ResumedSame s x next c.args.r.now c.stored.new.self) (ResumedSame s a c.args.then c.args.r.now c.stored.new.self)
    (λ same. same_by s c.stored.new.self a c.args.r.now c.args.then next c.in-Stored.is (same a)) c.stored.ensures.same

pub returns-in-Stored-clause-safe : goal.returns-in-Stored-clause-safe
returns-in-Stored-clause-safe c =
    let s = c.args.self.now in
    let a = c.args.access.now in
    let next = then.Stored c.in-Stored.t c.in-Stored.code in
    on_ok c.stored.result ((m : Contents) → IsMoney c.in-Stored.t → AllByRecursion IsMoney s.pending → Safe c.stored.new.self m) (ResumedSafe s a c.args.then c.args.r.now c.stored.new.self)
    (λ given. safe_by s c.stored.new.self a c.args.r.now c.args.then next c.in-Stored.is (λ m safe. given (after a m) safe.now safe.pending)) c.stored.ensures.safe
