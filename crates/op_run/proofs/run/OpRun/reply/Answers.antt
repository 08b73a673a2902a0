-- A run that is told a reply follows its operation still.
use Rattle.std.proofs.Common.{◌≡◌, None}
use Rattle.op_run.specs.Promise.{IsSameRun}
use Rattle.op_run.specs.States.{awaited}
use Rattle.op_run.specs.Turns.{Replied}
use Rattle.op_run.proofs.Chained.{on_ok}
use Rattle.op_run.proofs.Kept.{kept_sound}
use Rattle.op_run.proofs.Promised.{some_of, told}
use Rattle.op_run.proofs.run.OpRun.reply.Goals as goal

pub reply-requires-clause-sound : goal.reply-requires-clause-sound
reply-requires-clause-sound c = kept_sound c.args.self.now.state c.args.self.now.kept

pub invariant_of-self : goal.invariant_of-self
invariant_of-self c =
    let s = c.args.self.now.state in
    let a = some_of (awaited s) c.requires.awaits in
    record { kept = told c.reply.result s c.reply.new.self a.0 c.args.r a.1 c.reply.ensures.replied c.reply.ensures.spent c.args.self.now.kept }

pub returns-clause-free : goal.returns-clause-free
returns-clause-free c =
    let s = c.args.self.now.state in
    let new = c.reply.new.self in
    let a = some_of (awaited s) c.requires.awaits in
    on_ok c.reply.result (Replied s c.args.r new) (awaited new ≡ None) (λ replied. (replied a.0 a.1).free) c.reply.ensures.replied

pub returns-clause-stays : goal.returns-clause-stays
returns-clause-stays c =
    let s = c.args.self.now.state in
    let new = c.reply.new.self in
    let a = some_of (awaited s) c.requires.awaits in
    on_ok c.reply.result (Replied s c.args.r new) (IsSameRun s new)
    (λ replied. let told_so = replied a.0 a.1 in record { book = told_so.book; head = told_so.head; op = told_so.op }) c.reply.ensures.replied
