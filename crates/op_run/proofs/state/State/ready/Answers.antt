-- The next transfer takes one of the calls that are left.
use Rattle.std.proofs.Common.{List, ap, subst, sym, ◌∙◌}
use Rattle.std.specs.List.{AllByRecursion}
use Rattle.op_rules.specs.declared.transfer.Transfer.{Transfer}
use Rattle.op_rules.specs.SerialRule.{transfers}
use Rattle.op_run.specs.declared.state.State.{State}
use Rattle.op_run.specs.Safe.{IsMoney}
use Rattle.op_run.specs.States.{course_of, outcome_of}
use Rattle.op_run.proofs.Calls.{no_calls, one_call}
use Rattle.op_run.proofs.state.State.ready.Goals as goal

pub returns-then-self-eq0-clause-same : goal.returns-then-self-eq0-clause-same
returns-then-self-eq0-clause-same c = λ m fit safe.
    let s = c.args.self.now in
    ap (λ (ts : List Transfer). transfers s.book.now s.head s.op.now.source s.calls ts m (course_of s)) c.in-Some.ensures
    ∙ no_calls s.book.now s.head s.op.now.source s.calls c.in-Some.t c.pop.new.self m (course_of s) c.if-self-eq0.true
    ∙ c.fail.ensures.same m

pub returns-then-self-eq0-clause-safe : goal.returns-then-self-eq0-clause-safe
returns-then-self-eq0-clause-safe c = λ m fit safe.
    c.fail.ensures.safe m (subst (AllByRecursion IsMoney) c.in-Some.ensures safe.pending).1

pub returns-else-self-eq0-clause-same : goal.returns-else-self-eq0-clause-same
returns-else-self-eq0-clause-same c = λ m fit safe.
    let s = c.args.self.now in
    ap (λ (ts : List Transfer). transfers s.book.now s.head s.op.now.source s.calls ts m (course_of s)) c.in-Some.ensures
    ∙ one_call s.book.now s.head s.op.now.source s.calls c.in-Some.t c.pop.new.self m (course_of s) c.if-self-eq0.false
    ∙ sym (ap (λ (new : State). outcome_of new m) c.go_on.ensures)
