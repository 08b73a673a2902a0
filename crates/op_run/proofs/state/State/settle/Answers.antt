-- An equal storage isn't written, another one is; what was emitted waits before the others.
use Rattle.std.proofs.Common.{◌≡◌, true, false}
use Rattle.std.specs.Ordering.{is_eq}
use Rattle.value_core.specs.Order.{order}
use Rattle.op_run.specs.Codes.{returns}
use Rattle.op_run.proofs.Keeping.{keeps_other, keeps_other_safe, keeps_same, keeps_same_safe}
use Rattle.op_run.proofs.state.State.settle.Goals as goal

pub returns-then-is_eq-clause-same : goal.returns-then-is_eq-clause-same
returns-then-is_eq-clause-same c =
    let same : is_eq (order c.args.code.now.stored c.args.storage) ≡ true = cc in
    keeps_same c.args.self.now c.args.code.now (returns c.args.ops c.args.storage c.args.changes) c.send.new.pending c.in_ok-changes.changes
    c.in_ok-send.ensures c.in_ok-changes.ensures c.requires.placed c.go_on.new.self c.go_on.ensures same

pub returns-then-is_eq-clause-safe : goal.returns-then-is_eq-clause-safe
returns-then-is_eq-clause-safe c =
    keeps_same_safe c.args.self.now c.args.code.now (returns c.args.ops c.args.storage c.args.changes) c.send.new.pending c.in_ok-changes.changes
    c.in_ok-send.ensures c.in_ok-changes.ensures c.requires.placed c.requires.contract c.go_on.new.self c.go_on.ensures

pub returns-else-is_eq-clause-same : goal.returns-else-is_eq-clause-same
returns-else-is_eq-clause-same c =
    let other : is_eq (order c.args.code.now.stored c.args.storage) ≡ false = cc in
    keeps_other c.args.self.now c.args.code.now (returns c.args.ops c.args.storage c.args.changes) c.send.new.pending c.in_ok-changes.changes
    c.in_ok-send.ensures c.in_ok-changes.ensures c.requires.placed c.go_on-else-is_eq.new.self c.go_on-else-is_eq.ensures other

pub returns-else-is_eq-clause-safe : goal.returns-else-is_eq-clause-safe
returns-else-is_eq-clause-safe c =
    keeps_other_safe c.args.self.now c.args.code.now (returns c.args.ops c.args.storage c.args.changes) c.send.new.pending c.in_ok-changes.changes
    c.in_ok-send.ensures c.in_ok-changes.ensures c.requires.placed c.requires.contract c.go_on-else-is_eq.new.self c.go_on-else-is_eq.ensures
