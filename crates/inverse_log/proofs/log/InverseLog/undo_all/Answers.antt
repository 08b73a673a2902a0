-- Each turn undoes the last entry, and what is left leads where all of the log led.
use Rattle.inverse_log.proofs.EndLaws.{one_turn, none_left, arrived}
use Rattle.inverse_log.proofs.log.InverseLog.undo_all.Goals as goal

pub loop-preserved : goal.loop-preserved
loop-preserved g c =
    one_turn c.pop_apply.result c.args.self.now.entries c.loop.self.entries c.pop_apply.new.self.entries _ _ _ c.loop.counter c.len-end.result c.loop.invariant c.loop-test.true
    c.pop_apply.ensures.undone c.pop_apply.ensures.empty

pub returns-clause-emptied : goal.returns-clause-emptied
returns-clause-emptied g c = none_left c.loop.self.entries c.loop.counter c.len-end.result c.loop.invariant.0 c.loop-test.false

pub returns-clause-reached : goal.returns-clause-reached
returns-clause-reached g c =
    arrived c.args.self.now.entries c.loop.self.entries _ _ c.loop.invariant.1 (none_left c.loop.self.entries c.loop.counter c.len-end.result c.loop.invariant.0 c.loop-test.false)
