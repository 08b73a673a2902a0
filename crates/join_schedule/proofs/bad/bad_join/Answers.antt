-- No list so far is bad, and so none at the end.
use Rattle.std.proofs.Common.{below_more, arith, subst}
use Rattle.join_schedule.specs.Joins.{IsJoinList}
use Rattle.join_schedule.proofs.bad.bad_join.Goals as goal

pub loop-number-preserved : goal.loop-number-preserved
loop-number-preserved c = below_more _ _ c.loop-number.invariant (subst (IsJoinList c.loop-number.number) c.list.ensures (c.is_join_list.ensures.0 c.if-not-is_join_list.false))

pub returns-clause-none : goal.returns-clause-none
returns-clause-none c = λ j lt. c.loop-number.invariant j (let e = c.len-number-end.ensures in omega arith)
