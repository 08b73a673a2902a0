-- No list so far is bad.
use Rattle.std.proofs.Common.{ℕ, ◌<◌}
use Rattle.join_schedule.specs.Joins.{IsJoinList, joins_of}
use Rattle.join_schedule.proofs.bad.bad_join.Given as goal

abbrev pub invariant-loop-number : goal.invariant-loop-number
invariant-loop-number l = (k : ℕ) → k < l.number → IsJoinList k (joins_of l.j k)
