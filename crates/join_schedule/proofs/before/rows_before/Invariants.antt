-- Each row so far marks what is before its operation.
use Rattle.std.proofs.Common.{◌≡◌, length}
use Rattle.join_schedule.specs.Sets.{AreRows, AreStairs, marks}
use Rattle.join_schedule.proofs.before.rows_before.Given as goal

abbrev pub invariant-loop-number : goal.invariant-loop-number
invariant-loop-number l = (length l.rows.items ≡ l.number) × AreStairs (marks l.rows.items) × AreRows l.j l.number (marks l.rows.items)
