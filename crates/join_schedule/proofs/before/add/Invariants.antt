-- The marks so far are carried over.
use Rattle.std.proofs.Common.{◌≡◌, ℕ, take}
use Rattle.std.specs.Prelude.{◌||◌}
use Rattle.join_schedule.specs.Sets.{is_marked}
use Rattle.join_schedule.proofs.before.add.Given as goal

abbrev pub invariant-loop-k : goal.invariant-loop-k
invariant-loop-k l = (i : ℕ) → is_marked l.row i ≡ (is_marked l.fn.row i || is_marked (take l.k l.earlier) i)
