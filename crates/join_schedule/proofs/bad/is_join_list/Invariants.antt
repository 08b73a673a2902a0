-- The numbers so far are earlier operations, and ascend.
use Rattle.std.proofs.Common.{ℕ, ◌+◌, ◌<◌}
use Rattle.std.specs.Prelude.{slice_index}
use Rattle.join_schedule.proofs.bad.is_join_list.Given as goal

abbrev pub invariant-loop-k : goal.invariant-loop-k
invariant-loop-k l = ((m : ℕ) → m < l.k → slice_index l.list m < l.j) × ((m : ℕ) → m + 1 < l.k → slice_index l.list m < slice_index l.list (m + 1))
