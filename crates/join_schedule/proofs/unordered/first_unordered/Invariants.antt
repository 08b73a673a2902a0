-- All conflicts so far are ordered, and all touches so far are noted.
use Rattle.std.proofs.Common.{◌≡◌, ◌<◌, ℕ, take}
use Rattle.cell_names.specs.declared.cell.Cell.{Cell}
use Rattle.join_schedule.specs.Joins.{IsBefore}
use Rattle.join_schedule.specs.Cover.{AreInConflict}
use Rattle.join_schedule.specs.Touchers.{touches_at, touchers}
use Rattle.join_schedule.proofs.unordered.first_unordered.Given as goal

abbrev pub invariant-loop-later : goal.invariant-loop-later
invariant-loop-later l = ((h k : ℕ) → h < k → k < l.later → (d : Cell) → AreInConflict l.f h k d → IsBefore l.j h k) × ((c : Cell) → touches_at l.touchers c ≡ touchers 0 (take l.later l.f) c)
