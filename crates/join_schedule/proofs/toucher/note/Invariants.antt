-- The cells so far are noted.
use Rattle.std.proofs.Common.{◌≡◌, ◌++◌, take}
use Rattle.cell_names.specs.declared.cell.Cell.{Cell}
use Rattle.cell_names.specs.Footprints.{mode_of}
use Rattle.join_schedule.specs.Touchers.{touches_at, one_touch}
use Rattle.join_schedule.proofs.toucher.note.Given as goal

abbrev pub invariant-loop-touch : goal.invariant-loop-touch
invariant-loop-touch l = (c : Cell) → touches_at l.touchers c ≡ touches_at l.fn.touchers c ++ one_touch l.op (mode_of (take l.touch-index l.touches) c)
