-- The touches so far are spelt, and their cells are cells.
use Rattle.std.proofs.Common.{◌≡◌, ◌++◌, take}
use Rattle.std.specs.List.{flat_map, AllByRecursion}
use Rattle.cell_names.specs.Spelling.{spell_touch, IsCell}
use Rattle.cell_names.proofs.writer.put_touches.Given as goal

abbrev pub invariant-loop-touch : goal.invariant-loop-touch
invariant-loop-touch l = record {
  added : l.draft.added ≡ l.fn.draft.added ++ flat_map spell_touch (take l.touch-index l.touches);
  cells : AllByRecursion (λ t. IsCell t.0) (take l.touch-index l.touches);
  before : l.draft.before ≡ l.fn.draft.before;
}
