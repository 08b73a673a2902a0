-- Which joins order all conflicts of footprints, and else which conflict is told.
use Rattle.std.specs.Prelude.{◌≡◌, ℕ, ◌<◌, List, [], length, slice_index_or, false}
use Rattle.std.specs.Ordering.{is_gt}
use Rattle.cell_names.specs.declared.cell.Cell.{Cell}
use Rattle.cell_names.specs.declared.mode.Mode.{Mode}
use Rattle.cell_names.specs.Cells.{cell_cmp}
use Rattle.cell_names.specs.Footprints.{ConflictIn}
use Rattle.join_schedule.specs.Joins.{IsBefore}

-- the footprint of an operation
abbrev pub footprint_of : List (List (Cell × Mode)) → ℕ → List (Cell × Mode)
footprint_of footprints i = slice_index_or footprints i []

-- operations i and j conflict in the cell
abbrev pub AreInConflict : List (List (Cell × Mode)) → ℕ → ℕ → Cell → Type 0
AreInConflict footprints i j c = ConflictIn c (footprint_of footprints i) (footprint_of footprints j)

-- of any two operations that conflict, the earlier is before the later
abbrev pub Cover : List (List ℕ) → List (List (Cell × Mode)) → Type 0
Cover joins footprints = (i j : ℕ) → i < j → j < length footprints → (c : Cell) → AreInConflict footprints i j c → IsBefore joins i j

-- i and j conflict in the cell and i isn't before j; with the least j, then the least i, then the least cell
pub record IsFirstUnordered (joins : List (List ℕ)) (footprints : List (List (Cell × Mode))) (i j : ℕ) (c : Cell) : Type 0 where
  pub order : i < j
  pub within : j < length footprints
  pub conflict : AreInConflict footprints i j c
  pub apart : ¬ IsBefore joins i j
  pub least_later : (h k : ℕ) → h < k → k < j → (d : Cell) → AreInConflict footprints h k d → IsBefore joins h k
  pub least_earlier : (h : ℕ) → h < i → (d : Cell) → AreInConflict footprints h j d → IsBefore joins h j
  pub least_cell : (d : Cell) → AreInConflict footprints i j d → is_gt (cell_cmp c d) ≡ false
