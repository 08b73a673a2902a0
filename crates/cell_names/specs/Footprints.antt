-- Footprints, as lists of cells and modes in the order of cells.
use Rattle.std.specs.Prelude.{Bool, List, Option, Some, None, IsTrue, false}
use Rattle.std.specs.FinMap.{find, put, is_sorted}
use Rattle.cell_names.specs.declared.cell.Cell.{Cell}
use Rattle.cell_names.specs.declared.mode.Mode.{Mode}
use Rattle.cell_names.specs.Modes.{conflicts, joined}
use Rattle.cell_names.specs.Cells.{cell_cmp}

-- each cell is below those after it
abbrev pub ascends : List (Cell × Mode) → Bool
ascends = is_sorted cell_cmp

-- the mode in which a cell is touched
abbrev pub mode_of : List (Cell × Mode) → Cell → Option Mode
mode_of touches c = find cell_cmp c touches

-- a further touch of what was touched before, or of what wasn't
abbrev pub further : Option Mode → Mode → Mode
further None m = m
further (Some held) m = joined held m

-- the same touches, but that the cell's mode is joined with this one
abbrev pub touched : List (Cell × Mode) → Cell → Mode → List (Cell × Mode)
touched touches c m = put cell_cmp c (further (mode_of touches c) m) touches

-- two modes of a cell, of which either may be none
abbrev pub modes_conflict : Option Mode → Option Mode → Bool
modes_conflict None n = false
modes_conflict (Some m) None = false
modes_conflict (Some m) (Some n) = conflicts m n

-- both footprints touch the cell, in modes that conflict
abbrev pub ConflictIn : Cell → List (Cell × Mode) → List (Cell × Mode) → Type 0
ConflictIn c f g = IsTrue (modes_conflict (mode_of f c) (mode_of g c))
