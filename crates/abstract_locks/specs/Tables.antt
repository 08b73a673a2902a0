-- What a lock table is seen as, and who holds which cell by it.
use Rattle.std.specs.Prelude.{ℕ, Bool, ◌==◌, ◌&&◌, if◌then◌else◌, List, [], Option, Some, None, IsSome}
use Rattle.std.specs.Ordering.{nat_cmp, eq_by_cmp}
use Rattle.std.specs.Map.{lookup}
use Rattle.std.specs.FinMap.{find}
use Rattle.cell_names.specs.declared.cell.Cell.{Cell}
use Rattle.cell_names.specs.declared.mode.Mode.{Mode}
use Rattle.cell_names.specs.Cells.{cell_cmp}
use Rattle.abstract_locks.specs.Holders.{Holders, asked}

-- the tickets that have a place at a cell, ascending, each with the mode in which it holds the cell, if it holds it yet
abbrev pub Row : Type 0
Row = List (ℕ × Option Mode)

-- the cells at which tickets have places, each with its row
abbrev pub Table : Type 0
Table = List (Cell × List (ℕ × Option Mode))

-- whether both are one cell
abbrev pub is_one : Cell → Cell → Bool
is_one c d = eq_by_cmp cell_cmp c d

-- the row that is there; an absent row is empty
abbrev pub row_of : Option Row → Row
row_of None = []
row_of (Some row) = row

-- the row of a cell
abbrev pub row_at : Table → Cell → Row
row_at table c = row_of (lookup (is_one c) table)

-- what stands at a ticket's place in a row, if it has one
abbrev pub place_in : Row → ℕ → Option (Option Mode)
place_in row ticket = find nat_cmp ticket row

-- the mode at a place, if there is one
abbrev pub mode_at : Option (Option Mode) → Option Mode
mode_at None = None
mode_at (Some mode) = mode

-- who holds the cell of a row
abbrev pub holders_in : Row → Holders
holders_in row ticket = mode_at (place_in row ticket)

-- who holds each cell
abbrev pub held : Table → Cell → Holders
held table c = holders_in (row_at table c)

-- the ticket has a place at the cell, so that a grant takes no memory
abbrev pub HasRoom : Table → Cell → ℕ → Type 0
HasRoom table c ticket = IsSome (place_in (row_at table c) ticket)

-- the same, but that the ticket holds the cell in the mode that it asks for
abbrev pub locked : (Cell → Holders) → Cell → ℕ → Mode → Cell → Holders
locked holders c ticket m d n = if is_one c d && (n == ticket) then Some (asked (holders c) ticket m) else holders d n
