-- Which cells are listed under a ticket, so that they are found when it is released.
use Rattle.std.specs.Prelude.{◌≡◌, ℕ, Bool, true, List, [], Option, Some, None}
use Rattle.std.specs.Map.{lookup}
use Rattle.std.specs.List.{list_any}
use Rattle.std.specs.Ordering.{nat_cmp, eq_by_cmp}
use Rattle.std.specs.Global.{Vec}
use Rattle.cell_names.specs.declared.cell.Cell.{Cell}
use Rattle.abstract_locks.specs.Tables.{Table, is_one, HasRoom}

-- the cells of a list that is there
abbrev pub cells_of : Option (Vec Cell) → List Cell
cells_of None = []
cells_of (Some cells) = cells.items

-- whether the cell is among these
abbrev pub is_among : Cell → List Cell → Bool
is_among c cells = list_any (λ d. is_one d c) cells

-- whether the cell is listed under the ticket
abbrev pub is_listed : List (ℕ × Vec Cell) → ℕ → Cell → Bool
is_listed lists ticket c = is_among c (cells_of (lookup (eq_by_cmp nat_cmp ticket) lists))

-- each place of a ticket is at a cell that is listed under it
abbrev pub AreListed : Table → List (ℕ × Vec Cell) → Type 0
AreListed table lists = (c : Cell) (n : ℕ) → HasRoom table c n → is_listed lists n c ≡ true
