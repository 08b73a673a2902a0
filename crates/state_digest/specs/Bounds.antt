-- Cells under a bound, if there is one.
use Rattle.std.specs.Prelude.{Bool, true, false, not, List, [], ◌∷◌, Option, Some, None}
use Rattle.std.specs.Ordering.{is_lt}
use Rattle.std.specs.FinMap.Entries.{where_key}
use Rattle.value_core.specs.declared.val.Val.{Val}
use Rattle.cell_names.specs.declared.cell.Cell.{Cell}
use Rattle.cell_names.specs.Cells.{cell_cmp}

-- whether a cell stands under the bound
abbrev pub is_under : Option Cell → Cell → Bool
is_under None c = true
is_under (Some bound) c = is_lt (cell_cmp c bound)

-- whether the first of these cells is there and stands under the bound
abbrev pub starts_under : Option Cell → List (Cell × Val) → Bool
starts_under bound [] = false
starts_under bound (e ∷ cells) = is_under bound e.0

-- the cells under the bound
abbrev pub under : Option Cell → List (Cell × Val) → List (Cell × Val)
under bound cells = where_key cell_cmp (is_under bound) cells

-- the others
abbrev pub over : Option Cell → List (Cell × Val) → List (Cell × Val)
over bound cells = where_key cell_cmp (λ c. not (is_under bound c)) cells
