-- A state of given cells: which one it is, or the first reason against them.
use Rattle.std.specs.Prelude.{ℕ, ◌+◌, ◌^◌, not, nat_le, if◌then◌else◌, List, [], ◌∷◌, Option, Some, None, Result, Ok, Err}
use Rattle.std.specs.FinMap.{contains_key, empty, insert}
use Rattle.value_core.specs.declared.val.Val.{Val}
use Rattle.cell_names.specs.declared.cell.Cell.{Cell}
use Rattle.cell_names.specs.Contents.{Contents}
use Rattle.cell_names.specs.Supply.{money_of, supply}
use Rattle.code_book.specs.Books.{Contracts}
use Rattle.code_book.specs.Fits.{fits}
use Rattle.ledger_state.specs.declared.fault.BuildFault.{BuildFault}
use Rattle.ledger_state.specs.declared.fault.BuildFault.TheVariants.{Misfit, Twice, TooMuch, NoStorage}
use Rattle.ledger_state.specs.Storages.{least_bare}

-- the first reason against a cell beside those that stand, told at its place
abbrev pub against : Contracts → ℕ → Contents → Cell → Val → Option BuildFault
against book at cells c v =
    if not (fits book c v) then Some (Misfit at) else
    if contains_key cells c then Some (Twice at) else
    if nat_le (2 ^ 63) (supply cells + money_of (c, v)) then Some (TooMuch at) else
    None

-- what comes of it where there is no reason
abbrev pub unless : Option BuildFault → Result Contents BuildFault → Result Contents BuildFault
unless None rest = rest
unless (Some fault) rest = Err fault

-- the cells with these added, one after another, of which the first stands at this place
abbrev pub added : Contracts → ℕ → Contents → List (Cell × Val) → Result Contents BuildFault
added book at cells [] = Ok cells
added book at cells ((c, v) ∷ rows) = unless (against book at cells c v) (added book (at + 1) (insert cells c v) rows)

-- the cells, unless a contract has no storage
abbrev pub housed : Option (List ℕ) → Contents → Result Contents BuildFault
housed None cells = Ok cells
housed (Some address) cells = Err (NoStorage address)

-- where the cells could be added, the same by the contract without a storage
abbrev pub housed_by : Contracts → Result Contents BuildFault → Result Contents BuildFault
housed_by book (Ok cells) = housed (least_bare book cells) cells
housed_by book (Err fault) = Err fault

-- the cells of a state of this book, or the first reason against them
unfoldable pub built : Contracts → List (Cell × Val) → Result Contents BuildFault
built book rows = housed_by book (added book 0 empty rows)
