-- Why cells make no state, in words of the cells as they are listed; and which of two reasons comes first.
use Rattle.std.specs.Prelude.{◌≡◌, ◌≢◌, ℕ, ◌+◌, ◌*◌, ◌<◌, ◌≤◌, ◌^◌, ◌↔◌, true, false, List, length, take, map, sum, Some, slice_get}
use Rattle.std.specs.declared.cmp.Ordering.TheVariants.{Less}
use Rattle.std.specs.Ordering.{nat_cmp}
use Rattle.std.specs.Cmp.Lexicographic.{slice_cmp}
use Rattle.std.specs.FinMap.{contains_key, get}
use Rattle.value_core.specs.declared.val.Val.{Val}
use Rattle.cell_names.specs.declared.cell.Cell.{Cell}
use Rattle.cell_names.specs.declared.cell.Cell.TheVariants.{Storage}
use Rattle.cell_names.specs.Contents.{Contents}
use Rattle.cell_names.specs.Supply.{money_of}
use Rattle.code_book.specs.Books.{Contracts}
use Rattle.code_book.specs.Fits.{fits}
use Rattle.ledger_state.specs.declared.fault.BuildFault.{BuildFault}
use Rattle.ledger_state.specs.declared.fault.BuildFault.TheVariants.{Misfit, Twice, TooMuch, NoStorage, NoMemory}

-- the value at this place doesn't fit its cell
pub record IsMisfit (book : Contracts) (rows : List (Cell × Val)) (i : ℕ) : Type 0 where
  pub cell : Cell
  pub value : Val
  pub stands : slice_get rows i ≡ Some (cell, value)
  pub misfit : fits book cell value ≡ false

-- the cell at this place stands at an earlier one too
pub record IsRepeated (rows : List (Cell × Val)) (i : ℕ) : Type 0 where
  pub cell : Cell
  pub value : Val
  pub stands : slice_get rows i ≡ Some (cell, value)
  pub earlier : ℕ
  pub other : Val
  pub stood : slice_get rows earlier ≡ Some (cell, other)
  pub before : earlier < i

-- the balances up to this place are 2^63 or more together
pub record PassesSupply (rows : List (Cell × Val)) (i : ℕ) : Type 0 where
  pub within : i < length rows
  pub passes : 2 ^ 63 ≤ sum (map money_of (take (i + 1) rows))

-- the contract's storage stands at no place
pub record IsBare (book : Contracts) (rows : List (Cell × Val)) (address : List ℕ) : Type 0 where
  pub contract : contains_key book address ≡ true
  pub nowhere : (i : ℕ) (v : Val) → slice_get rows i ≢ Some (Storage address, v)

-- the reason holds of the cells
abbrev pub IsReason : Contracts → List (Cell × Val) → BuildFault → Type 0
IsReason book rows (Misfit i) = IsMisfit book rows i
IsReason book rows (Twice i) = IsRepeated rows i
IsReason book rows (TooMuch i) = PassesSupply rows i
IsReason book rows (NoStorage address) = IsBare book rows address
IsReason book rows NoMemory = ⊥

-- the number of a reason at a place: by the place, then in the order of the three
abbrev pub number_of : BuildFault → ℕ
number_of (Misfit i) = 3 * i
number_of (Twice i) = 3 * i + 1
number_of (TooMuch i) = 3 * i + 2
number_of _ = 0

-- a reason at a place comes before a missing storage, and of those the least address first
abbrev pub ComesBefore : BuildFault → BuildFault → Type 0
ComesBefore (NoStorage a) (NoStorage b) = slice_cmp nat_cmp a b ≡ Less
ComesBefore (NoStorage a) g = ⊥
ComesBefore f (NoStorage b) = Unit {0}
ComesBefore f g = number_of f < number_of g

-- the reason that comes before all others
pub record IsFirstReason (book : Contracts) (rows : List (Cell × Val)) (f : BuildFault) : Type 0 where
  pub holds : IsReason book rows f
  pub first : (g : BuildFault) → IsReason book rows g → ¬ ComesBefore g f

-- the contents have each listed cell with its value, and nothing else
abbrev pub AreTheCells : List (Cell × Val) → Contents → Type 0
AreTheCells rows m = (c : Cell) (v : Val) → (get m c ≡ Some v) ↔ ((i : ℕ) × (slice_get rows i ≡ Some (c, v)))
