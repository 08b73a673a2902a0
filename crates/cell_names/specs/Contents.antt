-- What stands in cells: a finite map from cells to values.
use Rattle.std.specs.Prelude.{◌≡◌, ℕ, zero, suc, List, Option, Some, None}
use Rattle.std.specs.FinMap.{FinMap, get, insert, remove}
use Rattle.value_core.specs.declared.val.Val.{Val}
use Rattle.value_core.specs.declared.val.Val.TheVariants.{Mutez}
use Rattle.value_core.specs.declared.val.Val.TheOpen as one
use Rattle.value_core.specs.declared.val.Val.TheViews.{out-Val}
use Rattle.value_core.specs.Layer.{Layer}
use Rattle.cell_names.specs.declared.cell.Cell.{Cell}
use Rattle.cell_names.specs.declared.cell.Cell.TheVariants.{Balance}
use Rattle.cell_names.specs.Cells.{cell_cmp}

-- the value of each cell that is there
abbrev pub Contents : Type 0
Contents = FinMap cell_cmp Val

-- the same, but that a cell has this value, or is absent
abbrev pub put : Contents → Cell → Option Val → Contents
put m c None = remove m c
put m c (Some v) = insert m c v

-- ---- balances

-- how much money one level of a value is
abbrev pub amount_level : Layer Val → ℕ
amount_level (one.Mutez n) = n
amount_level _ = 0

-- how much money a value is, and 0 where it is none
abbrev pub amount_of : Val → ℕ
amount_of v = amount_level (out-Val v)

-- how much money stands there; an absent balance is 0
abbrev pub amount_in : Option Val → ℕ
amount_in None = 0
amount_in (Some v) = amount_of v

-- what an account has
abbrev pub balance : Contents → List ℕ → ℕ
balance m address = amount_in (get m (Balance address))

-- what stands in the cell of a balance; a balance of 0 is absent
abbrev pub amount_kept : ℕ → Option Val
amount_kept zero = None
amount_kept (suc n) = Some (Mutez (suc n))

-- the same, but that an account has so much
unfoldable pub with_balance : Contents → List ℕ → ℕ → Contents
with_balance m address n = put m (Balance address) (amount_kept n)

-- each balance is an amount of money, and none of 0 is there
abbrev pub IsTidy : Contents → Type 0
IsTidy m = (address : List ℕ) → get m (Balance address) ≡ amount_kept (balance m address)
