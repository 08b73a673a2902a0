-- Cells and their order.
use Rattle.std.specs.Prelude.{◌≡◌, ℕ, List}
use Rattle.std.specs.declared.cmp.Ordering.{Ordering}
use Rattle.std.specs.declared.cmp.Ordering.TheVariants.{Equal}
use Rattle.std.specs.Ordering.{nat_cmp, ordering_then}
use Rattle.std.specs.Cmp.{IsTotalOrder}
use Rattle.std.specs.Cmp.Lexicographic.{slice_cmp}
use Rattle.value_core.specs.declared.val.Val.{Val}
use Rattle.value_core.specs.declared.val.Val.TheVariants.{Unit as unit}
use Rattle.value_core.specs.Order.{order}
use Rattle.cell_names.specs.declared.cell.Cell.{Cell}
use Rattle.cell_names.specs.declared.cell.Cell.TheVariants.{Balance, Storage, Entry}

-- the number of a cell's kind
abbrev pub kind_of : Cell → ℕ
kind_of (Balance address) = 0
kind_of (Storage address) = 1
kind_of (Entry address place key) = 2

-- the account or contract whose cell it is
abbrev pub address_of : Cell → List ℕ
address_of (Balance address) = address
address_of (Storage address) = address
address_of (Entry address place key) = address

-- the place of an entry's big map in the storage, and 0 for other cells
abbrev pub place_of : Cell → ℕ
place_of (Balance address) = 0
place_of (Storage address) = 0
place_of (Entry address place key) = place

-- the key of an entry, and the unit for other cells
abbrev pub key_of : Cell → Val
key_of (Balance address) = unit
key_of (Storage address) = unit
key_of (Entry address place key) = key

-- by place, then by key
abbrev pub entry_cmp : Cell → Cell → Ordering
entry_cmp a b = ordering_then (nat_cmp (place_of a) (place_of b)) (order (key_of a) (key_of b))

-- by kind, then by the address's bytes, then by place and key
abbrev pub cell_cmp : Cell → Cell → Ordering
cell_cmp a b =
    ordering_then (nat_cmp (kind_of a) (kind_of b))
    (ordering_then (slice_cmp nat_cmp (address_of a) (address_of b)) (entry_cmp a b))

-- a total order of cells that ties equal cells alone
pub record IsCellOrder (cmp : Cell → Cell → Ordering) : Type 0 where
  pub total : IsTotalOrder cmp
  pub ties : (a b : Cell) → cmp a b ≡ Equal → a ≡ b
