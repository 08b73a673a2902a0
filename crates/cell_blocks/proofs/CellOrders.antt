-- How balances stand to other cells, and to each other: before all of them, and by address.
use Rattle.std.proofs.Common.{◌≡◌, ℕ, ◌<◌, List, refl, arith}
use Rattle.std.specs.declared.cmp.Ordering.{Ordering}
use Rattle.std.specs.declared.cmp.Ordering.TheVariants.{Less, Equal, Greater}
use Rattle.std.specs.Ordering.{nat_cmp, ordering_then}
use Rattle.std.specs.Cmp.{tied_itself}
use Rattle.std.specs.Cmp.Lexicographic.{slice_cmp}
use Rattle.value_core.specs.declared.val.Val.TheVariants.{Unit as unit}
use Rattle.value_core.proofs.TotalOrder.{order_lawful}
use Rattle.cell_names.specs.declared.cell.Cell.{Cell}
use Rattle.cell_names.specs.declared.cell.Cell.TheVariants.{Balance, Storage, Entry}
use Rattle.cell_names.specs.Cells.{kind_of, entry_cmp, cell_cmp}

pub balance_below : (a : List ℕ) (c : Cell) → 0 < kind_of c → cell_cmp (Balance a) c ≡ Less
balance_below a (Balance b) other = absurd (omega arith)
balance_below a (Storage b) other = refl
balance_below a (Entry b place key) other = refl

pub other_above : (a : List ℕ) (c : Cell) → 0 < kind_of c → cell_cmp c (Balance a) ≡ Greater
other_above a (Balance b) other = absurd (omega arith)
other_above a (Storage b) other = refl
other_above a (Entry b place key) other = refl

then_equal : (r s : Ordering) → s ≡ Equal → ordering_then r s ≡ r
then_equal Less s e = refl
then_equal Equal s e = e
then_equal Greater s e = refl

pub balances_by_address : (a b : List ℕ) → cell_cmp (Balance a) (Balance b) ≡ slice_cmp nat_cmp a b
balances_by_address a b = then_equal (slice_cmp nat_cmp a b) (entry_cmp (Balance a) (Balance b)) (tied_itself order_lawful.0 unit)
