-- The order of cells is total, and ties equal cells alone.
use Rattle.std.proofs.Common.{◌≡◌, ℕ, zero, suc, List, refl, sym, ◌∙◌}
use Rattle.std.specs.declared.cmp.Ordering.{Ordering}
use Rattle.std.specs.declared.cmp.Ordering.TheVariants.{Equal, Less, Greater}
use Rattle.std.specs.Ordering.{ordering_then}
use Rattle.std.specs.Cmp.{IsTotalOrder, then_total, on_total, nat_cmp_total}
use Rattle.std.specs.Cmp.Lexicographic.{nat_list_cmp_total}
use Rattle.std.specs.FinMap.{nat_cmp-IsAntisymmetric, slice_cmp-IsAntisymmetric}
use Rattle.value_core.specs.declared.val.Val.{Val}
use Rattle.value_core.proofs.TotalOrder.{order_lawful}
use Rattle.cell_names.specs.declared.cell.Cell.{Cell}
use Rattle.cell_names.specs.declared.cell.Cell.TheVariants.{Balance, Storage, Entry}
use Rattle.cell_names.specs.Cells.{kind_of, address_of, place_of, key_of, entry_cmp, cell_cmp}

entry_cmp-total : IsTotalOrder entry_cmp
entry_cmp-total = then_total (on_total place_of nat_cmp_total) (on_total key_of order_lawful.0)

pub cell_cmp-total : IsTotalOrder cell_cmp
cell_cmp-total =
    then_total (on_total kind_of nat_cmp_total) (then_total (on_total address_of nat_list_cmp_total) entry_cmp-total)

-- both comparisons of a chain that ties tie
record BothTie (x y : Ordering) : Type 0 where
  first : x ≡ Equal
  second : y ≡ Equal

both_tie : (x y : Ordering) → ordering_then x y ≡ Equal → BothTie x y
both_tie Equal y e = record { first = refl; second = e }
both_tie Less y e = absurd cc
both_tie Greater y e = absurd cc

-- a cell by its kind, address, place and key
named : ℕ → List ℕ → ℕ → Val → Cell
named zero address place key = Balance address
named (suc zero) address place key = Storage address
named (suc (suc k)) address place key = Entry address place key

named_is : (c : Cell) → named (kind_of c) (address_of c) (place_of c) (key_of c) ≡ c
unfolding named
named_is (Balance address) = refl
named_is (Storage address) = refl
named_is (Entry address place key) = refl

pub cell_cmp-ties : (a b : Cell) → cell_cmp a b ≡ Equal → a ≡ b
cell_cmp-ties a b tie =
    let kinds = both_tie _ _ tie in
    let addresses = both_tie _ _ kinds.second in
    let entries = both_tie _ _ addresses.second in
    let kind : kind_of a ≡ kind_of b = nat_cmp-IsAntisymmetric _ _ kinds.first in
    let address : address_of a ≡ address_of b = slice_cmp-IsAntisymmetric nat_cmp-IsAntisymmetric _ _ addresses.first in
    let place : place_of a ≡ place_of b = nat_cmp-IsAntisymmetric _ _ entries.first in
    let key : key_of a ≡ key_of b = order_lawful.1 _ _ entries.second in
    sym (named_is a) ∙ (λ i. named (kind i) (address i) (place i) (key i)) ∙ named_is b
