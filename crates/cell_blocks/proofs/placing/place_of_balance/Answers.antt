-- A binary search among ascending addresses finds the balance's place or its gap.
use Rattle.std.proofs.Common.{◌≡◌, Ordering, rules, sym, subst}
use Rattle.std.specs.Ordering.{nat_cmp}
use Rattle.std.specs.Cmp.Lexicographic.{slice_cmp}
use Rattle.std.specs.List.Sorted.{IsBinarySearchResult}
use Rattle.std.proofs.lemmas.Fn.{always_returns_same}
use Rattle.value_core.proofs.PlaceLemmas.{stands}
use Rattle.cell_names.specs.declared.cell.Cell.TheVariants.{Balance}
use Rattle.cell_names.specs.Cells.{cell_cmp}
use Rattle.cell_names.specs.CellOrder.{cell_cmp-total, cell_cmp-ties}
use Rattle.cell_blocks.specs.declared.holding.Holding.{Holding}
use Rattle.cell_blocks.specs.Blocks.{held_by}
use Rattle.cell_blocks.proofs.CellOrders.{balances_by_address}
use Rattle.cell_blocks.proofs.Both.{balances_sorted_by}
use Rattle.cell_blocks.proofs.placing.place_of_balance.Goals as goal

pub returns : goal.returns
returns c =
    let a = c.args.address.now in
    let by_address : Holding → Ordering = λ h. slice_cmp nat_cmp h.address a in
    let by_cell : Holding → Ordering = λ h. cell_cmp (held_by h).0 (Balance a) in
    let same : by_address ≡ by_cell = λ i h. sym (balances_by_address h.address a) i in
    stands cell_cmp-total cell_cmp-ties (λ h. (held_by h).0) c.args.balances.now (Balance a) c.binary_search_by.result (balances_sorted_by c.args.balances.now c.requires) c.binary_search_by.ensures.bound
    (subst (λ (f : Holding → Ordering). IsBinarySearchResult f c.args.balances.now c.binary_search_by.result) same
    (c.binary_search_by.ensures.position by_address (always_returns_same _ _ _ (λ x r f' k. search rules))))
