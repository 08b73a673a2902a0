-- A sort moves the cells that are lent, and puts them in order.
use Rattle.std.proofs.Common.{sym, ap, ◌∙◌}
use Rattle.std.specs.List.{list_any}
use Rattle.std.specs.Ordering.{eq_by_cmp}
use Rattle.std.proofs.lemmas.List.Sorted.{IsPermutation-map, list_any-IsPermutation, ranks_by, sorted_far}
use Rattle.cell_names.specs.Cells.{cell_cmp}
use Rattle.cell_names.specs.CellOrder.{cell_cmp-total}
use Rattle.state_digest.proofs.Order.{rises_from}
use Rattle.state_digest.proofs.touched.in_order.Goals as goal

pub returns : goal.returns
returns c = record {
  same = λ q.
      let moved = IsPermutation-map (λ x. x.now) c.in_ok-order.order.items c.sort.new.self.items c.sort.ensures.permutation in
      sym (list_any-IsPermutation (eq_by_cmp cell_cmp q) _ _ moved) ∙ ap (list_any (eq_by_cmp cell_cmp q)) c.in_ok-order.ensures;
  rising = rises_from c.sort.new.self.items (sorted_far _ (ranks_by cell_cmp-total (λ x. x.now)) c.sort.new.self.items c.in_ok-sort.ensures.sorted);
}
