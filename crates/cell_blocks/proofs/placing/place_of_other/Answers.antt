-- A binary search among ascending cells finds the place or the gap.
use Rattle.std.proofs.Common.{rules}
use Rattle.std.proofs.lemmas.Fn.{always_returns_same}
use Rattle.value_core.proofs.PlaceLemmas.{stands, sorted_by}
use Rattle.cell_names.specs.Cells.{cell_cmp}
use Rattle.cell_names.specs.CellOrder.{cell_cmp-total, cell_cmp-ties}
use Rattle.cell_blocks.proofs.placing.place_of_other.Goals as goal

pub returns : goal.returns
returns c =
    stands cell_cmp-total cell_cmp-ties (λ e. e.0) c.args.others.now c.args.c.now c.binary_search_by.result (sorted_by cell_cmp-total c.args.others.now c.requires) c.binary_search_by.ensures.bound
    (c.binary_search_by.ensures.position (λ e. cell_cmp e.0 c.args.c.now) (always_returns_same _ _ _ (λ a r f' k. search rules)))
