-- The cells above the given one begin behind its place, or in its gap.
use Rattle.std.proofs.Common.{◌+◌, sym, subst}
use Rattle.std.specs.Option.{option_copied}
use Rattle.cell_names.specs.Cells.{cell_cmp}
use Rattle.cell_names.specs.CellOrder.{cell_cmp-total}
use Rattle.cell_blocks.specs.Blocks.{all_of}
use Rattle.cell_blocks.specs.Placing.{IsCut}
use Rattle.cell_blocks.proofs.Cuts.{cut_place, cut_gap}
use Rattle.cell_blocks.proofs.placing.place_above.Goals as goal

pub returns-in-Ok : goal.returns-in-Ok
returns-in-Ok c =
    let all = all_of c.args.balances.now c.args.others.now in
    subst (λ a. IsCut cell_cmp all (option_copied a) (c.in-Ok.i + 1)) (sym c.in-Some.is) (cut_place cell_cmp-total all c.in-Some.c.now c.in-Ok.i c.requires.ascend c.in-Ok.ensures)

pub returns-in-Err : goal.returns-in-Err
returns-in-Err c =
    let all = all_of c.args.balances.now c.args.others.now in
    subst (λ a. IsCut cell_cmp all (option_copied a) c.in-Err.i) (sym c.in-Some.is) (cut_gap cell_cmp-total all c.in-Some.c.now c.in-Err.i c.in-Err.ensures)
