-- A balance stands among all as among balances, and another cell behind all balances.
use Rattle.std.proofs.Common.{length, refl, sym, subst}
use Rattle.value_core.specs.Places.{StandsAt}
use Rattle.cell_names.specs.declared.cell.Cell.{Cell}
use Rattle.cell_names.specs.Cells.{cell_cmp}
use Rattle.cell_blocks.specs.Blocks.{Held, all_of}
use Rattle.cell_blocks.proofs.Both.{balances_ascend, others_ascend, balance_stands, other_place, other_gap}
use Rattle.cell_blocks.proofs.placing.place.Goals as goal

pub place_of_balance-requires : goal.place_of_balance-requires
place_of_balance-requires c = balances_ascend c.args.balances.now c.args.others.now c.requires

pub place_of_other-requires : goal.place_of_other-requires
place_of_other-requires c = others_ascend c.args.balances.now c.args.others.now c.requires

pub returns-in-Some : goal.returns-in-Some
returns-in-Some c =
    subst (λ (q : Cell). StandsAt (λ (e : Held). e.0) cell_cmp (all_of c.args.balances.now c.args.others.now) q c.place_of_balance.result) (sym c.in-Some.ensures)
    (balance_stands c.args.balances.now c.args.others.now c.in-Some.address.now c.place_of_balance.result c.requires c.place_of_balance.ensures)

pub returns-in-Ok : goal.returns-in-Ok
returns-in-Ok c = other_place c.args.balances.now c.args.others.now c.args.c.now (length c.args.balances.now) c.in-Ok.i refl c.in-Ok.ensures

pub returns-in-Err : goal.returns-in-Err
returns-in-Err c = other_gap c.args.balances.now c.args.others.now c.args.c.now (length c.args.balances.now) c.in-Err.i refl c.in-None.ensures c.in-Err.ensures
