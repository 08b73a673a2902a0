-- There are no more cells than are held and have a slot.
use Rattle.std.proofs.Common.{◌∙◌, arith}
use Rattle.ledger_cells.proofs.Counting.{len-over}
use Rattle.ledger_cells.proofs.overlay.recount.Goals as goal

pub exchanged-requires-clause-money : goal.exchanged-requires-clause-money
exchanged-requires-clause-money c = c.requires.money_there

pub exchanged-requires-clause-cells : goal.exchanged-requires-clause-cells
exchanged-requires-clause-cells c = c.requires.cells_there

pub exchanged-requires-clause-money_fits : goal.exchanged-requires-clause-money_fits
exchanged-requires-clause-money_fits c = omega (arith, c.requires.money, c.requires.within)

pub exchanged-requires-clause-cells_fit : goal.exchanged-requires-clause-cells_fit
exchanged-requires-clause-cells_fit c =
    let few = len-over c.args.held.now c.args.changes.now.entries in
    omega (arith, c.requires.cells, few, c.most-most.ensures)

pub returns : goal.returns
returns c = λ i. record { money = (c.exchanged.ensures.money ∙ c.requires.money) i; cells = (c.exchanged.ensures.cells ∙ c.requires.cells) i }
