-- Where there is no reason against it, the cell fits, is not there, and there is money for it.
use Rattle.std.proofs.Common.{◌≡◌, None, refl, sym, subst}
use Rattle.ledger_cells.specs.LedgerCells.{LedgerCells}
use Rattle.ledger_cells.specs.Placing.{misplaced}
use Rattle.ledger_cells.proofs.Added.{added_lawful, added_within}
use Rattle.ledger_cells.proofs.cells.Cells.add.Goals as goal

pub add-requires-clause-within : goal.add-requires-clause-within
add-requires-clause-within c =
    let s : LedgerCells = record { book = c.self.inside.book; cells = c.self.inside.overlay.cells; flight = c.self.inside.flight; slots = c.self.inside.overlay.slots } in
    added_within s c.args.c c.args.v (subst (λ (x : LedgerCells). misplaced x c.args.c c.args.v ≡ None) (sym c.self.view_is) (sym c.in-None.ensures))

pub invariant_of-self-in-None : goal.invariant_of-self-in-None
invariant_of-self-in-None c =
    let s : LedgerCells = record { book = c.self.inside.book; cells = c.self.inside.overlay.cells; flight = c.self.inside.flight; slots = c.self.inside.overlay.slots } in
    let t : LedgerCells = record { book = c.self.inside.book; cells = c.add.new.self.cells; flight = c.self.inside.flight; slots = c.add.new.self.slots } in
    added_lawful s t c.args.c c.args.v c.self.invariant (subst (λ (x : LedgerCells). misplaced x c.args.c c.args.v ≡ None) (sym c.self.view_is) (sym c.in-None.ensures))
    refl c.in_ok-add-in-None.ensures.added refl
