-- A value that is put again keeps what cells keep.
use Rattle.std.proofs.Common.{refl, sym, subst}
use Rattle.cell_names.specs.declared.access.Undo.TheVariants as undo
use Rattle.cell_names.specs.Conditions.{CanUndo}
use Rattle.ledger_cells.specs.LedgerCells.{LedgerCells, seen_of}
use Rattle.ledger_cells.proofs.Lawful.{lawful_undone, undone_within}
use Rattle.ledger_cells.proofs.cells.Cells.put_back.Goals as goal

pub put_back-requires-clause-within : goal.put_back-requires-clause-within
put_back-requires-clause-within c =
    let s : LedgerCells = record { book = c.self.inside.book; cells = c.self.inside.overlay.cells; flight = c.self.inside.flight; slots = c.self.inside.overlay.slots } in
    undone_within s (undo.Put c.args.c c.args.value) c.self.invariant (subst (λ (x : LedgerCells). CanUndo (seen_of x) (undo.Put c.args.c c.args.value)) (sym c.self.view_is) c.requires)

pub invariant_of-self : goal.invariant_of-self
invariant_of-self c =
    let s : LedgerCells = record { book = c.self.inside.book; cells = c.self.inside.overlay.cells; flight = c.self.inside.flight; slots = c.self.inside.overlay.slots } in
    let t : LedgerCells = record { book = c.self.inside.book; cells = c.put_back.new.self.cells; flight = c.self.inside.flight; slots = c.put_back.new.self.slots } in
    lawful_undone s t (undo.Put c.args.c c.args.value) c.self.invariant (subst (λ (x : LedgerCells). CanUndo (seen_of x) (undo.Put c.args.c c.args.value)) (sym c.self.view_is) c.requires)
    refl c.put_back.ensures.put refl
