-- What is given back was there.
use Rattle.std.proofs.Common.{◌≡◌, ◌<◌, ◌^◌, ◌+◌, ◌-◌, refl, sym, ap, subst, ◌∙◌, arith}
use Rattle.cell_names.specs.declared.access.Undo.TheVariants as undo
use Rattle.cell_names.specs.Contents.{balance, with_balance}
use Rattle.cell_names.specs.Supply.{supply}
use Rattle.cell_names.specs.Conditions.{CanUndo}
use Rattle.cell_names.specs.Stores.{Undoes}
use Rattle.ledger_cells.specs.LedgerCells.{LedgerCells, seen_of}
use Rattle.ledger_cells.proofs.Lawful.{balance_within, lawful_undone, undone_within}
use Rattle.ledger_cells.proofs.Storing.{uncredits_nothing}
use Rattle.ledger_cells.proofs.cells.Cells.uncredit.Goals as goal

pub returns-then-amount-eq0 : goal.returns-then-amount-eq0
returns-then-amount-eq0 c =
    let s : LedgerCells = record { book = c.self.inside.book; cells = c.self.inside.overlay.cells; flight = c.self.inside.flight; slots = c.self.inside.overlay.slots } in
    subst (λ (x : LedgerCells). Undoes (seen_of x) (undo.Uncredit c.args.address c.args.amount) (seen_of x)) c.self.view_is
    (uncredits_nothing s c.args.address c.args.amount c.self.invariant c.if-amount-eq0.true)

pub set_balance-requires-clause-within : goal.set_balance-requires-clause-within
set_balance-requires-clause-within c =
    let s : LedgerCells = record { book = c.self.inside.book; cells = c.self.inside.overlay.cells; flight = c.self.inside.flight; slots = c.self.inside.overlay.slots } in
    let a = c.args.address in
    let n = c.args.amount in
    let can : CanUndo (seen_of s) (undo.Uncredit a n) = (subst (λ (x : LedgerCells). CanUndo (seen_of x) (undo.Uncredit a n)) (sym c.self.view_is) c.requires) in
    let is : c.balance-has.result - n ≡ balance s.cells a - n = ap (λ h. h - n) c.balance-has.ensures in
    subst (λ h. supply (with_balance s.cells a h) < 2 ^ 64) (sym is) (undone_within s (undo.Uncredit a n) c.self.invariant can)

pub overflow_add-self : goal.overflow_add-self
overflow_add-self c =
    let s : LedgerCells = record { book = c.self.inside.book; cells = c.self.inside.overlay.cells; flight = c.self.inside.flight; slots = c.self.inside.overlay.slots } in
    let a = c.args.address in
    let n = c.args.amount in
    let can : CanUndo (seen_of s) (undo.Uncredit a n) = (subst (λ (x : LedgerCells). CanUndo (seen_of x) (undo.Uncredit a n)) (sym c.self.view_is) c.requires) in
    let within = balance_within s a c.self.invariant in
    omega (arith, within, can.amount, c.balance-has.ensures)

pub invariant_of-self : goal.invariant_of-self
invariant_of-self c =
    let s : LedgerCells = record { book = c.self.inside.book; cells = c.self.inside.overlay.cells; flight = c.self.inside.flight; slots = c.self.inside.overlay.slots } in
    let a = c.args.address in
    let n = c.args.amount in
    let can : CanUndo (seen_of s) (undo.Uncredit a n) = (subst (λ (x : LedgerCells). CanUndo (seen_of x) (undo.Uncredit a n)) (sym c.self.view_is) c.requires) in
    let t : LedgerCells = record { book = c.self.inside.book; cells = c.set_balance.new.self.cells; flight = c.self.inside.flight + n; slots = c.set_balance.new.self.slots } in
    lawful_undone s t (undo.Uncredit a n) c.self.invariant can
    refl (c.set_balance.ensures.set ∙ ap (λ h. with_balance s.cells a (h - n)) c.balance-has.ensures) refl
