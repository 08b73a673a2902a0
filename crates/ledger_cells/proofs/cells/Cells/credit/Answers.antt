-- The account has so much more or less, and the rest is in flight.
use Rattle.std.proofs.Common.{◌<◌, ◌^◌, ◌+◌, ◌-◌, Ok, refl, sym, subst, arith}
use Rattle.cell_names.specs.declared.access.Access.TheVariants as access
use Rattle.cell_names.specs.declared.access.Reply.TheVariants as reply
use Rattle.cell_names.specs.declared.access.Undo.TheVariants as undo
use Rattle.cell_names.specs.Contents.{Contents}
use Rattle.cell_names.specs.Supply.{supply}
use Rattle.cell_names.specs.Conditions.{CanAccess}
use Rattle.cell_names.specs.Stores.{Accesses}
use Rattle.ledger_cells.specs.LedgerCells.{LedgerCells, seen_of}
use Rattle.ledger_cells.proofs.Counting.{put_kept}
use Rattle.ledger_cells.proofs.Lawful.{balance_within, put_within}
use Rattle.ledger_cells.proofs.Storing.{has_credited, lawful_accessed}
use Rattle.ledger_cells.proofs.cells.Cells.credit.Goals as goal

pub overflow_add-has : goal.overflow_add-has
overflow_add-has c =
    let s : LedgerCells = record { book = c.self.inside.book; cells = c.self.inside.overlay.cells; flight = c.self.inside.flight; slots = c.self.inside.overlay.slots } in
    let a = c.args.address in
    let n = c.args.amount in
    let can : CanAccess (seen_of s) (access.Credit a n) = (subst (λ (x : LedgerCells). CanAccess (seen_of x) (access.Credit a n)) (sym c.self.view_is) c.requires) in
    let within = balance_within s a c.self.invariant in
    omega (arith, within, can.covered, c.balance-has.ensures)

pub put-requires : goal.put-requires
put-requires c =
    let s : LedgerCells = record { book = c.self.inside.book; cells = c.self.inside.overlay.cells; flight = c.self.inside.flight; slots = c.self.inside.overlay.slots } in
    let a = c.args.address in
    let n = c.args.amount in
    let can : CanAccess (seen_of s) (access.Credit a n) = (subst (λ (x : LedgerCells). CanAccess (seen_of x) (access.Credit a n)) (sym c.self.view_is) c.requires) in
    subst (λ (m : Contents). supply m < 2 ^ 64) (sym (put_kept s.cells a (c.balance-has.result + n) c.kept.result c.kept.ensures))
    (put_within s a (c.balance-has.result + n) c.self.invariant (omega (arith, can.covered, c.balance-has.ensures)))

pub invariant_of-self-2 : goal.invariant_of-self-2
invariant_of-self-2 c =
    let s : LedgerCells = record { book = c.self.inside.book; cells = c.self.inside.overlay.cells; flight = c.self.inside.flight; slots = c.self.inside.overlay.slots } in
    let a = c.args.address in
    let n = c.args.amount in
    let t : LedgerCells = record { book = c.self.inside.book; cells = c.put.new.self.cells; flight = c.self.inside.flight - n; slots = c.put.new.self.slots } in
    let can : CanAccess (seen_of s) (access.Credit a n) = (subst (λ (x : LedgerCells). CanAccess (seen_of x) (access.Credit a n)) (sym c.self.view_is) c.requires) in
    lawful_accessed s t (access.Credit a n) reply.Done (undo.Uncredit a n) c.self.invariant can refl
    (has_credited s t a n c.balance-has.result c.kept.result refl refl c.balance-has.ensures c.kept.ensures c.in_ok-put.ensures.put c.in_ok-put.ensures.slot)

pub returns : goal.returns
returns c =
    let s : LedgerCells = record { book = c.self.inside.book; cells = c.self.inside.overlay.cells; flight = c.self.inside.flight; slots = c.self.inside.overlay.slots } in
    let a = c.args.address in
    let n = c.args.amount in
    let t : LedgerCells = record { book = c.self.inside.book; cells = c.put.new.self.cells; flight = c.self.inside.flight - n; slots = c.put.new.self.slots } in
    subst (λ (x : LedgerCells). Accesses (seen_of x) (access.Credit a n) (Ok (reply.Done, undo.Uncredit a n)) (seen_of t)) c.self.view_is
    (has_credited s t a n c.balance-has.result c.kept.result refl refl c.balance-has.ensures c.kept.ensures c.in_ok-put.ensures.put c.in_ok-put.ensures.slot)
