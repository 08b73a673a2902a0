-- The cell has the copied value.
use Rattle.std.proofs.Common.{Option, Ok, refl, sym, subst}
use Rattle.value_core.specs.declared.val.Val.{Val}
use Rattle.cell_names.specs.declared.access.Access.TheVariants as access
use Rattle.cell_names.specs.declared.access.Reply.TheVariants as reply
use Rattle.cell_names.specs.declared.access.Undo.TheVariants as undo
use Rattle.cell_names.specs.Conditions.{CanAccess}
use Rattle.cell_names.specs.Stores.{Accesses}
use Rattle.ledger_cells.specs.LedgerCells.{LedgerCells, seen_of}
use Rattle.ledger_cells.proofs.Lawful.{after_within}
use Rattle.ledger_cells.proofs.Storing.{has_written, lawful_accessed}
use Rattle.ledger_cells.proofs.cells.Cells.write.Goals as goal

pub put-requires : goal.put-requires
put-requires c =
    let s : LedgerCells = record { book = c.self.inside.book; cells = c.self.inside.overlay.cells; flight = c.self.inside.flight; slots = c.self.inside.overlay.slots } in
    let v = c.in_ok-value.value in
    after_within s (access.Write c.args.c.now v) c.self.invariant (subst (λ (x : LedgerCells). CanAccess (seen_of x) (access.Write c.args.c.now v)) (sym c.self.view_is) (subst (λ (o : Option Val). CanAccess (seen_of c.args.self.now) (access.Write c.args.c.now o)) (sym c.in_ok-value.ensures) c.requires))

pub invariant_of-self-2 : goal.invariant_of-self-2
invariant_of-self-2 c =
    let s : LedgerCells = record { book = c.self.inside.book; cells = c.self.inside.overlay.cells; flight = c.self.inside.flight; slots = c.self.inside.overlay.slots } in
    let v = c.in_ok-value.value in
    let t : LedgerCells = record { book = c.self.inside.book; cells = c.put.new.self.cells; flight = c.self.inside.flight; slots = c.put.new.self.slots } in
    lawful_accessed s t (access.Write c.args.c.now v) reply.Done (undo.Put c.in_ok-name.name c.in_ok-old.old) c.self.invariant (subst (λ (x : LedgerCells). CanAccess (seen_of x) (access.Write c.args.c.now v)) (sym c.self.view_is) (subst (λ (o : Option Val). CanAccess (seen_of c.args.self.now) (access.Write c.args.c.now o)) (sym c.in_ok-value.ensures) c.requires)) refl
    (has_written s t c.args.c.now c.in_ok-name.name v c.in_ok-old.old refl refl c.in_ok-old.ensures.put c.in_ok-old.ensures.slot c.in_ok-name.ensures c.in_ok-old.ensures.old)

pub returns : goal.returns
returns c =
    let s : LedgerCells = record { book = c.self.inside.book; cells = c.self.inside.overlay.cells; flight = c.self.inside.flight; slots = c.self.inside.overlay.slots } in
    let v = c.in_ok-value.value in
    let t : LedgerCells = record { book = c.self.inside.book; cells = c.put.new.self.cells; flight = c.self.inside.flight; slots = c.put.new.self.slots } in
    subst (λ (o : Option Val). Accesses (seen_of c.args.self.now) (access.Write c.args.c.now o) (Ok (reply.Done, undo.Put c.in_ok-name.name c.in_ok-old.old)) (seen_of t)) c.in_ok-value.ensures
    (subst (λ (x : LedgerCells). Accesses (seen_of x) (access.Write c.args.c.now v) (Ok (reply.Done, undo.Put c.in_ok-name.name c.in_ok-old.old)) (seen_of t)) c.self.view_is
    (has_written s t c.args.c.now c.in_ok-name.name v c.in_ok-old.old refl refl c.in_ok-old.ensures.put c.in_ok-old.ensures.slot c.in_ok-name.ensures c.in_ok-old.ensures.old))
