-- The list of the ticket grows, and no other changes.
use Rattle.std.proofs.Common.{◌∙◌, List, ◌++◌, ◌∷◌, [], sym, ap}
use Rattle.std.specs.Prelude.{is_some}
use Rattle.std.proofs.lemmas.List.{append-nil}
use Rattle.cell_names.specs.declared.cell.Cell.{Cell}
use Rattle.abstract_locks.specs.Lists.{cells_of}
use Rattle.abstract_locks.proofs.ListLemmas.{grown, last_listed}
use Rattle.abstract_locks.proofs.lists.list.Goals as goal

pub returns-in_err-push-in-Some-clause-kept : goal.returns-in_err-push-in-Some-clause-kept
returns-in_err-push-in-Some-clause-kept c =
    grown c.args.lists.now.entries (c.get_mut.follows.lender c.push.new.self).entries c.args.ticket c.push.new.self []
    (c.in_err-push-in-Some.ensures.items ∙ ap cells_of c.in-Some.ensures.value ∙ sym (append-nil _))
    (((c.get_mut.follows.holds c.push.new.self).3 (sym (ap is_some c.in-Some.ensures.value))).0)

pub returns-in_ok-push-in-Some-clause-listed : goal.returns-in_ok-push-in-Some-clause-listed
returns-in_ok-push-in-Some-clause-listed c =
    last_listed c.args.lists.now.entries (c.get_mut.follows.lender c.push.new.self).entries c.args.ticket c.push.new.self c.args.c.now c.in-Some.cells.now.items
    (c.in_ok-push-in-Some.ensures.items ∙ ap (λ (x : Cell). c.in-Some.cells.now.items ++ x ∷ []) c.in_ok-cell.ensures)
    (((c.get_mut.follows.holds c.push.new.self).3 (sym (ap is_some c.in-Some.ensures.value))).0)

pub returns-in_ok-push-in-Some-clause-kept : goal.returns-in_ok-push-in-Some-clause-kept
returns-in_ok-push-in-Some-clause-kept c =
    grown c.args.lists.now.entries (c.get_mut.follows.lender c.push.new.self).entries c.args.ticket c.push.new.self (c.in_ok-cell.cell ∷ [])
    (c.in_ok-push-in-Some.ensures.items ∙ ap (λ (l : List Cell). l ++ c.in_ok-cell.cell ∷ []) (ap cells_of c.in-Some.ensures.value))
    (((c.get_mut.follows.holds c.push.new.self).3 (sym (ap is_some c.in-Some.ensures.value))).0)
