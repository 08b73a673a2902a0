-- The ticket had no list.
use Rattle.std.proofs.Common.{◌∙◌, List, ◌++◌, ◌∷◌, [], sym, ap}
use Rattle.cell_names.specs.declared.cell.Cell.{Cell}
use Rattle.abstract_locks.proofs.ListLemmas.{grown, last_listed}
use Rattle.abstract_locks.proofs.lists.list_first.Goals as goal

pub returns-clause-listed : goal.returns-clause-listed
returns-clause-listed c =
    last_listed c.args.lists.now.entries c.insert.new.self.entries c.args.ticket c.push.new.self c.args.cell []
    (c.in_ok-push.ensures.items ∙ ap (λ (l : List Cell). l ++ c.args.cell ∷ []) c.new-cells.ensures.items) (c.in_ok-insert.ensures.updates.0)

pub returns-clause-kept : goal.returns-clause-kept
returns-clause-kept c =
    grown c.args.lists.now.entries c.insert.new.self.entries c.args.ticket c.push.new.self (c.args.cell ∷ [])
    (c.in_ok-push.ensures.items ∙ ap (λ (l : List Cell). l ++ c.args.cell ∷ []) (c.new-cells.ensures.items ∙ sym c.requires)) (c.in_ok-insert.ensures.updates.0)
