-- The cell had no row.
use Rattle.std.proofs.Common.{◌∙◌, Some, None, cond, ap}
use Rattle.std.specs.Prelude.{◌==◌}
use Rattle.std.specs.Map.{lookup}
use Rattle.cell_names.specs.declared.cell.Cell.{Cell}
use Rattle.abstract_locks.specs.Tables.{Row, is_one, place_in}
use Rattle.abstract_locks.proofs.TableLemmas.{one_row}
use Rattle.abstract_locks.proofs.places.add_row.Goals as goal

pub returns-clause-added : goal.returns-clause-added
returns-clause-added c =
    one_row c.args.rows.now.entries c.insert.new.self.entries c.args.c.now _ (Some c.add.new.self) c.args.ticket (Some None) c.requires
    (λ d. c.in_ok-insert.ensures.updates.0 d ∙ ap (λ (k : Cell). cond (is_one k d) (Some c.add.new.self) (lookup (is_one d) c.args.rows.now.entries)) c.in_ok-cell.ensures)
    (λ n. c.in_ok-add.ensures.added n ∙ ap (λ (row : Row). cond (n == c.args.ticket) (Some None) (place_in row n)) c.new-row.ensures)
