-- Contents are the map of their own entries.
use Rattle.std.specs.FinMap.{entries, from_sorted}
use Rattle.byte_fields.specs.Told.{read_stop}
use Rattle.cell_names.specs.Cells.{cell_cmp}
use Rattle.ledger_state.specs.Reading.{rows}
use Rattle.ledger_state.proofs.Growing.{back_again, made_told}
use Rattle.ledger_state.proofs.rows.counted_at.Goals as goal

pub returns-clause-read : goal.returns-clause-read
returns-clause-read c =
    made_told read_stop (λ x. (entries x.0.cells, x.1.now)) from_sorted (λ x. x.0.cells) (rows c.args.book.now) c.args.bytes.now c.rows_at.result (λ x. back_again cell_cmp x.0.cells) c.rows_at.ensures.read
