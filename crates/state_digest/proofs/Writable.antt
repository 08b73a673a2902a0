-- The cells of a state and their values have spellings.
use Rattle.std.proofs.Common.{◌≡◌, List, [], ◌∷◌, Option, Some, None, subst, sym, ◌∙◌}
use Rattle.std.specs.Prelude.{MatchOption}
use Rattle.std.specs.FinMap.{entries}
use Rattle.cell_names.specs.CellOrder.{cell_cmp-total}
use Rattle.ledger_state.specs.Ledger.{IsLedger, Ledger}
use Rattle.ledger_state.proofs.Entries.{held_each}
use Rattle.ledger_state.proofs.FitLaws.{cell_written, value_written}
use Rattle.state_digest.specs.Shelving.{Held}
use Rattle.state_digest.specs.Texts.{AreWritable, IsWritable, rows_left}

all_writable : (s : Ledger) → IsLedger s → AreWritable (entries s.cells)
all_writable s is = held_each cell_cmp-total IsWritable s.cells (λ c v e.
    let fit = is.cells.values c v e in
    let written = value_written s.book c v is.book fit in
    record { cell = cell_written s.book c v is.book fit; plain = written.plain; deep = written.deep })

-- so have the first of them and those behind it
pub first_and_rest : (s : Ledger) (all rest : List Held) (next : Option Held) → IsLedger s → all ≡ entries s.cells → MatchOption next ((all ≡ []) × (rest ≡ [])) (λ row. all ≡ (row.0, row.1) ∷ rest) → AreWritable (rows_left next rest)
first_and_rest s all rest None is cells none = tt
first_and_rest s all rest (Some e) is cells cut = subst AreWritable (sym cells ∙ cut) (all_writable s is)
