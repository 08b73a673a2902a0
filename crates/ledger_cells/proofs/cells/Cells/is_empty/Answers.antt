-- There is no cell where their number is 0.
use Rattle.std.proofs.Common.{ap, sym, ◌∙◌, eq-eqb}
use Rattle.std.proofs.lemmas.Bool.{eqb-true}
use Rattle.std.specs.FinMap.{empty_of_len, len-empty, len}
use Rattle.value_core.specs.declared.val.Val.{Val}
use Rattle.cell_names.specs.Cells.{cell_cmp}
use Rattle.cell_names.specs.Contents.{Contents}
use Rattle.ledger_cells.proofs.cells.Cells.is_empty.Goals as goal

pub returns : goal.returns
returns c = (
  λ is. empty_of_len c.args.self.now.cells (sym c.len.ensures.length ∙ eqb-true c.len.result 0 is),
  λ none. eq-eqb c.len.result 0 (c.len.ensures.length ∙ ap (λ (m : Contents). len m) none ∙ len-empty cell_cmp Val),
)
