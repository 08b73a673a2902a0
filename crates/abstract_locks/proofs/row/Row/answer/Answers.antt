-- The first other ticket decides.
use Rattle.std.proofs.Common.{◌∙◌, ap, Option}
use Rattle.cell_names.specs.declared.mode.Mode.{Mode}
use Rattle.cell_names.specs.Footprints.{further}
use Rattle.abstract_locks.specs.Tables.{Row, mode_at}
use Rattle.abstract_locks.specs.Rows.{answer_in}
use Rattle.abstract_locks.proofs.RowAnswers.{seen_answers}
use Rattle.abstract_locks.proofs.row.Row.answer.Goals as goal

pub returns-clause-answer : goal.returns-clause-answer
returns-clause-answer c =
    seen_answers c.self.inside.places.items c.args.self.now c.args.ticket c.args.m c.further-asked.result c.first_against.result c.self.view_is c.self.invariant
    (c.further-asked.ensures ∙ ap (λ (o : Option Mode). further o c.args.m) (c.mode_at.ensures ∙ ap mode_at c.at.ensures))
    (c.first_against.ensures ∙ ap (λ (row : Row). answer_in row c.args.ticket c.further-asked.result) c.as_slice.ensures.value)
