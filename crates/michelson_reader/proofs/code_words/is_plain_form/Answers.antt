-- A word is in the table where the table has something for it.
use Rattle.std.proofs.Common.{ap, ◌∙◌}
use Rattle.std.specs.Prelude.{is_some}
use Rattle.michelson_reader.specs.Names.{plain_forms}
use Rattle.michelson_reader.proofs.Refusals.{is_in-named}
use Rattle.michelson_reader.proofs.code_words.is_plain_form.Goals.{in-Some, in-None}
use Rattle.michelson_reader.proofs.code_words.is_plain_form.Goals as goal

pub returns : goal.returns
returns c =
    elim c.match-plain_form.branch [
      | in-Some w ↦ w.result-is ∙ ap is_some w.in-Some.ensures ∙ is_in-named c.args.name.now plain_forms
      | in-None w ↦ w.result-is ∙ ap is_some w.in-None.ensures ∙ is_in-named c.args.name.now plain_forms
    ]
