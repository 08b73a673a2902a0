-- A word takes a number where it makes something of one.
use Rattle.std.proofs.Common.{ap, ◌∙◌}
use Rattle.std.specs.Prelude.{is_some}
use Rattle.michelson_reader.specs.Names.{forms_of_number}
use Rattle.michelson_reader.proofs.FormReads.{is_in-made}
use Rattle.michelson_reader.proofs.code_words.takes_number.Goals as goal

pub returns : goal.returns
returns c = c.is_some.ensures ∙ ap is_some c.with_number.ensures ∙ is_in-made c.args.name.now forms_of_number _
