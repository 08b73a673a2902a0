-- A word takes a body where it makes something of one.
use Rattle.std.proofs.Common.{ap, ◌∙◌}
use Rattle.std.specs.Prelude.{is_some}
use Rattle.michelson_reader.specs.Names.{forms_of_body}
use Rattle.michelson_reader.proofs.FormReads.{is_in-made}
use Rattle.michelson_reader.proofs.code_words.takes_body.Goals as goal

pub returns : goal.returns
returns c = c.is_some.ensures ∙ ap is_some c.with_body.ensures ∙ is_in-made c.args.name.now forms_of_body _
