-- The printed text is one of the script, in three lines.
use Rattle.michelson_reader.proofs.ScriptAgain.{answer_in_lines, answer_read_again}
use Rattle.michelson_reader.proofs.printer.print_script.Goals as goal

pub returns-clause-again : goal.returns-clause-again
returns-clause-again c = answer_read_again (λ text. text.items) c.lines.result c.args.s.now c.script_is_lawful.ensures c.lines.ensures

pub returns-clause-in_lines : goal.returns-clause-in_lines
returns-clause-in_lines c = answer_in_lines (λ text. text.items) c.lines.result c.args.s.now c.script_is_lawful.ensures c.lines.ensures
