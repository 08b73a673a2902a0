-- The printed text is read again.
use Rattle.data_nodes.proofs.ReadAgain.{answer_again}
use Rattle.data_nodes.proofs.printer.print_data.Goals as goal

pub returns-clause-again : goal.returns-clause-again
returns-clause-again c = answer_again (λ text. text.items) c.print_node.result c.args.v.now c.in_ok-data_node.field-0 c.in_ok-data_node.ensures c.leaves_are_lawful.ensures c.print_node.ensures.again
