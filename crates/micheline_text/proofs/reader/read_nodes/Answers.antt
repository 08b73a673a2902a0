-- What is read is a text of the grammar, and such a text is read.
use Rattle.micheline_text.proofs.Answered.{fault, found, only}
use Rattle.micheline_text.proofs.reader.read_nodes.Goals as goal

pub returns-clause-found : goal.returns-clause-found
returns-clause-found c = found c.args.b.now c.read.result c.read.ensures

pub returns-clause-only : goal.returns-clause-only
returns-clause-only c = λ ns text. only c.args.b.now c.read.result ns c.read.ensures text

pub returns-clause-fault : goal.returns-clause-fault
returns-clause-fault c = fault c.args.b.now c.read.result c.read.ensures
