-- By the law of types.
use Rattle.michelson_reader.proofs.TypeAnswers.{found, only}
use Rattle.michelson_reader.proofs.ToldFirst.{type_refused}
use Rattle.michelson_reader.proofs.type_texts.read_type.Goals as goal

pub returns-clause-found : goal.returns-clause-found
returns-clause-found c = found c.args.n.now c.read_type.result c.read_type.ensures

pub returns-clause-only : goal.returns-clause-only
returns-clause-only c = λ t written. only c.args.n.now c.read_type.result t c.read_type.ensures written

pub returns-clause-fault : goal.returns-clause-fault
returns-clause-fault c = type_refused c.args.n.now c.read_type.result c.read_type.ensures
