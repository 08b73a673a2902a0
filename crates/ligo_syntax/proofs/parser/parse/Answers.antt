use Rattle.ligo_syntax.proofs.Told.{found, only, fault}
use Rattle.ligo_syntax.proofs.parser.parse.Goals as goal

pub returns-clause-found : goal.returns-clause-found
returns-clause-found c = found c.args.b.now (c.bytes_are_laid_out_in_one_way.ensures.laid c.args.b.now) c.read_text.result c.read_text.ensures

pub returns-clause-only : goal.returns-clause-only
returns-clause-only c = λ p text. only c.args.b.now (c.bytes_are_laid_out_in_one_way.ensures.only c.args.b.now) c.read_text.result p c.read_text.ensures text

pub returns-clause-fault : goal.returns-clause-fault
returns-clause-fault c = fault c.args.b.now (c.bytes_are_laid_out_in_one_way.ensures.laid c.args.b.now) c.read_text.result c.read_text.ensures
