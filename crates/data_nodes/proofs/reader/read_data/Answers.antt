-- The laws of reading, where the value isn't too large.
use Rattle.data_nodes.proofs.DataLaws.{data_fault, data_found, data_only}
use Rattle.data_nodes.proofs.FirstFaults.{answer_fault}
use Rattle.data_nodes.proofs.PlainData.{answer_plain}
use Rattle.data_nodes.proofs.reader.read_data.Goals as goal

pub returns-clause-found : goal.returns-clause-found
returns-clause-found c = data_found c.args.t.now c.args.n.now c.read_small.result c.read_small.ensures

pub returns-clause-plain : goal.returns-clause-plain
returns-clause-plain c = answer_plain c.args.t.now c.args.n.now c.read_small.result (returns-clause-found c)

pub returns-clause-only : goal.returns-clause-only
returns-clause-only c = data_only c.args.t.now c.args.n.now c.read_small.result c.read_small.ensures

pub returns-clause-first : goal.returns-clause-first
returns-clause-first c = answer_fault c.args.t.now c.args.n.now c.read_small.result c.read_small.ensures

pub returns-clause-fault : goal.returns-clause-fault
returns-clause-fault c = data_fault c.args.t.now c.args.n.now c.read_small.result c.read_small.ensures
