-- What is read of data is pushed, and what is told of it is told.
use Rattle.data_nodes.proofs.DataLaws.{data-read}
use Rattle.michelson_reader.proofs.Refusals.{data_pushed, data_refused}
use Rattle.michelson_reader.proofs.pushed.pushed.Goals as goal

pub returns-in-Ok : goal.returns-in-Ok
returns-in-Ok c =
    data_pushed c.args.t.now c.args.n.now c.in-Ok.v ((data-read c.args.n.now c.args.t.now c.in-Ok.v).1 c.in-Ok.ensures.found)

pub returns-in-Err-Fault : goal.returns-in-Err-Fault
returns-in-Err-Fault c =
    data_refused c.args.t.now c.args.n.now c.in-Err-Fault.fault c.data_fault.result (rw c.in-Err-Fault.field-0-is at c.in-Err-Fault.ensures.fault) c.data_fault.ensures
