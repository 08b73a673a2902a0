-- What is read of the nodes of a text is a script of it, the script of a text is read, and the fault is its own.
use Rattle.michelson_reader.proofs.ScriptAnswers.{told_fault, told_found, told_only, told_text, told_text_fault}
use Rattle.michelson_reader.proofs.script.read_script.Goals as goal

pub returns-in_err-nodes-clause-only : goal.returns-in_err-nodes-clause-only
returns-in_err-nodes-clause-only c = told_text c.args.b.now c.in_err-nodes.field-0.0 c.from_residual.result c.from_residual.ensures.1 c.in_err-nodes.ensures.only

pub returns-in_err-nodes-clause-fault : goal.returns-in_err-nodes-clause-fault
returns-in_err-nodes-clause-fault c = told_text_fault c.args.b.now c.in_err-nodes.field-0.0 c.from_residual.result c.from_residual.ensures.1 c.in_err-nodes.ensures.fault

pub returns-clause-found : goal.returns-clause-found
returns-clause-found c = told_found c.args.b.now c.in_ok-nodes.nodes c.as_slice.result.now c.as_slice.ensures c.script_of.result c.in_ok-nodes.ensures.found c.script_of.ensures

pub returns-clause-only : goal.returns-clause-only
returns-clause-only c = told_only c.args.b.now c.in_ok-nodes.nodes c.as_slice.result.now c.as_slice.ensures c.script_of.result c.in_ok-nodes.ensures.only c.script_of.ensures

pub returns-clause-fault : goal.returns-clause-fault
returns-clause-fault c = told_fault c.args.b.now c.in_ok-nodes.nodes c.as_slice.result.now c.as_slice.ensures c.script_of.result c.in_ok-nodes.ensures.found c.script_of.ensures
