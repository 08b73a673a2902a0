-- By what stands at one level.
use Rattle.value_core.proofs.Canonical.{of_contract, of_operation}
use Rattle.value_laws.proofs.types.typed_calls_have_their_form.Goals as goal

pub returns : goal.returns
returns c = record {
  contract = of_contract;
  operation = of_operation;
}
