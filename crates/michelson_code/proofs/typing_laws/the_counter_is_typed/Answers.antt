-- By its four instructions.
use Rattle.michelson_code.proofs.CounterTyped.{counter_typed}
use Rattle.michelson_code.proofs.typing_laws.the_counter_is_typed.Goals as goal

pub returns : goal.returns
returns c = counter_typed
