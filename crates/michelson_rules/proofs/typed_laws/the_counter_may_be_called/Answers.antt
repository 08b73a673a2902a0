-- The counter is typed, and has no big maps.
use Rattle.michelson_rules.proofs.CounterCalled.{counter_called}
use Rattle.michelson_rules.proofs.typed_laws.the_counter_may_be_called.Goals as goal

pub returns : goal.returns
returns c = counter_called
