-- By induction on the value, level by level.
use Rattle.value_core.proofs.PlainTyped.{passable_is_plain, plain_within}
use Rattle.value_core.proofs.typing.typed_values_are_plain.Goals as goal

pub returns : goal.returns
returns c = record { plain = passable_is_plain; depth = plain_within }
