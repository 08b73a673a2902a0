-- A power of 127 and more takes any number but 0 out of range.
use Rattle.std.proofs.Common.{ap, ◌∙◌, of_z}
use Rattle.std.specs.Int.{w128}
use Rattle.michelson_data.proofs.Powers.{too_far}
use Rattle.michelson_data.proofs.bits.raised.Goals as goal

pub returns-else-by-lt127 : goal.returns-else-by-lt127
returns-else-by-lt127 c = too_far c.args.n c.args.by (λ zero. c.if-get-eq0.false (ap (of_z w128) (c.get.ensures.value ∙ zero))) c.if-by-lt127.false
