-- Nothing is left of 128 bits that go 128 places to the right.
use Rattle.std.proofs.Common.{sym, arith}
use Rattle.michelson_data.proofs.Powers.{through_much}
use Rattle.michelson_data.proofs.bits.lowered.Goals as goal

pub returns-else-by-lt128 : goal.returns-else-by-lt128
returns-else-by-lt128 c = sym (through_much c.args.n c.args.by (omega (arith, c.ranges.n.fits)) c.if-by-lt128.false)
