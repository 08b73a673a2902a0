-- Pairs are as large as their parts together.
use Rattle.std.proofs.Common.{refl}
use Rattle.michelson_data.proofs.PairLaws.{large_comb, small_comb}
use Rattle.michelson_data.proofs.pairs.combed.Goals as goal

pub returns-then-not-are_within_size : goal.returns-then-not-are_within_size
returns-then-not-are_within_size c = large_comb c.args.parts.now c.requires c.if-not-are_within_size.ensures.1

pub returns : goal.returns
returns c = small_comb c.args.parts.now c.in_ok-comb_up.field-0 c.requires (c.if-not-are_within_size.ensures.0 refl) c.in_ok-comb_up.ensures
