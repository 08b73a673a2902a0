-- Each byte is below 256.
use Rattle.std.proofs.Common.{arith}
use Rattle.value_core.proofs.LawfulLemmas.{all_small}
use Rattle.micheline_text.proofs.lawfulness.bytes_are_small.Goals as goal

pub returns : goal.returns
returns c = all_small c.args.bytes.now (λ i. omega (arith, c.type_inv.bytes i))
