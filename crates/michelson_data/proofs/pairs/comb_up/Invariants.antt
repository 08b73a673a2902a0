use Rattle.std.proofs.Common.{◌≡◌, drop, suc}
use Rattle.michelson_data.specs.Pairing.{comb_up, paired_up}
use Rattle.michelson_data.proofs.pairs.comb_up.Given as goal

abbrev pub invariant-loop-part : goal.invariant-loop-part
invariant-loop-part l = comb_up l.parts ≡ paired_up l.made (drop (suc l.part-index) l.parts)
