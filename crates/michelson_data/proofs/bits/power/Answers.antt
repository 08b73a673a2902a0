-- Powers below 2 to the 127 stay as they are.
use Rattle.std.proofs.Common.{◌%◌, ◌*◌, ◌^◌, ◌≡◌, to_z, arith, ap, subst, sym, pos, FitsSigned, ◌∙◌}
use Rattle.std.specs.Int.{w128}
use Rattle.std.proofs.lemmas.Int.{to_z_pos}
use Rattle.michelson_data.proofs.Powers.{small_power}
use Rattle.michelson_data.proofs.bits.power.Goals as goal

pub overflow_cast-result : goal.overflow_cast-result
overflow_cast-result c = let small = small_power c.args.exponent c.requires in
    let same : 1 * 2 ^ c.args.exponent % 340282366920938463463374607431768211456 ≡ 2 ^ c.args.exponent = omega arith in
    subst (λ p. FitsSigned w128 (pos p)) (sym same) (grind arith)

pub returns : goal.returns
returns c = let small = small_power c.args.exponent c.requires in
    let same : 1 * 2 ^ c.args.exponent % 340282366920938463463374607431768211456 ≡ 2 ^ c.args.exponent = omega arith in
    ap (to_z w128) same ∙ to_z_pos w128 (2 ^ c.args.exponent) small
