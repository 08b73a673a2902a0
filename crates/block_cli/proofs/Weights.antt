-- What a typed script weighs and counts is below 2^64.
use Rattle.std.proofs.Common.{◌≡◌, ◌*◌, ◌≤◌, ◌-◌, ◌^◌, List, min, arith}
use Rattle.std.proofs.Math.Bridge.{le_prop}
use Rattle.std.proofs.Math.Logic.{∥∥₁_elim}
use Rattle.std.proofs.Math.Nat.{min-eq_left}
use Rattle.michelson_code.specs.declared.instr.Instr.{Instr}
use Rattle.michelson_code.specs.declared.script.Script.{Script}
use Rattle.michelson_code.specs.TypedScript.{IsTypedScript}
use Rattle.michelson_code.specs.Weight.{code_count, code_weight}

module _ (s : Script) (typed : ∥ IsTypedScript s ∥₁) (short : (t : Script) → IsTypedScript t → code_count t.code ≤ 65536) where
  is_short : code_count s.code ≤ 65536
  is_short = ∥∥₁_elim typed le_prop (short s)

  pub whole_count : min (code_count s.code) (2 ^ 64 - 1) ≡ code_count s.code
  whole_count = min-eq_left (let few = is_short in omega (arith, few))

  pub whole_weight : ((c : List Instr) → code_weight c ≤ 10 * code_count c) → min (code_weight s.code) (2 ^ 64 - 1) ≡ code_weight s.code
  whole_weight weighs = min-eq_left (let few = is_short in let light = weighs s.code in omega (arith, few, light))
