-- A code weighs at most ten times its count, since no instruction costs more than 10.
use Rattle.std.proofs.Common.{◌≡◌, ◌*◌, ◌≤◌, true, List, [], ◌∷◌, refl, arith}
use Rattle.std.specs.Prelude.{nat_le, sum_by}
use Rattle.std.specs.List.{AllByRecursion}
use Rattle.std.proofs.lemmas.Bool.{leb-true}
use Rattle.std.proofs.lemmas.List.Sums.{sum_by-cons}
use Rattle.michelson_code.specs.declared.instr.Instr.{Instr}
use Rattle.michelson_code.specs.declared.instr.Instr.TheOpen as one
use Rattle.michelson_code.specs.declared.instr.Instr.TheOpen.{Instr-F}
use Rattle.michelson_code.specs.declared.instr.Instr.TheViews.{out-Instr}
use Rattle.michelson_code.specs.Forms.{bodies_of, form_at}
use Rattle.michelson_code.specs.Inside.{count_of-is, weight_of-is}
use Rattle.michelson_code.specs.Levels.{EachIn, induction}
use Rattle.michelson_code.specs.Weight.{code_count, code_weight, count_of, weight_of}

costs_little : {A : Type 0} (x : Instr-F A) → nat_le (form_at x).cost 10 ≡ true
costs_little one.Drop = refl
costs_little _ = refl

WeighsLittle : Instr → Type 0
WeighsLittle i = weight_of i ≤ 10 * count_of i

code_weighs : (c : List Instr) → AllByRecursion WeighsLittle c → code_weight c ≤ 10 * code_count c
unfolding WeighsLittle
code_weighs [] all = omega arith
code_weighs (i ∷ c) all =
    let weights = sum_by-cons weight_of i c in
    let counts = sum_by-cons count_of i c in
    let here = all.0 in
    let behind = code_weighs c all.1 in
    omega (arith, weights, counts, here, behind)

bodies_weigh : (cs : List (List Instr)) → EachIn WeighsLittle cs → sum_by code_weight cs ≤ 10 * sum_by code_count cs
bodies_weigh [] all = omega arith
bodies_weigh (c ∷ cs) all =
    let weights = sum_by-cons code_weight c cs in
    let counts = sum_by-cons code_count c cs in
    let here = code_weighs c all.0 in
    let behind = bodies_weigh cs all.1 in
    omega (arith, weights, counts, here, behind)

one_weighs : (i : Instr) → EachIn WeighsLittle (bodies_of i) → WeighsLittle i
unfolding WeighsLittle
one_weighs i all =
    let weight = weight_of-is i in
    let count = count_of-is i in
    let cost = leb-true _ 10 (costs_little (out-Instr i)) in
    let inside = bodies_weigh (bodies_of i) all in
    omega (arith, weight, count, cost, inside)

each_weighs : (c : List Instr) → AllByRecursion WeighsLittle c
each_weighs [] = tt
each_weighs (i ∷ c) = (induction WeighsLittle one_weighs i, each_weighs c)

pub weighs_little : (c : List Instr) → code_weight c ≤ 10 * code_count c
weighs_little c = code_weighs c (each_weighs c)
