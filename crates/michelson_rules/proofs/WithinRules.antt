-- A code costs at most its weight for each turn, and once more; and it takes no other turns than it has.
use Rattle.std.proofs.Common.{◌≡◌, ℕ, ◌+◌, ◌≤◌, List, [], ◌∷◌, map, sum_by, Option, Some, None, sym, ap, subst, arith}
use Rattle.std.specs.Prelude.{is_some}
use Rattle.std.specs.List.{AllByRecursion}
use Rattle.std.proofs.lemmas.List.Sums.{sum_by-cons}
use Rattle.value_core.specs.declared.ty.Ty.{Ty}
use Rattle.value_core.specs.declared.val.Val.{Val}
use Rattle.value_core.specs.declared.val.Val.TheOpen as is
use Rattle.value_core.specs.declared.val.Val.TheVariants as value
use Rattle.value_core.specs.Layer.{Layer}
use Rattle.michelson_code.specs.declared.instr.Instr.{Instr}
use Rattle.michelson_code.specs.declared.instr.Instr.TheOpen as one
use Rattle.michelson_code.specs.declared.instr.Instr.TheOpen.{Instr-F}
use Rattle.michelson_code.specs.declared.instr.Instr.TheViews.{out-Instr}
use Rattle.michelson_code.specs.declared.instr.Instr.TheFolds.{fold_out-Instr, map-Instr}
use Rattle.michelson_code.specs.declared.script.Script.{Script}
use Rattle.michelson_code.specs.Forms.{Form, bodies, bodies_of, cost_of, form_at}
use Rattle.michelson_code.specs.Inside.{weight_of-is}
use Rattle.michelson_code.specs.Levels.{EachIn, form_at-map, induction}
use Rattle.michelson_code.specs.Typing.{called}
use Rattle.michelson_code.specs.Weight.{code_weight, weight_of}
use Rattle.michelson_rules.specs.declared.ask.Env.{Env}
use Rattle.michelson_rules.specs.World.{World}
use Rattle.michelson_rules.specs.Runs.{Beside, Mark, Run}
use Rattle.michelson_rules.specs.Answers.{Answered}
use Rattle.michelson_rules.specs.BigMaps.{Keyed, change_on_top, changed_or_asked, key_on_top, looked_up, with_change}
use Rattle.michelson_rules.specs.Bodies.{Meaning, in_turn, while_left, while_true}
use Rattle.michelson_rules.specs.Collections.{option}
use Rattle.michelson_rules.specs.Plain.{plain_at}
use Rattle.michelson_rules.specs.Rules.{act, balance, changed_map, changed_map_with_old, charged, contract, looked_up_as, or_plain, rule, rules}
use Rattle.michelson_rules.specs.Spent.{IsFair}
use Rattle.michelson_rules.proofs.Causes.{FailsWell, plain_fails}
use Rattle.michelson_rules.proofs.VersionLaws.{change_ascends}
use Rattle.michelson_rules.proofs.Within.{Within, misses_at_once, paid, returns_at_once, wider, within_last, within_then}
use Rattle.michelson_rules.proofs.WithinBodies.{Costs, answered_within, below_within, bool_within, first_within, iterated_within, looped_within, mapped_within, none_within, on_top_within, side_within}

-- ---- what asks the ledger, or changes a big map

module _ (per once : ℕ) (w : World) where
  asked_within : (place : ℕ) (key : Val) (found : Option (Option Val)) (beside : Beside) → Within per once beside (changed_or_asked w place key found beside)
  asked_within place key (Some v) beside = returns_at_once per once v beside
  asked_within place key None beside = record { cost = omega arith; keeps = omega arith; fails = tt; ascends = λ up. up }

  looked_up_within : (k : Keyed) (beside : Beside) → Within per once beside (looked_up w k beside)
  looked_up_within k beside = asked_within k.place k.key _ beside

  change_within : (k : Keyed) (choice : Option Val) (beside : Beside) → Within per once beside (with_change k choice beside)
  change_within k choice beside = record { cost = omega arith; keeps = omega arith; fails = tt; ascends = change_ascends k choice beside }

  looked_up_as_within : (tell : Option Val → Val) (k : Keyed) (beside : Beside) → Within per once beside (looked_up_as w tell k beside)
  looked_up_as_within tell k beside =
      within_last per once beside (looked_up w k beside) _ (looked_up_within k beside) (λ v b. returns_at_once per 0 (tell v ∷ k.below) b)

  changed_map_within : (x : Keyed × Option Val) (beside : Beside) → Within per once beside (changed_map w x beside)
  changed_map_within (k, choice) beside =
      within_last per once beside (with_change k choice beside) _ (change_within k choice beside) (λ m b. returns_at_once per 0 (m ∷ k.below) b)

  contract_within : (entry : List ℕ) (ty : Ty) (x : Layer Val) → Costs per once (contract w entry ty x)
  contract_within entry ty (is.Addr address) stack beside = record { cost = omega arith; keeps = omega arith; fails = tt; ascends = λ up. up }
  contract_within entry ty _ stack beside = misses_at_once per once beside

  balance_within : Costs per once (balance w)
  balance_within stack beside = record { cost = omega arith; keeps = omega arith; fails = tt; ascends = λ up. up }

old_within : (per once : ℕ) (w : World) (x : Keyed × Option Val) (beside : Beside) → Within per once beside (changed_map_with_old w x beside)
old_within per once w (k, choice) beside =
    within_last per once beside (looked_up w k beside) _ (looked_up_within per once w k beside)
    (λ old b. within_last per 0 b (with_change k choice b) _ (change_within per 0 w k choice b) (λ m c. returns_at_once per 0 (option old ∷ m ∷ k.below) c))

or_plain_within : {K : Type 0} (per once : ℕ) (a : Answered) → FailsWell a → (k : Option K) (f : K → Beside → Run (List Val)) →
    ((x : K) (beside : Beside) → Within per once beside (f x beside)) → (beside : Beside) → Within per once beside (or_plain a k f beside)
or_plain_within per once a well (Some k) f h beside = h k beside
or_plain_within per once a well None f h beside = answered_within per once a well beside

-- ---- instructions

module _ (price : ℕ → List Mark) (fair : IsFair price) (s : Script) (env : Env) (w : World) where
  abbrev its_rule : Instr → Meaning
  its_rule = rule price s env w

  abbrev CostsItsWeight : Instr → Type 0
  CostsItsWeight i = Costs (weight_of i) (weight_of i) (rule price s env w i)

  code_within : (c : List Instr) → AllByRecursion CostsItsWeight c → Costs (code_weight c) (code_weight c) (in_turn (map its_rule c))
  code_within [] all stack beside = returns_at_once (code_weight []) (code_weight []) stack beside
  code_within (i ∷ c) all stack beside =
      let n : ℕ = weight_of i in
      let m : ℕ = code_weight c in
      let sum : code_weight (i ∷ c) ≡ n + m = sum_by-cons weight_of i c in
      subst (λ k. Within k k beside (in_turn (map its_rule (i ∷ c)) stack beside)) (sym sum)
      (within_then (n + m) n m beside (its_rule i stack beside) (in_turn (map its_rule c))
      (wider n (n + m) n n beside _ (omega arith) (omega arith) (all.0 stack beside))
      (λ st b. wider m (n + m) m m b _ (omega arith) (omega arith) (code_within c all.1 st b)))

  abbrev inside : Instr-F Instr → ℕ
  inside x = sum_by code_weight (bodies (form_at x).operands)

  -- a body among others
  wide : (n m : ℕ) (m' : Meaning) → n ≤ m → Costs n n m' → Costs m m m'
  wide n m m' le h stack beside = wider n m n m beside (m' stack beside) le le (h stack beside)

  one_body : (c : List Instr) → AllByRecursion CostsItsWeight c → Costs (sum_by code_weight (c ∷ [])) (sum_by code_weight (c ∷ [])) (in_turn (map its_rule c))
  one_body c all = let sum = sum_by-cons code_weight c [] in wide (code_weight c) _ (in_turn (map its_rule c)) (omega (arith, sum)) (code_within c all)

  first_body : (c d : List Instr) → AllByRecursion CostsItsWeight c → Costs (sum_by code_weight (c ∷ d ∷ [])) (sum_by code_weight (c ∷ d ∷ [])) (in_turn (map its_rule c))
  first_body c d all = let sum = sum_by-cons code_weight c (d ∷ []) in wide (code_weight c) _ (in_turn (map its_rule c)) (omega (arith, sum)) (code_within c all)

  second_body : (c d : List Instr) → AllByRecursion CostsItsWeight d → Costs (sum_by code_weight (c ∷ d ∷ [])) (sum_by code_weight (c ∷ d ∷ [])) (in_turn (map its_rule d))
  second_body c d all =
      let sum = sum_by-cons code_weight c (d ∷ []) in let last = sum_by-cons code_weight d [] in
      wide (code_weight d) _ (in_turn (map its_rule d)) (omega (arith, sum, last)) (code_within d all)

  act_within : (x : Instr-F Instr) → EachIn CostsItsWeight (bodies (form_at x).operands) →
      Costs (inside x) (inside x) (act price s env w (map-Instr Instr Meaning its_rule x))
  act_within (one.Dip c) all stack beside = below_within 1 _ _ (in_turn (map its_rule c)) (one_body c all.0) stack beside
  act_within (one.DipN n c) all stack beside = below_within n _ _ (in_turn (map its_rule c)) (one_body c all.0) stack beside
  act_within (one.If c d) all stack beside = on_top_within _ _ _ (bool_within _ _ _ _ (first_body c d all.0) (second_body c d all.1.0)) stack beside
  act_within (one.IfNone c d) all stack beside = on_top_within _ _ _ (none_within _ _ _ _ (first_body c d all.0) (second_body c d all.1.0)) stack beside
  act_within (one.IfLeft c d) all stack beside = on_top_within _ _ _ (side_within _ _ _ _ (first_body c d all.0) (second_body c d all.1.0)) stack beside
  act_within (one.IfCons c d) all stack beside = on_top_within _ _ _ (first_within _ _ _ _ (first_body c d all.0) (second_body c d all.1.0)) stack beside
  act_within (one.Loop c) all stack beside = looped_within _ _ (one_body c all.0) while_true stack beside
  act_within (one.LoopLeft c) all stack beside = looped_within _ _ (one_body c all.0) while_left stack beside
  act_within (one.Iter c) all stack beside = on_top_within _ _ _ (iterated_within _ _ (one_body c all.0)) stack beside
  act_within (one.Map c) all stack beside = on_top_within _ _ _ (mapped_within _ _ (one_body c all.0)) stack beside
  act_within one.Mem all stack beside = or_plain_within _ _ _ (plain_fails {A = Meaning} s env one.Mem stack) (key_on_top stack) _ (looked_up_as_within _ _ w (λ v. value.Bool (is_some v))) beside
  act_within one.Get all stack beside = or_plain_within _ _ _ (plain_fails {A = Meaning} s env one.Get stack) (key_on_top stack) _ (looked_up_as_within _ _ w option) beside
  act_within one.Update all stack beside = or_plain_within _ _ _ (plain_fails {A = Meaning} s env one.Update stack) (change_on_top stack) _ (changed_map_within _ _ w) beside
  act_within one.GetAndUpdate all stack beside = or_plain_within _ _ _ (plain_fails {A = Meaning} s env one.GetAndUpdate stack) (change_on_top stack) _ (old_within _ _ w) beside
  act_within one.Balance all stack beside = balance_within _ _ w stack beside
  act_within (one.Contract e t) all stack beside = on_top_within _ _ _ (contract_within _ _ w (called e) t) stack beside
  act_within i all stack beside = answered_within _ _ (plain_at s env (map-Instr Instr Meaning its_rule i) stack) (plain_fails s env (map-Instr Instr Meaning its_rule i) stack) beside

  one_within : (i : Instr) → EachIn CostsItsWeight (bodies_of i) → CostsItsWeight i
  one_within i all stack beside =
      let x : Instr-F Instr = out-Instr i in
      let y : Instr-F Meaning = map-Instr Instr Meaning its_rule x in
      let cost : (form_at y).cost ≡ cost_of i = ap (λ (f : Form Meaning). f.cost) (form_at-map its_rule x) in
      let fee = fair.gas (form_at y).cost in
      subst (λ (m : Meaning). Within (weight_of i) (weight_of i) beside (m stack beside)) (sym (fold_out-Instr Meaning (charged price s env w) i))
      (subst (λ n. Within n n beside (charged price s env w y stack beside)) (sym (weight_of-is i))
      (paid (cost_of i) (inside x) beside (price (form_at y).cost) (act price s env w y stack beside) (omega (arith, fee, cost)) (fair.turns (form_at y).cost)
      (act_within x all stack beside)))

  each_within : (c : List Instr) → AllByRecursion CostsItsWeight c
  each_within [] = tt
  each_within (i ∷ c) = (induction CostsItsWeight one_within i, each_within c)

  pub rules_within : (c : List Instr) → Costs (code_weight c) (code_weight c) (rules price s env w c)
  rules_within c = code_within c (each_within c)
