-- A code's runs in two worlds are the same as long as the worlds answer alike, and so is what they come to.
use Rattle.std.proofs.Common.{◌≡◌, ℕ, Bool, true, false, List, [], ◌∷◌, map, Option, Some, None, refl, sym, ap, subst}
use Rattle.std.specs.Prelude.{is_some, nat_lt, if◌then◌else◌}
use Rattle.std.specs.List.{AllByRecursion}
use Rattle.value_core.specs.declared.ty.Ty.{Ty}
use Rattle.value_core.specs.declared.val.Val.{Val}
use Rattle.value_core.specs.declared.val.Val.TheOpen as is
use Rattle.value_core.specs.declared.val.Val.TheVariants as value
use Rattle.value_core.specs.Layer.{Layer}
use Rattle.michelson_code.specs.declared.instr.Instr.{Instr}
use Rattle.michelson_code.specs.declared.instr.Instr.TheOpen as one
use Rattle.michelson_code.specs.declared.instr.Instr.TheOpen.{Instr-F}
use Rattle.michelson_code.specs.declared.instr.Instr.TheViews.{out-Instr}
use Rattle.michelson_code.specs.declared.instr.Instr.TheFolds.{fold_out-Instr, map-Instr}
use Rattle.michelson_code.specs.declared.script.Script.{Script}
use Rattle.michelson_code.specs.declared.why.Why.TheVariants as why
use Rattle.michelson_code.specs.Forms.{bodies, bodies_of, form_at}
use Rattle.michelson_code.specs.Levels.{EachIn, induction}
use Rattle.michelson_code.specs.Typing.{called}
use Rattle.michelson_rules.specs.declared.ask.Ask.TheVariants as ask
use Rattle.michelson_rules.specs.declared.ask.Budget.{Budget}
use Rattle.michelson_rules.specs.declared.ask.Env.{Env}
use Rattle.michelson_rules.specs.World.{World, reply_of}
use Rattle.michelson_rules.specs.Runs.{Beside, Charge, Ending, Failed, Look, Mark, Return, Run, Take, Turn, ends, then_do}
use Rattle.michelson_rules.specs.Answers.{Answered}
use Rattle.michelson_rules.specs.BigMaps.{Keyed, change_on_top, changed_or_asked, key_on_top, looked_up, room_of, with_change}
use Rattle.michelson_rules.specs.Bodies.{Meaning, by_bool, by_first, by_none, by_side, in_turn, while_left, while_true}
use Rattle.michelson_rules.specs.Collections.{option}
use Rattle.michelson_rules.specs.Metered.{Asked, Ended, Outcome, less_a_turn, less_gas, less_room, metered, run_of, script_outcome}
use Rattle.michelson_rules.specs.Plain.{plain_at}
use Rattle.michelson_rules.specs.Rules.{act, answered, balance, changed_map, changed_map_with_old, charged, charges, contract, iterated, looked_up_as, mapped, or_plain, rule, rules}
use Rattle.op_rules.specs.Alike.{AnswerAlike}
use Rattle.op_rules.proofs.AlikeRuns.{Alike, AlikeBy, AllAlike, Told, alike_self, alike_then, below_alike, bool_alike, first_alike, iterated_alike, looped_alike, mapped_alike, none_alike, on_top_alike, side_alike}

-- ---- what asks the ledger, or changes a big map

module _ (w v : World) where
  asked_alike : (place : ℕ) (key : Val) (found : Option (Option Val)) (beside : Beside) → Alike w v (changed_or_asked w place key found beside) (changed_or_asked v place key found beside)
  asked_alike place key (Some x) beside = refl
  asked_alike place key None beside = (refl, λ t. (ap (λ r. Take (room_of key r)) t, λ u. ap (λ r. Return r beside) t))

  looked_up_alike : (k : Keyed) (beside : Beside) → Alike w v (looked_up w k beside) (looked_up v k beside)
  looked_up_alike k beside = asked_alike k.place k.key _ beside

  looked_up_as_alike : (tell : Option Val → Val) (k : Keyed) (beside : Beside) → Alike w v (looked_up_as w tell k beside) (looked_up_as v tell k beside)
  looked_up_as_alike tell k beside =
      alike_then w v (looked_up w k beside) (looked_up v k beside) (λ x b. ends (Return (tell x ∷ k.below) b)) (λ x b. ends (Return (tell x ∷ k.below) b)) (looked_up_alike k beside) (λ x b. refl)

  changed_map_alike : (x : Keyed × Option Val) (beside : Beside) → Alike w v (changed_map w x beside) (changed_map v x beside)
  changed_map_alike (k, choice) beside = alike_self w v (changed_map w (k, choice) beside)

  with_old_alike : (x : Keyed × Option Val) (beside : Beside) → Alike w v (changed_map_with_old w x beside) (changed_map_with_old v x beside)
  with_old_alike (k, choice) beside =
      let after : Option Val → Beside → Run (List Val) = λ old b. then_do (with_change k choice b) (λ m c. ends (Return (option old ∷ m ∷ k.below) c)) in
      alike_then w v (looked_up w k beside) (looked_up v k beside) after after (looked_up_alike k beside) (λ old b. alike_self w v (after old b))

  contract_alike : (entry : List ℕ) (ty : Ty) (x : Layer Val) → AllAlike w v (contract w entry ty x) (contract v entry ty x)
  contract_alike entry ty (is.Addr address) stack beside = (refl, λ t. ap (λ r. Return (option r ∷ stack) beside) t)
  contract_alike entry ty _ stack beside = refl

  balance_alike : AllAlike w v (balance w) (balance v)
  balance_alike stack beside = (refl, λ t. (refl, λ u. same_balance t))
    where
      same_balance : reply_of w ask.Balance ≡ reply_of v ask.Balance → Return (value.Mutez w.balance ∷ stack) beside ≡ Return (value.Mutez v.balance ∷ stack) beside
      same_balance t = let is : w.balance ≡ v.balance = cc in ap (λ n. Return (value.Mutez n ∷ stack) beside) is

  or_plain_alike : {K : Type 0} (a : Answered) (k : Option K) (f g : K → Beside → Run (List Val)) → ((x : K) (b : Beside) → Alike w v (f x b) (g x b)) →
      (beside : Beside) → Alike w v (or_plain a k f beside) (or_plain a k g beside)
  or_plain_alike a (Some k) f g h beside = h k beside
  or_plain_alike a None f g h beside = alike_self w v (answered a beside)

-- ---- instructions

module _ (s : Script) (env : Env) (w v : World) where
  abbrev here : Instr → Meaning
  here = rule charges s env w

  abbrev there : Instr → Meaning
  there = rule charges s env v

  abbrev IsAlike : Instr → Type 0
  IsAlike i = AllAlike w v (rule charges s env w i) (rule charges s env v i)

  -- a code in each of the worlds
  abbrev mine : List Instr → Meaning
  mine c = in_turn (map here c)

  abbrev yours : List Instr → Meaning
  yours c = in_turn (map there c)

  code_alike : (c : List Instr) → AllByRecursion IsAlike c → AllAlike w v (mine c) (yours c)
  code_alike [] all stack beside = refl
  code_alike (i ∷ c) all stack beside =
      alike_then w v (here i stack beside) (there i stack beside) (mine c) (yours c) (all.0 stack beside) (code_alike c all.1)

  act_alike : (x : Instr-F Instr) → EachIn IsAlike (bodies (form_at x).operands) →
      AllAlike w v (act charges s env w (map-Instr Instr Meaning here x)) (act charges s env v (map-Instr Instr Meaning there x))
  act_alike (one.Dip c) all stack beside = below_alike w v 1 (mine c) (yours c) (code_alike c all.0) stack beside
  act_alike (one.DipN n c) all stack beside = below_alike w v n (mine c) (yours c) (code_alike c all.0) stack beside
  act_alike (one.If c d) all stack beside = on_top_alike w v (by_bool (mine c) (mine d)) (by_bool (yours c) (yours d)) (bool_alike w v (mine c) (mine d) (yours c) (yours d) (code_alike c all.0) (code_alike d all.1.0)) stack beside
  act_alike (one.IfNone c d) all stack beside = on_top_alike w v (by_none (mine c) (mine d)) (by_none (yours c) (yours d)) (none_alike w v (mine c) (mine d) (yours c) (yours d) (code_alike c all.0) (code_alike d all.1.0)) stack beside
  act_alike (one.IfLeft c d) all stack beside = on_top_alike w v (by_side (mine c) (mine d)) (by_side (yours c) (yours d)) (side_alike w v (mine c) (mine d) (yours c) (yours d) (code_alike c all.0) (code_alike d all.1.0)) stack beside
  act_alike (one.IfCons c d) all stack beside = on_top_alike w v (by_first (mine c) (mine d)) (by_first (yours c) (yours d)) (first_alike w v (mine c) (mine d) (yours c) (yours d) (code_alike c all.0) (code_alike d all.1.0)) stack beside
  act_alike (one.Loop c) all stack beside = looped_alike w v (mine c) (yours c) (code_alike c all.0) while_true stack beside
  act_alike (one.LoopLeft c) all stack beside = looped_alike w v (mine c) (yours c) (code_alike c all.0) while_left stack beside
  act_alike (one.Iter c) all stack beside = on_top_alike w v (iterated (mine c)) (iterated (yours c)) (iterated_alike w v (mine c) (yours c) (code_alike c all.0)) stack beside
  act_alike (one.Map c) all stack beside = on_top_alike w v (mapped (mine c)) (mapped (yours c)) (mapped_alike w v (mine c) (yours c) (code_alike c all.0)) stack beside
  act_alike one.Mem all stack beside = or_plain_alike w v (plain_at s env (map-Instr Instr Meaning here one.Mem) stack) (key_on_top stack) (looked_up_as w (λ x. value.Bool (is_some x))) (looked_up_as v (λ x. value.Bool (is_some x))) (looked_up_as_alike w v (λ x. value.Bool (is_some x))) beside
  act_alike one.Get all stack beside = or_plain_alike w v (plain_at s env (map-Instr Instr Meaning here one.Get) stack) (key_on_top stack) (looked_up_as w option) (looked_up_as v option) (looked_up_as_alike w v option) beside
  act_alike one.Update all stack beside = or_plain_alike w v (plain_at s env (map-Instr Instr Meaning here one.Update) stack) (change_on_top stack) (changed_map w) (changed_map v) (changed_map_alike w v) beside
  act_alike one.GetAndUpdate all stack beside = or_plain_alike w v (plain_at s env (map-Instr Instr Meaning here one.GetAndUpdate) stack) (change_on_top stack) (changed_map_with_old w) (changed_map_with_old v) (with_old_alike w v) beside
  act_alike one.Balance all stack beside = balance_alike w v stack beside
  act_alike (one.Contract e t) all stack beside = on_top_alike w v (contract w (called e) t) (contract v (called e) t) (contract_alike w v (called e) t) stack beside
  act_alike i all stack beside = alike_self w v (answered (plain_at s env (map-Instr Instr Meaning here i) stack) beside)

  -- an instruction costs as much
  cost_alike : (x : Instr-F Instr) → (form_at (map-Instr Instr Meaning here x)).cost ≡ (form_at (map-Instr Instr Meaning there x)).cost
  cost_alike (one.Dip c) = refl
  cost_alike i = refl

  charged_alike : (x : Instr-F Instr) → EachIn IsAlike (bodies (form_at x).operands) →
      AllAlike w v (charged charges s env w (map-Instr Instr Meaning here x)) (charged charges s env v (map-Instr Instr Meaning there x))
  charged_alike x all stack beside = (ap Charge (cost_alike x), λ t. act_alike x all stack beside)

  one_alike : (i : Instr) → EachIn IsAlike (bodies_of i) → IsAlike i
  one_alike i all stack beside =
      subst (λ (f : Meaning). Alike w v (f stack beside) (rule charges s env v i stack beside)) (sym (fold_out-Instr Meaning (charged charges s env w) i))
      (subst (λ (g : Meaning). Alike w v (charged charges s env w (map-Instr Instr Meaning here (out-Instr i)) stack beside) (g stack beside)) (sym (fold_out-Instr Meaning (charged charges s env v) i))
      (charged_alike (out-Instr i) all stack beside))

  each_alike : (c : List Instr) → AllByRecursion IsAlike c
  each_alike [] = tt
  each_alike (i ∷ c) = (induction IsAlike one_alike i, each_alike c)

  pub rules_alike : (c : List Instr) → AllAlike w v (rules charges s env w c) (rules charges s env v c)
  rules_alike c = code_alike c (each_alike c)

-- ---- what runs come to

module _ (w v : World) where
  -- what runs come to is the same as long as the worlds answer alike
  abbrev pub OutcomesAlike : {A : Type 0} → Outcome A → Outcome A → Type 0
  OutcomesAlike (Ended e left) (Ended d other) = (e ≡ d) × (left ≡ other)
  OutcomesAlike (Ended e left) (Asked b other more) = ⊥
  OutcomesAlike (Asked a left next) (Ended d other) = ⊥
  OutcomesAlike (Asked a left next) (Asked b other more) = (a ≡ b) × (left ≡ other) × (reply_of w a ≡ reply_of v a → OutcomesAlike next more)

  either_come : {A : Type 0} (b : Bool) (x y x' y' : Outcome A) → OutcomesAlike x x' → OutcomesAlike y y' → OutcomesAlike (if b then x else y) (if b then x' else y')
  either_come true x y x' y' p q = p
  either_come false x y x' y' p q = q

  mark_alike : {A : Type 0} (left : Budget) (m : Mark) (ms ns : List Mark) (e d : Ending A) → (Told w v m → (l : Budget) → OutcomesAlike (metered l ms e) (metered l ns d)) →
      OutcomesAlike (metered left (m ∷ ms) e) (metered left (m ∷ ns) d)
  mark_alike left (Charge k) ms ns e d h =
      either_come (nat_lt left.gas k) (Ended (Failed why.OutOfGas) left) _ (Ended (Failed why.OutOfGas) left) _ (refl, refl) (h tt (less_gas left k))
  mark_alike left Turn ms ns e d h = h tt (less_a_turn left)
  mark_alike left (Look a) ms ns e d h = (refl, refl, λ t. h t left)
  mark_alike left (Take k) ms ns e d h =
      either_come (nat_lt left.room k) (Ended (Failed why.TooMuchData) left) _ (Ended (Failed why.TooMuchData) left) _ (refl, refl) (h tt (less_room left k))

  metered_alike : {A : Type 0} (left : Budget) (ms ns : List Mark) (e d : Ending A) → AlikeBy w v ms e ns d → OutcomesAlike (metered left ms e) (metered left ns d)
  metered_alike left [] [] e d p = (p, refl)
  metered_alike left [] (n ∷ ns) e d p = absurd p
  metered_alike left (m ∷ ms) [] e d p = absurd p
  metered_alike left (m ∷ ms) (n ∷ ns) e d p =
      subst (λ x. OutcomesAlike (metered left (m ∷ ms) e) (metered left (x ∷ ns) d)) p.0 (mark_alike left m ms ns e d (λ t l. metered_alike l ms ns e d (p.1 t)))

  pub outcomes_alike : (s : Script) (env : Env) (left : Budget) (param storage : Val) → OutcomesAlike (script_outcome s env w left param storage) (script_outcome s env v left param storage)
  outcomes_alike s env left param storage =
      metered_alike left (run_of s env w left param storage).marks (run_of s env v left param storage).marks (run_of s env w left param storage).ending (run_of s env v left param storage).ending
      (rules_alike s env w v s.code (value.Pair param storage ∷ []) (record { turns = left.turns; versions = [] }))

  same_outcome : {A : Type 0} (o p : Outcome A) → OutcomesAlike o p → AnswerAlike w v o → p ≡ o
  same_outcome (Ended e left) (Ended d other) h t = let p = sym h.0 in let q = sym h.1 in λ i. Ended (p i) (q i)
  same_outcome (Ended e left) (Asked b other more) h t = absurd h
  same_outcome (Asked a left next) (Ended d other) h t = absurd h
  same_outcome (Asked a left next) (Asked b other more) h t =
      let p = sym h.0 in let q = sym h.1 in λ i. Asked (p i) (q i) (same_outcome next more (h.2 t.0) t.1 i)

  pub same_script_outcome : (s : Script) (env : Env) (left : Budget) (param storage : Val) → AnswerAlike w v (script_outcome s env w left param storage) →
      script_outcome s env v left param storage ≡ script_outcome s env w left param storage
  same_script_outcome s env left param storage t =
      same_outcome (script_outcome s env w left param storage) (script_outcome s env v left param storage) (outcomes_alike s env left param storage) t
