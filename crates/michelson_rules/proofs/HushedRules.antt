-- A run by the rules that charge, without its charges, is the run by the rules that charge nothing.
use Rattle.std.proofs.Common.{◌≡◌, ℕ, List, [], ◌∷◌, map, Option, Some, None, refl, sym, ap, ◌∙◌}
use Rattle.std.specs.Prelude.{is_some}
use Rattle.std.specs.List.{AllByRecursion}
use Rattle.value_core.specs.declared.ty.Ty.{Ty}
use Rattle.value_core.specs.declared.val.Val.{Val}
use Rattle.value_core.specs.declared.val.Val.TheOpen as is
use Rattle.value_core.specs.declared.val.Val.TheVariants as value
use Rattle.value_core.specs.Layer.{Layer}
use Rattle.michelson_code.specs.declared.instr.Instr.{Instr}
use Rattle.michelson_code.specs.declared.instr.Instr.TheOpen as one
use Rattle.michelson_code.specs.declared.instr.Instr.TheOpen.{Instr-F}
use Rattle.michelson_code.specs.declared.instr.Instr.TheViews.{out-Instr}
use Rattle.michelson_code.specs.declared.instr.Instr.TheFolds.{fold_out-Instr, map-Instr}
use Rattle.michelson_code.specs.declared.script.Script.{Script}
use Rattle.michelson_code.specs.Forms.{bodies, bodies_of, form_at}
use Rattle.michelson_code.specs.Levels.{EachIn, induction}
use Rattle.michelson_code.specs.Typing.{called}
use Rattle.michelson_rules.specs.declared.ask.Env.{Env}
use Rattle.michelson_rules.specs.World.{World}
use Rattle.michelson_rules.specs.Runs.{Beside, Return, Run, ends, then_do}
use Rattle.michelson_rules.specs.Answers.{Answered}
use Rattle.michelson_rules.specs.BigMaps.{Keyed, change_on_top, changed_or_asked, key_on_top, looked_up, with_change}
use Rattle.michelson_rules.specs.Bodies.{Meaning, by_bool, by_first, by_none, by_side, in_turn, while_left, while_true}
use Rattle.michelson_rules.specs.Collections.{option}
use Rattle.michelson_rules.specs.Plain.{plain_at}
use Rattle.michelson_rules.specs.Rules.{act, changed_map, changed_map_with_old, charged, charges, contract, iterated, looked_up_as, mapped, or_plain, rule, rules, still}
use Rattle.michelson_rules.specs.Spent.{hushed}
use Rattle.michelson_rules.proofs.Hushed.{answered_quiet, below_quiet, bool_quiet, first_quiet, iterated_quiet, looped_quiet, mapped_quiet, none_quiet, on_top_quiet, quiet, quiet_last, side_quiet}

-- ---- what asks the ledger, or changes a big map

module _ (w : World) where
  asked_quiet : (place : ℕ) (key : Val) (found : Option (Option Val)) (beside : Beside) → hushed (changed_or_asked w place key found beside) ≡ changed_or_asked w place key found beside
  asked_quiet place key (Some v) beside = refl
  asked_quiet place key None beside = refl

  looked_up_quiet : (k : Keyed) (beside : Beside) → hushed (looked_up w k beside) ≡ looked_up w k beside
  looked_up_quiet k beside = asked_quiet k.place k.key _ beside

  looked_up_as_quiet : (tell : Option Val → Val) (k : Keyed) (beside : Beside) → hushed (looked_up_as w tell k beside) ≡ looked_up_as w tell k beside
  looked_up_as_quiet tell k beside = quiet_last (looked_up w k beside) _ _ (λ v b. ends (Return (tell v ∷ k.below) b)) (looked_up_quiet k beside) (λ v b. refl)

  changed_map_quiet : (x : Keyed × Option Val) (beside : Beside) → hushed (changed_map w x beside) ≡ changed_map w x beside
  changed_map_quiet (k, choice) beside = refl

  with_old_quiet : (x : Keyed × Option Val) (beside : Beside) → hushed (changed_map_with_old w x beside) ≡ changed_map_with_old w x beside
  with_old_quiet (k, choice) beside =
      quiet_last (looked_up w k beside) _ _ (λ old b. then_do (with_change k choice b) (λ m c. ends (Return (option old ∷ m ∷ k.below) c))) (looked_up_quiet k beside) (λ old b. refl)

  contract_quiet : (entry : List ℕ) (ty : Ty) (x : Layer Val) (stack : List Val) (beside : Beside) → hushed (contract w entry ty x stack beside) ≡ contract w entry ty x stack beside
  contract_quiet entry ty (is.Addr address) stack beside = refl
  contract_quiet entry ty _ stack beside = refl

or_plain_quiet : {K : Type 0} (a : Answered) (k : Option K) (f : K → Beside → Run (List Val)) → ((x : K) (b : Beside) → hushed (f x b) ≡ f x b) →
    (beside : Beside) → hushed (or_plain a k f beside) ≡ or_plain a k f beside
or_plain_quiet a (Some k) f h beside = h k beside
or_plain_quiet a None f h beside = answered_quiet a beside

-- ---- instructions

module _ (s : Script) (env : Env) (w : World) where
  abbrev loud : Instr → Meaning
  loud = rule charges s env w

  abbrev calm : Instr → Meaning
  calm = rule still s env w

  abbrev IsHushed : Instr → Type 0
  IsHushed i = quiet (rule charges s env w i) ≡ rule still s env w i

  -- a code that pays
  abbrev paying : List Instr → Meaning
  paying c = in_turn (map loud c)

  turn_by_turn : (c : List Instr) → AllByRecursion IsHushed c → (stack : List Val) (beside : Beside) → hushed (in_turn (map loud c) stack beside) ≡ in_turn (map calm c) stack beside
  turn_by_turn [] all stack beside = refl
  turn_by_turn (i ∷ c) all stack beside =
      quiet_last (loud i stack beside) (calm i stack beside) (in_turn (map loud c)) (in_turn (map calm c)) (λ j. all.0 j stack beside) (turn_by_turn c all.1)

  code_quiet : (c : List Instr) → AllByRecursion IsHushed c → quiet (in_turn (map loud c)) ≡ in_turn (map calm c)
  code_quiet c all = λ i stack beside. turn_by_turn c all stack beside i

  act_quiet : (x : Instr-F Instr) → EachIn IsHushed (bodies (form_at x).operands) → (stack : List Val) (beside : Beside) →
      hushed (act charges s env w (map-Instr Instr Meaning loud x) stack beside) ≡ act still s env w (map-Instr Instr Meaning calm x) stack beside
  act_quiet (one.Dip c) all stack beside = below_quiet 1 (paying c) _ (code_quiet c all.0) stack beside
  act_quiet (one.DipN n c) all stack beside = below_quiet n (paying c) _ (code_quiet c all.0) stack beside
  act_quiet (one.If c d) all stack beside = on_top_quiet (by_bool (paying c) (paying d)) _ (bool_quiet (paying c) (paying d) _ _ (code_quiet c all.0) (code_quiet d all.1.0)) stack beside
  act_quiet (one.IfNone c d) all stack beside = on_top_quiet (by_none (paying c) (paying d)) _ (none_quiet (paying c) (paying d) _ _ (code_quiet c all.0) (code_quiet d all.1.0)) stack beside
  act_quiet (one.IfLeft c d) all stack beside = on_top_quiet (by_side (paying c) (paying d)) _ (side_quiet (paying c) (paying d) _ _ (code_quiet c all.0) (code_quiet d all.1.0)) stack beside
  act_quiet (one.IfCons c d) all stack beside = on_top_quiet (by_first (paying c) (paying d)) _ (first_quiet (paying c) (paying d) _ _ (code_quiet c all.0) (code_quiet d all.1.0)) stack beside
  act_quiet (one.Loop c) all stack beside = looped_quiet (paying c) _ (code_quiet c all.0) while_true stack beside
  act_quiet (one.LoopLeft c) all stack beside = looped_quiet (paying c) _ (code_quiet c all.0) while_left stack beside
  act_quiet (one.Iter c) all stack beside = on_top_quiet (iterated (paying c)) _ (iterated_quiet (paying c) _ (code_quiet c all.0)) stack beside
  act_quiet (one.Map c) all stack beside = on_top_quiet (mapped (paying c)) _ (mapped_quiet (paying c) _ (code_quiet c all.0)) stack beside
  act_quiet one.Mem all stack beside = or_plain_quiet _ (key_on_top stack) _ (looked_up_as_quiet w (λ v. value.Bool (is_some v))) beside
  act_quiet one.Get all stack beside = or_plain_quiet _ (key_on_top stack) _ (looked_up_as_quiet w option) beside
  act_quiet one.Update all stack beside = or_plain_quiet _ (change_on_top stack) _ (changed_map_quiet w) beside
  act_quiet one.GetAndUpdate all stack beside = or_plain_quiet _ (change_on_top stack) _ (with_old_quiet w) beside
  act_quiet one.Balance all stack beside = refl
  act_quiet (one.Contract e t) all stack beside = on_top_quiet (contract w (called e) t) _ (contract_quiet w (called e) t) stack beside
  act_quiet i all stack beside = answered_quiet (plain_at s env (map-Instr Instr Meaning loud i) stack) beside

  one_hushed : (i : Instr) → EachIn IsHushed (bodies_of i) → IsHushed i
  one_hushed i all =
      ap quiet (fold_out-Instr Meaning (charged charges s env w) i)
      ∙ (λ j stack beside. act_quiet (out-Instr i) all stack beside j)
      ∙ sym (fold_out-Instr Meaning (charged still s env w) i)

  each_hushed : (c : List Instr) → AllByRecursion IsHushed c
  each_hushed [] = tt
  each_hushed (i ∷ c) = (induction IsHushed one_hushed i, each_hushed c)

  pub rules_hushed : (c : List Instr) (stack : List Val) (beside : Beside) → hushed (rules charges s env w c stack beside) ≡ rules still s env w c stack beside
  rules_hushed c = turn_by_turn c (each_hushed c)
