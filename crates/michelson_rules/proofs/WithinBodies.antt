-- What instructions with bodies cost, by what the bodies cost.
use Rattle.std.proofs.Common.{ℕ, zero, suc, ◌+◌, true, false, List, [], ◌∷◌, ◌++◌, length, take, drop, Option, Some, None, arith}
use Rattle.std.specs.Prelude.{nat_le}
use Rattle.value_core.specs.declared.val.Val.{Val}
use Rattle.value_core.specs.declared.val.Val.TheOpen as is
use Rattle.value_core.specs.declared.val.Val.TheVariants as value
use Rattle.value_core.specs.declared.val.Val.TheViews.{out-Val}
use Rattle.value_core.specs.Layer.{Layer}
use Rattle.michelson_rules.specs.Runs.{Beside, Return, Run, ends, then_do}
use Rattle.michelson_rules.specs.Answers.{Answered, Gives, Ends, Misses, sized}
use Rattle.michelson_rules.specs.Bodies.{Again, Meaning, Neither, Off, On, below, by_bool, by_first, by_none, by_side, by_top, each, each_of, items_of, looped, on_top, once_more, repeated, results, with_result, with_values}
use Rattle.michelson_rules.specs.Rules.{answered, gathered, iterated, mapped}
use Rattle.michelson_rules.proofs.Causes.{FailsWell, sized_fails}
use Rattle.michelson_rules.proofs.Within.{Within, misses_at_once, returns_at_once, turn_within, wider, within_cond, within_last}

-- a meaning costs at most this outside of turns, and this in each
abbrev pub Costs : ℕ → ℕ → Meaning → Type 0
Costs per once m = (stack : List Val) (beside : Beside) → Within per once beside (m stack beside)

pub answered_within : (per once : ℕ) (a : Answered) → FailsWell a → (beside : Beside) → Within per once beside (answered a beside)
answered_within per once (Gives vs, stack) h beside = returns_at_once per once (vs ++ stack) beside
answered_within per once (Ends y, stack) h beside = record { cost = omega arith; keeps = omega arith; fails = h; ascends = λ up. tt }
answered_within per once (Misses, stack) h beside = misses_at_once per once beside

pub below_within : (n per once : ℕ) (body : Meaning) → Costs per once body → Costs per once (below n body)
below_within n per once body h stack beside =
    within_cond per once beside (nat_le n (length stack)) _ _
    (within_last per once beside (body (drop n stack) beside) _ (h (drop n stack) beside) (λ s b. returns_at_once per 0 (take n stack ++ s) b))
    (misses_at_once per once beside)

pub on_top_within : (per once : ℕ) (f : Layer Val → Meaning) → ((x : Layer Val) → Costs per once (f x)) → Costs per once (on_top f)
on_top_within per once f h (x ∷ stack) beside = h (out-Val x) stack beside
on_top_within per once f h [] beside = misses_at_once per once beside

-- ---- branches

module _ (per once : ℕ) (c d : Meaning) (first : Costs per once c) (second : Costs per once d) where
  pub bool_within : (x : Layer Val) → Costs per once (by_bool c d x)
  bool_within (is.Bool true) stack beside = first stack beside
  bool_within (is.Bool false) stack beside = second stack beside
  bool_within _ stack beside = misses_at_once per once beside

  pub none_within : (x : Layer Val) → Costs per once (by_none c d x)
  none_within is.Nothing stack beside = first stack beside
  none_within (is.Some v) stack beside = second (v ∷ stack) beside
  none_within _ stack beside = misses_at_once per once beside

  pub side_within : (x : Layer Val) → Costs per once (by_side c d x)
  side_within (is.Left v) stack beside = first (v ∷ stack) beside
  side_within (is.Right v) stack beside = second (v ∷ stack) beside
  side_within _ stack beside = misses_at_once per once beside

  pub first_within : (x : Layer Val) → Costs per once (by_first c d x)
  first_within (is.List []) stack beside = second stack beside
  first_within (is.List (v ∷ items)) stack beside = first (v ∷ value.List items ∷ stack) beside
  first_within _ stack beside = misses_at_once per once beside

-- ---- loops

module _ (per : ℕ) (body : Meaning) (cost : Costs per per body) where
  once_more_within : (next : Meaning) → Costs per 0 next → (again : Again) (beside : Beside) → Within per 0 beside (once_more body next again beside)
  once_more_within next h (On stack) beside = turn_within per (λ b. then_do (body stack b) next) (λ b. within_last per per b (body stack b) next (cost stack b) h) beside
  once_more_within next h (Off stack) beside = returns_at_once per 0 stack beside
  once_more_within next h Neither beside = misses_at_once per 0 beside

  repeated_within : (n : ℕ) (while : Layer Val → List Val → Again) → Costs per 0 (repeated n while body)
  repeated_within zero while stack beside = misses_at_once per 0 beside
  repeated_within (suc n) while stack beside = once_more_within (repeated n while body) (repeated_within n while) (by_top while stack) beside

  pub looped_within : (while : Layer Val → List Val → Again) → Costs per per (looped while body)
  looped_within while stack beside =
      wider per per 0 per beside (looped while body stack beside) (omega arith) (omega arith) (repeated_within (beside.turns + 1) while stack beside)

  -- ---- each item

  each_within : (items : List Val) → Costs per 0 (each body items)
  each_within [] stack beside = returns_at_once per 0 stack beside
  each_within (x ∷ items) stack beside =
      turn_within per (λ b. then_do (body (x ∷ stack) b) (each body items)) (λ b. within_last per per b (body (x ∷ stack) b) (each body items) (cost (x ∷ stack) b) (each_within items)) beside

  each_of_within : (items : Option (List Val)) → Costs per 0 (each_of body items)
  each_of_within (Some items) stack beside = each_within items stack beside
  each_of_within None stack beside = misses_at_once per 0 beside

  pub iterated_within : (x : Layer Val) → Costs per per (iterated body x)
  iterated_within x stack beside =
      wider per per 0 per beside (iterated body x stack beside) (omega arith) (omega arith) (each_of_within (items_of x) stack beside)

  result_within : (next : List Val → Beside → Run (List Val × List Val)) → ((stack : List Val) (b : Beside) → Within per 0 b (next stack b)) →
      (stack : List Val) (beside : Beside) → Within per 0 beside (with_result next stack beside)
  result_within next h (y ∷ stack) beside =
      within_last per 0 beside (next stack beside) (λ r b. ends (Return (y ∷ r.0, r.1) b)) (h stack beside) (λ r b. returns_at_once per 0 (y ∷ r.0, r.1) b)
  result_within next h [] beside = misses_at_once per 0 beside

  results_within : (items : List Val) (stack : List Val) (beside : Beside) → Within per 0 beside (results body items stack beside)
  results_within [] stack beside = returns_at_once per 0 ([], stack) beside
  results_within (x ∷ items) stack beside =
      turn_within per (λ b. then_do (body (x ∷ stack) b) (with_result (results body items)))
      (λ b. within_last per per b (body (x ∷ stack) b) (with_result (results body items)) (cost (x ∷ stack) b) (result_within (results body items) (results_within items))) beside

  gathered_within : (x : Layer Val) (r : List Val × List Val) (beside : Beside) → Within per 0 beside (gathered x r beside)
  gathered_within (is.List items) (vs, stack) beside = answered_within per 0 (sized (value.List vs), stack) (sized_fails (value.List vs)) beside
  gathered_within (is.Map entries) (vs, stack) beside =
      answered_within per 0 (sized (value.Map (with_values entries vs)), stack) (sized_fails (value.Map (with_values entries vs))) beside
  gathered_within _ (vs, stack) beside = misses_at_once per 0 beside

  mapped_items_within : (x : Layer Val) (items : List Val) (stack : List Val) (beside : Beside) → Within per per beside (then_do (results body items stack beside) (gathered x))
  mapped_items_within x items stack beside =
      wider per per 0 per beside _ (omega arith) (omega arith) (within_last per 0 beside (results body items stack beside) (gathered x) (results_within items stack beside) (gathered_within x))

  pub mapped_within : (x : Layer Val) → Costs per per (mapped body x)
  mapped_within (is.Set items) stack beside = misses_at_once per per beside
  mapped_within (is.List items) stack beside = mapped_items_within (is.List items) items stack beside
  mapped_within (is.Map entries) stack beside = mapped_items_within (is.Map entries) _ stack beside
  mapped_within _ stack beside = misses_at_once per per beside
