-- Loops: a body that comes back to what the loop asks for lets the loop go to its end; its turns are never more than the bound.
use Rattle.std.proofs.Common.{◌≡◌, ℕ, zero, suc, ◌+◌, ◌<◌, true, false, List, [], ◌∷◌, arith, rules}
use Rattle.value_core.specs.declared.ty.Ty.{Ty}
use Rattle.value_core.specs.declared.ty.Ty.TheOpen as ty
use Rattle.value_core.specs.declared.ty.Ty.TheOpen.{Ty-F}
use Rattle.value_core.specs.declared.ty.Ty.TheVariants as type
use Rattle.value_core.specs.declared.ty.Ty.TheViews.{out-Ty, the_lemmas}
use Rattle.value_core.specs.declared.val.Val.{Val}
use Rattle.value_core.specs.declared.val.Val.TheOpen as is
use Rattle.value_core.specs.declared.val.Val.TheViews.{out-Val}
use Rattle.value_core.specs.Layer.{Layer}
use Rattle.michelson_code.specs.Typing.{To}
use Rattle.michelson_rules.specs.Bodies.{Again, Meaning, Neither, Off, On, by_top, looped, once_more, repeated, while_left, while_true}
use Rattle.michelson_rules.specs.Runs.{Beside, Changes, then_do}
use Rattle.michelson_rules.specs.TypedRuns.{EndsSo, Goes, Leaves}
use Rattle.michelson_rules.specs.TypedValues.{AllBelong}
use Rattle.michelson_rules.proofs.Belonging.{FitsHere, level_of}
use Rattle.michelson_rules.proofs.Following.{ends_in_a_turn, ends_on, ends_then, follows_itself, follows_turn}

module _ (maps : List (Ty × Ty)) where
  -- a loop goes on with a stack for its body, or ends with one
  abbrev AgainBelongs : List Changes → List Ty → List Ty → Again → Type 0
  AgainBelongs versions inner outer (On stack) = AllBelong maps versions stack inner
  AgainBelongs versions inner outer (Off stack) = AllBelong maps versions stack outer
  AgainBelongs versions inner outer Neither = ⊥

  module _ (from inner outer : List Ty) (while : Layer Val → List Val → Again) (body : Meaning)
      (known : (versions : List Changes) (stack : List Val) → AllBelong maps versions stack from → AgainBelongs versions inner outer (by_top while stack))
      (goes : Goes maps inner (To from) body) where
    -- so many times at most, and fewer turns are left
    abbrev Repeats : ℕ → Type 0
    Repeats n = (stack : List Val) (b : Beside) → b.turns < n → AllBelong maps b.versions stack from → EndsSo (Leaves maps b (To outer)) (repeated n while body stack b).ending

    once_more_ends : (n : ℕ) → Repeats n → (again : Again) (b : Beside) → b.turns < suc n → AgainBelongs b.versions inner outer again →
        EndsSo (Leaves maps b (To outer)) (once_more body (repeated n while body) again b).ending
    once_more_ends n repeats (On stack) b few has = ends_in_a_turn (Leaves maps b (To outer)) b (λ c. then_do (body stack c) (repeated n while body)) (λ t is.
        let c : Beside = record { turns = t; versions = b.versions } in
        ends_then (Leaves maps c (To from)) (Leaves maps b (To outer)) (body stack c).ending (repeated n while body) (goes stack c has)
        (λ st d leaves. ends_on maps b d (To outer) (repeated n while body st d).ending (follows_turn b t d is leaves.0)
        (repeats st d (omega (arith, few, is, leaves.0.turns)) leaves.1)))
    once_more_ends n repeats (Off stack) b few has = (follows_itself b, has)
    once_more_ends n repeats Neither b few has = absurd has

    repeated_ends : (n : ℕ) → Repeats n
    repeated_ends zero stack b few has = absurd (omega (arith, few))
    repeated_ends (suc n) stack b few has = once_more_ends n (repeated_ends n) (by_top while stack) b few (known b.versions stack has)

    looped_goes : Goes maps from (To outer) (looped while body)
    looped_goes stack b has = repeated_ends (b.turns + 1) stack b (omega arith) has

  -- ---- by the top

  by_top_known : (t : Ty) (y : Ty-F Ty) (s inner outer : List Ty) (while : Layer Val → List Val → Again) → out-Ty t ≡ y →
      ((versions : List Changes) (x : Layer Val) (stack : List Val) → FitsHere maps versions x y → AllBelong maps versions stack s → AgainBelongs versions inner outer (while x stack)) →
      (versions : List Changes) (stack : List Val) → AllBelong maps versions stack (t ∷ s) → AgainBelongs versions inner outer (by_top while stack)
  by_top_known t y s inner outer while shows known versions [] has = absurd has
  by_top_known t y s inner outer while shows known versions (v ∷ stack) has = known versions (out-Val v) stack (level_of maps versions v y t shows has.0) has.1

  true_known : (s : List Ty) (versions : List Changes) (x : Layer Val) (stack : List Val) → FitsHere maps versions x ty.Bool → AllBelong maps versions stack s →
      AgainBelongs versions s s (while_true x stack)
  true_known s versions (is.Bool true) stack fit has = has
  true_known s versions (is.Bool false) stack fit has = has
  true_known s versions _ stack fit has = absurd fit

  left_known : (l r : Ty) (s : List Ty) (versions : List Changes) (x : Layer Val) (stack : List Val) → FitsHere maps versions x (ty.Or l r) → AllBelong maps versions stack s →
      AgainBelongs versions (l ∷ s) (r ∷ s) (while_left x stack)
  left_known l r s versions (is.Left v) stack fit has = (fit, has)
  left_known l r s versions (is.Right v) stack fit has = (fit, has)
  left_known l r s versions _ stack fit has = absurd fit

  pub loop_goes : (s : List Ty) (body : Meaning) → Goes maps s (To (type.Bool ∷ s)) body → Goes maps (type.Bool ∷ s) (To s) (looped while_true body)
  loop_goes s body goes = looped_goes (type.Bool ∷ s) s s while_true body
      (by_top_known type.Bool ty.Bool s s s while_true (search (rules, the_lemmas)) (true_known s)) goes

  pub loop_left_goes : (l r : Ty) (s : List Ty) (body : Meaning) → Goes maps (l ∷ s) (To (type.Or l r ∷ s)) body → Goes maps (type.Or l r ∷ s) (To (r ∷ s)) (looped while_left body)
  loop_left_goes l r s body goes = looped_goes (type.Or l r ∷ s) (l ∷ s) (r ∷ s) while_left body
      (by_top_known (type.Or l r) (ty.Or l r) s (l ∷ s) (r ∷ s) while_left (search (rules, the_lemmas)) (left_known l r s)) goes
