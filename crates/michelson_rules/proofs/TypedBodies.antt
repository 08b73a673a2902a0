-- Branches and bodies below items: where the bodies go to their outcomes, so does the instruction.
use Rattle.std.proofs.Common.{◌≡◌, ℕ, suc, Bool, true, false, List, [], ◌∷◌, ◌++◌, length, take, drop, sym, subst, arith, lt-ltb, ltb-true, rules}
use Rattle.std.specs.Prelude.{nat_lt, if◌then◌else◌, IsTrue}
use Rattle.value_core.specs.declared.ty.Ty.{Ty}
use Rattle.value_core.specs.declared.ty.Ty.TheOpen as ty
use Rattle.value_core.specs.declared.ty.Ty.TheOpen.{Ty-F}
use Rattle.value_core.specs.declared.ty.Ty.TheVariants as type
use Rattle.value_core.specs.declared.ty.Ty.TheViews.{out-Ty, the_lemmas}
use Rattle.value_core.specs.declared.val.Val.{Val}
use Rattle.value_core.specs.declared.val.Val.TheOpen as is
use Rattle.value_core.specs.declared.val.Val.TheVariants as value
use Rattle.value_core.specs.declared.val.Val.TheViews.{out-Val}
use Rattle.value_core.specs.Layer.{Layer}
use Rattle.michelson_code.specs.Typing.{EndsWith, Joined, Outcome, To, alike, failing, first_fails, second_fails, with_it}
use Rattle.michelson_rules.specs.Bodies.{Meaning, below, by_bool, by_first, by_none, by_side, on_top}
use Rattle.michelson_rules.specs.Runs.{Beside, Missed, Return, ends, then_do}
use Rattle.michelson_rules.specs.TypedRuns.{EndsSo, Goes, Leaves}
use Rattle.michelson_rules.specs.TypedValues.{AllBelong}
use Rattle.michelson_rules.proofs.Belonging.{FitsHere, level_of, of_level, typing}
use Rattle.michelson_rules.proofs.Following.{all_belong_later, ends_then, goes_anywhere}
use Rattle.michelson_rules.proofs.Moves.{is_enough, stack_dropped, stack_taken}
use Rattle.michelson_rules.proofs.TypedAnswers.{stack_append}

module _ (maps : List (Ty × Ty)) where
  -- ---- ends of bodies

  pub joined_first : (from : List Ty) (e f o : Outcome) (m : Meaning) → Joined e f o → Goes maps from e m → Goes maps from o m
  joined_first from e f o m (alike p) goes = goes
  joined_first from e f o m (first_fails p) goes = goes_anywhere maps from p m goes
  joined_first from e f o m (second_fails p) goes = goes

  pub joined_second : (from : List Ty) (e f o : Outcome) (m : Meaning) → Joined e f o → Goes maps from f m → Goes maps from o m
  joined_second from e f o m (alike p) goes = goes
  joined_second from e f o m (first_fails p) goes = goes
  joined_second from e f o m (second_fails p) goes = goes_anywhere maps from p m goes

  pub ends_with : (from to : List Ty) (e : Outcome) (m : Meaning) → EndsWith to e → Goes maps from e m → Goes maps from (To to) m
  ends_with from to e m (with_it s) goes = goes
  ends_with from to e m (failing s) goes = goes_anywhere maps from (To s) m goes

  -- ---- below items

  pub below_goes : (items s t : List Ty) (body : Meaning) → Goes maps s (To t) body → Goes maps (items ++ s) (To (items ++ t)) (below (length items) body)
  below_goes items s t body goes stack b has =
      subst (λ (enough : Bool). EndsSo (Leaves maps b (To (items ++ t)))
      (if enough then then_do (body (drop (length items) stack) b) (λ st c. ends (Return (take (length items) stack ++ st) c)) else ends Missed).ending)
      (sym (is_enough (typing maps b.versions) items s stack has))
      (ends_then (Leaves maps b (To t)) (Leaves maps b (To (items ++ t))) (body (drop (length items) stack) b).ending
      (λ st c. ends (Return (take (length items) stack ++ st) c)) (goes (drop (length items) stack) b (stack_dropped (typing maps b.versions) items s stack has))
      (λ st c leaves.
      let kept : AllBelong maps c.versions (take (length items) stack) items =
      all_belong_later maps b c (take (length items) stack) items leaves.0 (stack_taken (typing maps b.versions) items s stack has) in
      (leaves.0, stack_append (typing maps c.versions) (take (length items) stack) items st t kept leaves.1)))

  -- ---- branches

  pub on_top_goes : (t : Ty) (y : Ty-F Ty) (s : List Ty) (o : Outcome) (f : Layer Val → Meaning) → out-Ty t ≡ y →
      ((x : Layer Val) (stack : List Val) (b : Beside) → FitsHere maps b.versions x y → AllBelong maps b.versions stack s → EndsSo (Leaves maps b o) (f x stack b).ending) →
      Goes maps (t ∷ s) o (on_top f)
  on_top_goes t y s o f shows goes [] b has = absurd has
  on_top_goes t y s o f shows goes (x ∷ stack) b has = goes (out-Val x) stack b (level_of maps b.versions x y t shows has.0) has.1

  bool_branch : (s : List Ty) (o : Outcome) (c d : Meaning) → Goes maps s o c → Goes maps s o d → (x : Layer Val) (stack : List Val) (b : Beside) →
      FitsHere maps b.versions x ty.Bool → AllBelong maps b.versions stack s → EndsSo (Leaves maps b o) (by_bool c d x stack b).ending
  bool_branch s o c d first second (is.Bool true) stack b fit has = first stack b has
  bool_branch s o c d first second (is.Bool false) stack b fit has = second stack b has
  bool_branch s o c d first second _ stack b fit has = absurd fit

  pub if_goes : (s : List Ty) (o : Outcome) (c d : Meaning) → Goes maps s o c → Goes maps s o d → Goes maps (type.Bool ∷ s) o (on_top (by_bool c d))
  if_goes s o c d first second = on_top_goes type.Bool ty.Bool s o (by_bool c d) (search (rules, the_lemmas)) (bool_branch s o c d first second)

  none_branch : (a : Ty) (s : List Ty) (o : Outcome) (c d : Meaning) → Goes maps s o c → Goes maps (a ∷ s) o d → (x : Layer Val) (stack : List Val) (b : Beside) →
      FitsHere maps b.versions x (ty.Option a) → AllBelong maps b.versions stack s → EndsSo (Leaves maps b o) (by_none c d x stack b).ending
  none_branch a s o c d first second is.Nothing stack b fit has = first stack b has
  none_branch a s o c d first second (is.Some v) stack b fit has = second (v ∷ stack) b (fit, has)
  none_branch a s o c d first second _ stack b fit has = absurd fit

  pub if_none_goes : (a : Ty) (s : List Ty) (o : Outcome) (c d : Meaning) → Goes maps s o c → Goes maps (a ∷ s) o d → Goes maps (type.Option a ∷ s) o (on_top (by_none c d))
  if_none_goes a s o c d first second = on_top_goes (type.Option a) (ty.Option a) s o (by_none c d) (search (rules, the_lemmas)) (none_branch a s o c d first second)

  side_branch : (l r : Ty) (s : List Ty) (o : Outcome) (c d : Meaning) → Goes maps (l ∷ s) o c → Goes maps (r ∷ s) o d → (x : Layer Val) (stack : List Val) (b : Beside) →
      FitsHere maps b.versions x (ty.Or l r) → AllBelong maps b.versions stack s → EndsSo (Leaves maps b o) (by_side c d x stack b).ending
  side_branch l r s o c d first second (is.Left v) stack b fit has = first (v ∷ stack) b (fit, has)
  side_branch l r s o c d first second (is.Right v) stack b fit has = second (v ∷ stack) b (fit, has)
  side_branch l r s o c d first second _ stack b fit has = absurd fit

  pub if_left_goes : (l r : Ty) (s : List Ty) (o : Outcome) (c d : Meaning) → Goes maps (l ∷ s) o c → Goes maps (r ∷ s) o d → Goes maps (type.Or l r ∷ s) o (on_top (by_side c d))
  if_left_goes l r s o c d first second = on_top_goes (type.Or l r) (ty.Or l r) s o (by_side c d) (search (rules, the_lemmas)) (side_branch l r s o c d first second)

  fewer : (n bound : ℕ) → IsTrue (nat_lt (suc n) bound) → IsTrue (nat_lt n bound)
  fewer n bound few = lt-ltb n bound (omega (arith, ltb-true (suc n) bound few))

  first_branch : (a : Ty) (s : List Ty) (o : Outcome) (c d : Meaning) → Goes maps (a ∷ type.List a ∷ s) o c → Goes maps s o d → (x : Layer Val) (stack : List Val) (b : Beside) →
      FitsHere maps b.versions x (ty.List a) → AllBelong maps b.versions stack s → EndsSo (Leaves maps b o) (by_first c d x stack b).ending
  first_branch a s o c d first second (is.List []) stack b fit has = second stack b has
  first_branch a s o c d first second (is.List (x ∷ items)) stack b fit has =
      first (x ∷ value.List items ∷ stack) b (
        fit.1.0,
        (of_level maps b.versions (is.List items) (value.List items) (ty.List a) (type.List a) (value.rolls-List items) (search (rules, the_lemmas)) (fewer (length items) _ fit.0, fit.1.1), has),
      )
  first_branch a s o c d first second _ stack b fit has = absurd fit

  pub if_cons_goes : (a : Ty) (s : List Ty) (o : Outcome) (c d : Meaning) → Goes maps (a ∷ type.List a ∷ s) o c → Goes maps s o d → Goes maps (type.List a ∷ s) o (on_top (by_first c d))
  if_cons_goes a s o c d first second = on_top_goes (type.List a) (ty.List a) s o (by_first c d) (search (rules, the_lemmas)) (first_branch a s o c d first second)
