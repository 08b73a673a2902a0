-- Operands of known kinds, and what they are answered, for any typing that goes by levels.
use Rattle.std.proofs.Common.{◌≡◌, ℕ, Bool, true, false, List, [], ◌∷◌, ◌++◌, refl, sym, subst}
use Rattle.std.specs.Prelude.{IsTrue, nat_le, if◌then◌else◌}
use Rattle.value_core.specs.declared.val.Val.{Val}
use Rattle.value_core.specs.declared.val.Val.TheViews.{out-Val, roll-Val}
use Rattle.value_core.specs.declared.ty.Ty.{Ty}
use Rattle.value_core.specs.declared.ty.Ty.TheOpen.{Ty-F}
use Rattle.value_core.specs.declared.ty.Ty.TheViews.{out-Ty}
use Rattle.value_core.specs.Layer.{Layer}
use Rattle.value_core.specs.Size.{size_of}
use Rattle.value_core.specs.Typed.{has_type}
use Rattle.value_core.proofs.Levels.{out-roll}
use Rattle.michelson_code.specs.declared.why.Why.TheVariants as why
use Rattle.michelson_rules.specs.Answers.{Answer, Gives, Ends, Misses, gives, in_range, on_any, on_both, on_entry, on_key, on_none, on_one, on_two, sized}
use Rattle.michelson_rules.specs.TypedLevels.{Fits, GoesByLevels}
use Rattle.michelson_rules.specs.TypedStacks.{IsAnswered, IsDataCause, StackHas}

-- a typing that goes by levels, and whose values are of their types
pub record Typing : Type 1 where
  pub Has : Val → Ty → Type 0
  pub HasMap : ℕ → ℕ → Ty → Ty → Type 0
  pub levels : GoesByLevels Has HasMap
  pub typed : (v : Val) (t : Ty) → Has v t → IsTrue (has_type v t)

module _ (typing : Typing) where
  -- ---- stacks

  pub stack_append : (vs : List Val) (ts : List Ty) (ws : List Val) (us : List Ty) → StackHas typing.Has vs ts → StackHas typing.Has ws us → StackHas typing.Has (vs ++ ws) (ts ++ us)
  stack_append [] [] ws us above below = below
  stack_append (v ∷ vs) (t ∷ ts) ws us above below = (above.0, stack_append vs ts ws us above.1 below)
  stack_append [] (t ∷ ts) ws us above below = absurd above
  stack_append (v ∷ vs) [] ws us above below = absurd above

  -- results of these types
  abbrev pub AnswerHas : List Ty → Answer → Type 0
  AnswerHas ts (Gives vs) = StackHas typing.Has vs ts
  AnswerHas ts (Ends y) = IsDataCause y
  AnswerHas ts Misses = ⊥

  pub in_place : (ts us : List Ty) (a : Answer) (below : List Val) → AnswerHas ts a → StackHas typing.Has below us → IsAnswered typing.Has (ts ++ us) (a, below)
  in_place ts us (Gives vs) below above under = stack_append vs ts below us above under
  in_place ts us (Ends y) below above under = above
  in_place ts us Misses below above under = absurd above

  -- ---- values

  -- a value whose level is known
  pub built : (x : Layer Val) (v : Val) (y : Ty-F Ty) (t : Ty) → roll-Val x ≡ v → out-Ty t ≡ y → Fits typing.Has typing.HasMap x y → typing.Has v t
  built x v y t rolls shows fits =
      subst (λ w. typing.Has w t) rolls
      (typing.levels.whole (roll-Val x) t
      (subst (λ z. Fits typing.Has typing.HasMap z (out-Ty t)) (sym (out-roll x))
      (subst (λ z. Fits typing.Has typing.HasMap x z) (sym shows) fits)))

  pub shown : (v : Val) (y : Ty-F Ty) (t : Ty) → out-Ty t ≡ y → typing.Has v t → Fits typing.Has typing.HasMap (out-Val v) y
  shown v y t shows has = subst (λ z. Fits typing.Has typing.HasMap (out-Val v) z) shows (typing.levels.parts v t has)

  -- ---- kinds of operands

  -- the values of a type, by what stands in them
  pub record Kind : Type 1 where
    pub type : Ty
    pub Data : Type 0
    pub layer : Data → Layer Val
    pub known : (v : Val) → typing.Has v type → (P : Layer Val → Type 0) → ((d : Data) → P (layer d)) → P (out-Val v)

  -- so many operands of such kinds are answered so
  abbrev pub Takes : List Ty → List Ty → (List Val → Answer × List Val) → Type 0
  Takes before after f = (stack : List Val) (us : List Ty) → StackHas typing.Has stack (before ++ us) → IsAnswered typing.Has (after ++ us) (f stack)

  pub takes_none : (v : Val) (t : Ty) → typing.Has v t → Takes [] (t ∷ []) (on_none v)
  takes_none v t has stack us below = (has, below)

  pub takes_one : (a : Kind) (ts : List Ty) (f : Layer Val → Answer) → ((d : a.Data) → AnswerHas ts (f (a.layer d))) → Takes (a.type ∷ []) ts (on_one f)
  takes_one a ts f answers [] us has = absurd has
  takes_one a ts f answers (x ∷ below) us has =
      in_place ts us (f (out-Val x)) below (a.known x has.0 (λ p. AnswerHas ts (f p)) answers) has.1

  pub takes_two : (a b : Kind) (ts : List Ty) (f : Layer Val → Layer Val → Answer) → ((d : a.Data) (e : b.Data) → AnswerHas ts (f (a.layer d) (b.layer e))) →
      Takes (a.type ∷ b.type ∷ []) ts (on_two f)
  takes_two a b ts f answers [] us has = absurd has
  takes_two a b ts f answers (x ∷ []) us has = absurd has.1
  takes_two a b ts f answers (x ∷ y ∷ below) us has =
      in_place ts us (f (out-Val x) (out-Val y)) below
      (a.known x has.0 (λ p. AnswerHas ts (f p (out-Val y))) (λ d. b.known y has.1.0 (λ q. AnswerHas ts (f (a.layer d) q)) (λ e. answers d e)))
      has.1.1

  pub takes_any : (t : Ty) (ts : List Ty) (f : Val → Answer) → ((v : Val) → typing.Has v t → AnswerHas ts (f v)) → Takes (t ∷ []) ts (on_any f)
  takes_any t ts f answers [] us has = absurd has
  takes_any t ts f answers (x ∷ below) us has = in_place ts us (f x) below (answers x has.0) has.1

  pub takes_both : (t u : Ty) (ts : List Ty) (f : Val → Val → Answer) → ((v w : Val) → typing.Has v t → typing.Has w u → AnswerHas ts (f v w)) → Takes (t ∷ u ∷ []) ts (on_both f)
  takes_both t u ts f answers [] us has = absurd has
  takes_both t u ts f answers (x ∷ []) us has = absurd has.1
  takes_both t u ts f answers (x ∷ y ∷ below) us has = in_place ts us (f x y) below (answers x y has.0 has.1.0) has.1.1

  pub takes_key : (t : Ty) (a : Kind) (ts : List Ty) (f : Val → Layer Val → Answer) → ((v : Val) → typing.Has v t → (d : a.Data) → AnswerHas ts (f v (a.layer d))) →
      Takes (t ∷ a.type ∷ []) ts (on_key f)
  takes_key t a ts f answers [] us has = absurd has
  takes_key t a ts f answers (x ∷ []) us has = absurd has.1
  takes_key t a ts f answers (x ∷ y ∷ below) us has =
      in_place ts us (f x (out-Val y)) below (a.known y has.1.0 (λ q. AnswerHas ts (f x q)) (answers x has.0)) has.1.1

  pub takes_entry : (t : Ty) (a b : Kind) (ts : List Ty) (f : Val → Layer Val → Layer Val → Answer) →
      ((v : Val) → typing.Has v t → (d : a.Data) (e : b.Data) → AnswerHas ts (f v (a.layer d) (b.layer e))) → Takes (t ∷ a.type ∷ b.type ∷ []) ts (on_entry f)
  takes_entry t a b ts f answers [] us has = absurd has
  takes_entry t a b ts f answers (x ∷ []) us has = absurd has.1
  takes_entry t a b ts f answers (x ∷ y ∷ []) us has = absurd has.1.1
  takes_entry t a b ts f answers (x ∷ y ∷ z ∷ below) us has =
      in_place ts us (f x (out-Val y) (out-Val z)) below
      (a.known y has.1.0 (λ p. AnswerHas ts (f x p (out-Val z))) (λ d. b.known z has.1.1.0 (λ q. AnswerHas ts (f x (a.layer d) q)) (λ e. answers x has.0 d e)))
      has.1.1.1

  -- ---- results

  pub one_result : (v : Val) (t : Ty) → typing.Has v t → AnswerHas (t ∷ []) (Gives (v ∷ []))
  one_result v t has = (has, tt)

  pub result_within : (within : Bool) (v : Val) (t : Ty) → (IsTrue within → typing.Has v t) → AnswerHas (t ∷ []) (in_range within v)
  result_within true v t has = (has refl, tt)
  result_within false v t has = tt

  sized_within : (small : Bool) (v : Val) (t : Ty) → (IsTrue small → typing.Has v t) → AnswerHas (t ∷ []) (if small then gives v else Ends why.TooLarge)
  sized_within true v t has = (has refl, tt)
  sized_within false v t has = tt

  pub sized_result : (v : Val) (t : Ty) → (IsTrue (nat_le (size_of v) 4096) → typing.Has v t) → AnswerHas (t ∷ []) (sized v)
  sized_result v t has = sized_within (nat_le (size_of v) 4096) v t has
