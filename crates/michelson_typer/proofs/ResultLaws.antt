-- The results of a line on top of a stack, in a table that grows from one to the next.
use Rattle.std.proofs.Common.{◌≡◌, ℕ, true, List, [], ◌∷◌, ◌++◌, Result, Ok, Err, sym, subst}
use Rattle.std.specs.Prelude.{IfOk}
use Rattle.std.proofs.lemmas.Bool.{and_parts, ltb-true}
use Rattle.value_core.specs.declared.ty.Ty.{Ty}
use Rattle.michelson_code.specs.declared.operands.Slot.{Slot}
use Rattle.michelson_code.specs.declared.operands.Slots.{Slots}
use Rattle.michelson_code.specs.declared.operands.Slots.TheVariants as slots
use Rattle.michelson_code.specs.Typing.{Choice, slot_type, slot_types}
use Rattle.michelson_typer.specs.declared.results.Chosen.{Chosen}
use Rattle.michelson_typer.specs.Stacks.{IsStackOf, choice_of, numbers_of}
use Rattle.michelson_typer.specs.Tables.{Grows, IsTypeOf, are_in, types_at}
use Rattle.michelson_typer.proofs.GrowLaws.{as_it_is, on_top, stack_later, type_later}

pub with_ok : {T E : Type 0} (P Q : T → Type 0) → ((x : T) → P x → Q x) → (r : Result T E) → IfOk r P → IfOk r Q
with_ok P Q step (Ok x) h = step x h
with_ok P Q step (Err e) h = tt

module _ (chosen : Chosen) (below : List ℕ) where
  pub choice_later : (old new : List Ty) → Grows old new → are_in old (numbers_of chosen) ≡ true → choice_of new chosen ≡ choice_of old chosen
  choice_later old new grows within =
      let a = and_parts _ _ within in
      let b = and_parts _ _ a.1 in
      let k = and_parts _ _ b.1 in
      let t = and_parts _ _ k.1 in
      let u = and_parts _ _ t.1 in
      λ i. record {
        a = type_later old new grows chosen.a (ltb-true _ _ a.0) i;
        b = type_later old new grows chosen.b (ltb-true _ _ b.0) i;
        k = type_later old new grows chosen.k (ltb-true _ _ k.0) i;
        written = type_later old new grows chosen.written.t (ltb-true _ _ t.0) i ∷ type_later old new grows chosen.written.u (ltb-true _ _ u.0) i ∷ [];
      }

  -- the type of a slot stays what it is
  pub slot_later : (old new last : List Ty) (x : Slot) (id : ℕ) → Grows old new → are_in old (numbers_of chosen) ≡ true →
      IsTypeOf last id (slot_type (choice_of new chosen) x) → IsTypeOf last id (slot_type (choice_of old chosen) x)
  slot_later old new last x id grows within typed =
      subst (λ (c : Choice). IsTypeOf last id (slot_type c x)) (choice_later old new grows within) typed

  module _ (old new : List Ty) (grows : Grows old new) (within : are_in old below ≡ true) (ids : List ℕ) (s : Slots) where
    below_later : IsStackOf new below (types_at old below)
    below_later = stack_later old new grows below (types_at old below) (as_it_is old below within)

    abbrev Wanted : Slots → Type 0
    Wanted z = IsStackOf new ids (slot_types (choice_of old chosen) z ++ types_at old below)

    pub one_on_top : (x : Slot) (i : ℕ) → s ≡ slots.One x → IsTypeOf new i (slot_type (choice_of old chosen) x) → ids ≡ i ∷ [] ++ below → Wanted s
    one_on_top x i is typed made =
        subst Wanted (sym is) (subst (λ (js : List ℕ). IsStackOf new js (slot_types (choice_of old chosen) (slots.One x) ++ types_at old below)) (sym made)
        (on_top new i _ below _ typed below_later))

    pub two_on_top : (x y : Slot) (i j : ℕ) → s ≡ slots.Two x y → IsTypeOf new i (slot_type (choice_of old chosen) x) → IsTypeOf new j (slot_type (choice_of old chosen) y) →
        ids ≡ i ∷ j ∷ [] ++ below → Wanted s
    two_on_top x y i j is typed also made =
        subst Wanted (sym is) (subst (λ (js : List ℕ). IsStackOf new js (slot_types (choice_of old chosen) (slots.Two x y) ++ types_at old below)) (sym made)
        (on_top new i _ (j ∷ below) _ typed (on_top new j _ below _ also below_later)))

    pub three_on_top : (x y z : Slot) (i j k : ℕ) → s ≡ slots.Three x y z → IsTypeOf new i (slot_type (choice_of old chosen) x) →
        IsTypeOf new j (slot_type (choice_of old chosen) y) → IsTypeOf new k (slot_type (choice_of old chosen) z) → ids ≡ i ∷ j ∷ k ∷ [] ++ below → Wanted s
    three_on_top x y z i j k is typed also last made =
        subst Wanted (sym is) (subst (λ (js : List ℕ). IsStackOf new js (slot_types (choice_of old chosen) (slots.Three x y z) ++ types_at old below)) (sym made)
        (on_top new i _ (j ∷ k ∷ below) _ typed (on_top new j _ (k ∷ below) _ also (on_top new k _ below _ last below_later))))
