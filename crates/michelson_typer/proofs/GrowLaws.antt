-- What holds in a table holds in a longer one.
use Rattle.std.proofs.Common.{◌≡◌, ℕ, ◌<◌, ◌≤◌, true, List, [], ◌∷◌, ◌++◌, length, refl, ap, sym, ◌∙◌, arith, append_assoc, length-append}
use Rattle.std.proofs.lemmas.Bool.{and_from, lt-ltb}
use Rattle.value_core.specs.declared.ty.Ty.{Ty}
use Rattle.michelson_code.specs.declared.operands.Level.{Level}
use Rattle.michelson_code.specs.Typing.{level_type}
use Rattle.michelson_typer.specs.Stacks.{IsLevelFor, IsStackOf}
use Rattle.michelson_typer.specs.Tables.{Grows, IsTypeOf, are_in, parts_in, type_at, types_at}
use Rattle.michelson_typer.proofs.TableLaws.{below_more, level_type-behind, type_at-behind, types_at-behind}

append-nil : (xs : List Ty) → xs ++ [] ≡ xs
append-nil [] = refl
append-nil (x ∷ xs) = ap (λ (ys : List Ty). x ∷ ys) (append-nil xs)

pub grows_same : (old new : List Ty) → new ≡ old → Grows old new
grows_same old new same = record { more = []; is = same ∙ sym (append-nil old) }

pub grows_more : (old mid new : List Ty) → Grows old mid → Grows mid new → Grows old new
grows_more old mid new first second = record {
  more = first.more ++ second.more;
  is = second.is ∙ ap (λ (ts : List Ty). ts ++ second.more) first.is ∙ append_assoc old first.more second.more;
}

module _ (old new : List Ty) (grows : Grows old new) where
  pub longer : length old ≤ length new
  longer = let e = ap length grows.is in let more = length-append old grows.more in omega arith

  pub in_later : (ids : List ℕ) → are_in old ids ≡ true → are_in new ids ≡ true
  in_later ids within = below_more (length old) (length new) ids longer within

  pub type_later : (id : ℕ) → id < length old → type_at new id ≡ type_at old id
  type_later id within = ap (λ (ts : List Ty). type_at ts id) grows.is ∙ type_at-behind old grows.more id within

  pub types_later : (ids : List ℕ) → are_in old ids ≡ true → types_at new ids ≡ types_at old ids
  types_later ids within = ap (λ (ts : List Ty). types_at ts ids) grows.is ∙ types_at-behind old grows.more ids within

  pub typed_later : (id : ℕ) (t : Ty) → IsTypeOf old id t → IsTypeOf new id t
  typed_later id t here = let within = here.within in let more = longer in record { within = omega arith; is = type_later id here.within ∙ here.is }

  pub level_later : (l : Level ℕ) (t : Ty) → IsLevelFor old l t → IsLevelFor new l t
  level_later l t here = record {
    within = in_later (parts_in l) here.within;
    is = ap (λ (ts : List Ty). level_type (type_at ts) l) grows.is ∙ level_type-behind old grows.more l here.within ∙ here.is;
  }

  pub stack_later : (ids : List ℕ) (ts : List Ty) → IsStackOf old ids ts → IsStackOf new ids ts
  stack_later ids ts here = record { within = in_later ids here.within; is = types_later ids here.within ∙ here.is }

-- ---- on top of a stack

pub on_top : (table : List Ty) (id : ℕ) (t : Ty) (ids : List ℕ) (ts : List Ty) → IsTypeOf table id t → IsStackOf table ids ts → IsStackOf table (id ∷ ids) (t ∷ ts)
on_top table id t ids ts top below = record {
  within = and_from _ _ (lt-ltb id (length table) top.within) below.within;
  is = λ i. top.is i ∷ below.is i;
}

pub as_it_is : (table : List Ty) (ids : List ℕ) → are_in table ids ≡ true → IsStackOf table ids (types_at table ids)
as_it_is table ids within = record { within = within; is = refl }

pub level_typed : (table new : List Ty) (l : Level ℕ) (t : Ty) (id : ℕ) → IsLevelFor table l t → IsTypeOf new id (level_type (type_at table) l) → IsTypeOf new id t
level_typed table new l t id here made = record { within = made.within; is = made.is ∙ here.is }
