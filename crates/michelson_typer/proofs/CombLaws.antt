-- Pairs to the right and their items.
use Rattle.std.proofs.Common.{◌≡◌, ℕ, zero, suc, ◌-◌, ◌<◌, ◌≤◌, true, List, [], ◌∷◌, ◌++◌, length, drop, take, refl, ap, sym, subst, ◌∙◌, arith, append_assoc, get_or, Option, None, Some}
use Rattle.michelson_typer.proofs.LineApplies.{take_rest}
use Rattle.std.specs.Prelude.{MatchOption}
use Rattle.std.proofs.lemmas.Bool.{and_from, and_parts}
use Rattle.std.proofs.lemmas.List.{map-append}
use Rattle.std.proofs.lemmas.List.Folds.{list_all-append}
use Rattle.value_core.specs.declared.ty.Ty.{Ty}
use Rattle.value_core.specs.declared.ty.Ty.TheVariants as type
use Rattle.michelson_code.specs.declared.operands.Level.{Level}
use Rattle.michelson_code.specs.declared.operands.Level.TheVariants as level
use Rattle.michelson_code.specs.Typing.{comb_type, level_type}
use Rattle.michelson_code.proofs.Types.{level_kind, one_kind, pair_parts}
use Rattle.michelson_typer.specs.Numbered.{HasItems, IsComb, IsUnpaired}
use Rattle.michelson_typer.specs.Stacks.{IsStackOf}
use Rattle.michelson_typer.specs.Tables.{are_in, type_at, types_at}
use Rattle.michelson_typer.proofs.GrowLaws.{on_top}

pub in_drop : (table : List Ty) (n : ℕ) (ids : List ℕ) → are_in table ids ≡ true → are_in table (drop n ids) ≡ true
in_drop table zero ids within = within
in_drop table (suc n) [] within = within
in_drop table (suc n) (id ∷ ids) within = in_drop table n ids (and_parts _ _ within).1

pub in_take : (table : List Ty) (n : ℕ) (ids : List ℕ) → are_in table ids ≡ true → are_in table (take n ids) ≡ true
in_take table zero ids within = refl
in_take table (suc n) [] within = within
in_take table (suc n) (id ∷ ids) within = let both = and_parts _ _ within in and_from _ _ both.0 (in_take table n ids both.1)

module _ (table : List Ty) (id n : ℕ) where
  pub one_item : id < length table → n ≡ 1 → (ids : List ℕ) → ids ≡ id ∷ [] → HasItems table (type_at table id) n ids
  one_item within one ids made = record {
    comb = record { items = []; last = type_at table id; count = (let none : length {A = Ty} [] ≡ 0 = refl in omega arith); is = refl };
    numbers = subst (λ (js : List ℕ). IsStackOf table js (type_at table id ∷ [])) (sym made)
        (on_top table id (type_at table id) [] [] (record { within = within; is = refl }) (record { within = refl; is = refl }));
  }

  module _ (f r : ℕ) (is : type_at table id ≡ type.Pair (type_at table f) (type_at table r)) (some : n ≡ 0 → ⊥) where
    pub one_item_more : f < length table → (items : List ℕ) → HasItems table (type_at table r) (n - 1) items → (ids : List ℕ) → ids ≡ f ∷ [] ++ items → HasItems table (type_at table id) n ids
    one_item_more within items rest ids made = record {
      comb = record {
        items = type_at table f ∷ rest.comb.items;
        last = rest.comb.last;
        count = (let count = rest.comb.count in let more : length (type_at table f ∷ rest.comb.items) ≡ suc (length rest.comb.items) = refl in omega arith);
        is = is ∙ ap (type.Pair (type_at table f)) rest.comb.is;
      };
      numbers = subst (λ (js : List ℕ). IsStackOf table js (type_at table f ∷ (rest.comb.items ++ rest.comb.last ∷ []))) (sym made)
          (on_top table f (type_at table f) items (rest.comb.items ++ rest.comb.last ∷ []) (record { within = within; is = refl }) rest.numbers);
    }

    pub one_item_less : (n ≡ 1 → ⊥) → (IsComb (type_at table r) (n - 1) → ⊥) → IsComb (type_at table id) n → ⊥
    one_item_less other none comb = go comb.items comb.count comb.is
      where
        go : (items : List Ty) → suc (length items) ≡ n → type_at table id ≡ comb_type items comb.last → ⊥
        go [] count same = other (let nil : length {A = Ty} [] ≡ 0 = refl in omega arith)
        go (i ∷ items) count same = none (record {
          items = items;
          last = comb.last;
          count = (let more : length (i ∷ items) ≡ suc (length items) = refl in omega arith);
          is = (pair_parts (type_at table f) (type_at table r) i (comb_type items comb.last) (sym is ∙ same)).1;
        })

  pub no_comb : (found : Level ℕ) → type_at table id ≡ level_type (type_at table) found → (level_kind found ≡ 11 → ⊥) → (n ≡ 0 → ⊥) → (n ≡ 1 → ⊥) → IsComb (type_at table id) n → ⊥
  no_comb found is never some other comb = go comb.items comb.count comb.is
    where
      go : (items : List Ty) → suc (length items) ≡ n → type_at table id ≡ comb_type items comb.last → ⊥
      go [] count same = other (let nil : length {A = Ty} [] ≡ 0 = refl in omega arith)
      go (i ∷ items) count same =
          never (one_kind (type_at table) (λ (t : Ty). t) found (level.Pair i (comb_type items comb.last)) (sym is ∙ same))

  -- a level that is no pair
  pub no_pair : (found : Level ℕ) → ((a b : ℕ) → found ≡ level.Pair a b → ⊥) → level_kind found ≡ 11 → ⊥
  no_pair (level.Pair a b) never kind = never a b refl
  no_pair level.Unit never kind = cc
  no_pair l never kind = cc

pub all_unpaired : (table : List Ty) (id : ℕ) (below : List ℕ) (n : ℕ) (items : List ℕ) → are_in table below ≡ true → HasItems table (type_at table id) n items →
    (ids : List ℕ) → ids ≡ items ++ below → IsUnpaired table (id ∷ below) n ids
all_unpaired table id below n items within has ids made = record {
  comb = record {
    items = has.comb.items;
    last = has.comb.last;
    below = types_at table below;
    count = has.comb.count;
    stands = ap (λ (t : Ty). t ∷ types_at table below) has.comb.is;
  };
  numbers = subst (λ (js : List ℕ). IsStackOf table js (has.comb.items ++ has.comb.last ∷ types_at table below)) (sym made)
      (subst (IsStackOf table (items ++ below)) (append_assoc has.comb.items (has.comb.last ∷ []) (types_at table below)) (record {
        within = list_all-append _ items below ∙ and_from _ _ has.numbers.within within;
        is = map-append (type_at table) items below ∙ ap (λ (ts : List Ty). ts ++ types_at table below) has.numbers.is;
      }));
}

-- what is said of an option, where it is there, and where it isn't
pub some_case : {T : Type 0} (P : Type 0) (Q : T → Type 0) (r : Option T) (x : T) → r ≡ Some x → MatchOption r P Q → Q x
some_case {T} P Q r x is h = subst (λ (o : Option T). MatchOption o P Q) is h

pub none_case : {T : Type 0} (P : Type 0) (Q : T → Type 0) (r : Option T) → r ≡ None → MatchOption r P Q → P
none_case {T} P Q r is h = subst (λ (o : Option T). MatchOption o P Q) is h

pub top_unpaired : (table : List Ty) (stack : List ℕ) (n : ℕ) → 1 ≤ length stack → are_in table stack ≡ true → (items : List ℕ) → HasItems table (type_at table (get_or stack 0 0)) n items →
    (ids : List ℕ) → ids ≡ items ++ take (length stack - 1) (drop 1 stack) → IsUnpaired table stack n ids
top_unpaired table [] n some within items has ids made = absurd (let none : length {A = ℕ} [] ≡ 0 = refl in omega arith)
top_unpaired table (id ∷ below) n some within items has ids made =
    all_unpaired table id below n items (and_parts _ _ within).1 has ids (made ∙ ap (λ (js : List ℕ). items ++ js) (take_rest 1 (id ∷ below)))
