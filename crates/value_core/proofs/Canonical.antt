-- Canonical forms: what a value of each type with parts is, and of operations.
use Rattle.std.proofs.Common.{◌≡◌, ℕ, ◌^◌, ◌⊎◌, true, List, map, inl, inr, refl, ap, sym, ◌∙◌, rules}
use Rattle.std.specs.Prelude.{◌&&◌, IsTrue, nat_lt}
use Rattle.std.specs.List.{list_all}
use Rattle.std.proofs.lemmas.Bool.{and_parts}
use Rattle.value_core.specs.declared.val.Val.{Val}
use Rattle.value_core.specs.declared.val.Emit.{Emit}
use Rattle.value_core.specs.declared.val.Val.TheVariants as value
use Rattle.value_core.specs.declared.val.Val.TheOpen as one
use Rattle.value_core.specs.declared.val.Val.TheViews.{out-Val, roll-Val}
use Rattle.value_core.specs.declared.ty.Ty.{Ty}
use Rattle.value_core.specs.declared.ty.Ty.TheVariants as kind
use Rattle.value_core.specs.declared.ty.Ty.TheOpen as ty
use Rattle.value_core.specs.declared.ty.Ty.TheViews.{the_lemmas}
use Rattle.value_core.specs.Layer.{Layer, on_parts}
use Rattle.value_core.specs.Sound.{ascends, is_countable, is_sound}
use Rattle.value_core.specs.Typed.{fits, fits_level, has_type}
use Rattle.value_core.proofs.Levels.{roll-out}
use Rattle.value_core.proofs.TypeEquations.{has_type-big_map, has_type-left, has_type-list, has_type-map, has_type-operation, has_type-pair, has_type-right, has_type-set, has_type-some}
use Rattle.value_core.proofs.CanonicalLevels.{is_rolled, level_fits, no_fit}

-- the value has the type that it had under another name
along : {v w : Val} (t : Ty) → v ≡ w → IsTrue (has_type v t) → IsTrue (has_type w t)
along t is typed = ap (λ u. has_type u t) (sym is) ∙ typed

option_level : (x : Layer Val) (t : Ty) → fits_level (on_parts fits x) (ty.Option t) ≡ true → (x ≡ one.Nothing) ⊎ ((part : Val) × (x ≡ one.Some part))
option_level one.Nothing t h = inl refl
option_level (one.Some part) t h = inr (part, refl)
option_level x t h = no_fit h

-- Nothing, or Some of a value of the type
pub of_option : (v : Val) (t : Ty) → IsTrue (has_type v (kind.Option t)) → (v ≡ value.Nothing) ⊎ ((part : Val) × (v ≡ value.Some part) × IsTrue (has_type part t))
of_option v t typed = elim (option_level (out-Val v) t (level_fits v (kind.Option t) (ty.Option t) (search (rules, the_lemmas)) typed)) [
  | inl nothing ↦ inl (is_rolled v _ _ nothing value.rolls-Nothing)
  | inr some ↦
      let is : v ≡ value.Some some.0 = is_rolled v _ _ some.1 (value.rolls-Some some.0) in
      inr (some.0, is, sym (has_type-some some.0 t) ∙ along (kind.Option t) is typed)
]

or_level : (x : Layer Val) (s t : Ty) → fits_level (on_parts fits x) (ty.Or s t) ≡ true → ((part : Val) × (x ≡ one.Left part)) ⊎ ((part : Val) × (x ≡ one.Right part))
or_level (one.Left part) s t h = inl (part, refl)
or_level (one.Right part) s t h = inr (part, refl)
or_level x s t h = no_fit h

-- Left of a value of the first type, or Right of one of the second
pub of_or : (v : Val) (s t : Ty) → IsTrue (has_type v (kind.Or s t)) →
    ((part : Val) × (v ≡ value.Left part) × IsTrue (has_type part s)) ⊎ ((part : Val) × (v ≡ value.Right part) × IsTrue (has_type part t))
of_or v s t typed = elim (or_level (out-Val v) s t (level_fits v (kind.Or s t) (ty.Or s t) (search (rules, the_lemmas)) typed)) [
  | inl left ↦
      let is : v ≡ value.Left left.0 = is_rolled v _ _ left.1 (value.rolls-Left left.0) in
      inl (left.0, is, sym (has_type-left left.0 s t) ∙ along (kind.Or s t) is typed)
  | inr right ↦
      let is : v ≡ value.Right right.0 = is_rolled v _ _ right.1 (value.rolls-Right right.0) in
      inr (right.0, is, sym (has_type-right right.0 s t) ∙ along (kind.Or s t) is typed)
]

pair_level : (x : Layer Val) (s t : Ty) → fits_level (on_parts fits x) (ty.Pair s t) ≡ true → (a b : Val) × (x ≡ one.Pair a b)
pair_level (one.Pair a b) s t h = (a, b, refl)
pair_level x s t h = no_fit h

-- a pair of values of both types
pub of_pair : (v : Val) (s t : Ty) → IsTrue (has_type v (kind.Pair s t)) → (a b : Val) × (v ≡ value.Pair a b) × IsTrue (has_type a s) × IsTrue (has_type b t)
of_pair v s t typed =
    let level = pair_level (out-Val v) s t (level_fits v (kind.Pair s t) (ty.Pair s t) (search (rules, the_lemmas)) typed) in
    let is : v ≡ value.Pair level.0 level.1 = is_rolled v _ _ level.2 (value.rolls-Pair level.0 level.1) in
    let parts = and_parts (has_type level.0 s) (has_type level.1 t) (sym (has_type-pair level.0 level.1 s t) ∙ along (kind.Pair s t) is typed) in
    (level.0, level.1, is, parts.0, parts.1)

list_level : (x : Layer Val) (t : Ty) → fits_level (on_parts fits x) (ty.List t) ≡ true → (items : List Val) × (x ≡ one.List items)
list_level (one.List items) t h = (items, refl)
list_level x t h = no_fit h

-- a list of fewer than 2^32 values of the type
pub of_list : (v : Val) (t : Ty) → IsTrue (has_type v (kind.List t)) →
    (items : List Val) × (v ≡ value.List items) × IsTrue (is_countable items) × IsTrue (list_all (λ item. has_type item t) items)
of_list v t typed =
    let level = list_level (out-Val v) t (level_fits v (kind.List t) (ty.List t) (search (rules, the_lemmas)) typed) in
    let is : v ≡ value.List level.0 = is_rolled v _ _ level.1 (value.rolls-List level.0) in
    let parts = and_parts (is_countable level.0) _ (sym (has_type-list level.0 t) ∙ along (kind.List t) is typed) in
    (level.0, is, parts.0, parts.1)

set_level : (x : Layer Val) (t : Ty) → fits_level (on_parts fits x) (ty.Set t) ≡ true → (items : List Val) × (x ≡ one.Set items)
set_level (one.Set items) t h = (items, refl)
set_level x t h = no_fit h

-- the same, in ascending order
pub of_set : (v : Val) (t : Ty) → IsTrue (has_type v (kind.Set t)) →
    (items : List Val) × (v ≡ value.Set items) × IsTrue (is_countable items) × IsTrue (ascends items) × IsTrue (list_all (λ item. has_type item t) items)
of_set v t typed =
    let level = set_level (out-Val v) t (level_fits v (kind.Set t) (ty.Set t) (search (rules, the_lemmas)) typed) in
    let is : v ≡ value.Set level.0 = is_rolled v _ _ level.1 (value.rolls-Set level.0) in
    let parts = and_parts (is_countable level.0 && ascends level.0) _ (sym (has_type-set level.0 t) ∙ along (kind.Set t) is typed) in
    let ordered = and_parts (is_countable level.0) (ascends level.0) parts.0 in
    (level.0, is, ordered.0, ordered.1, parts.1)

map_level : (x : Layer Val) (k w : Ty) → fits_level (on_parts fits x) (ty.Map k w) ≡ true → (entries : List (Val × Val)) × (x ≡ one.Map entries)
map_level (one.Map entries) k w h = (entries, refl)
map_level x k w h = no_fit h

-- fewer than 2^32 entries of keys and values of both types, in ascending order of the keys
pub of_map : (v : Val) (k w : Ty) → IsTrue (has_type v (kind.Map k w)) →
    (entries : List (Val × Val)) × (v ≡ value.Map entries) × IsTrue (is_countable entries) × IsTrue (ascends (map (λ e. e.0) entries)) ×
    IsTrue (list_all (λ e. has_type e.0 k && has_type e.1 w) entries)
of_map v k w typed =
    let level = map_level (out-Val v) k w (level_fits v (kind.Map k w) (ty.Map k w) (search (rules, the_lemmas)) typed) in
    let is : v ≡ value.Map level.0 = is_rolled v _ _ level.1 (value.rolls-Map level.0) in
    let parts = and_parts (is_countable level.0 && ascends (map (λ e. e.0) level.0)) _ (sym (has_type-map level.0 k w) ∙ along (kind.Map k w) is typed) in
    let ordered = and_parts (is_countable level.0) (ascends (map (λ e. e.0) level.0)) parts.0 in
    (level.0, is, ordered.0, ordered.1, parts.1)

big_map_level : (x : Layer Val) (k w : Ty) → fits_level (on_parts fits x) (ty.BigMap k w) ≡ true → (place version : ℕ) × (x ≡ one.BigMap place version)
big_map_level (one.BigMap place version) k w h = (place, version, refl)
big_map_level x k w h = no_fit h

-- one of the 16 places, and a version
pub of_big_map : (v : Val) (k w : Ty) → IsTrue (has_type v (kind.BigMap k w)) → (place version : ℕ) × (v ≡ value.BigMap place version) × IsTrue (nat_lt place 16)
of_big_map v k w typed =
    let level = big_map_level (out-Val v) k w (level_fits v (kind.BigMap k w) (ty.BigMap k w) (search (rules, the_lemmas)) typed) in
    let is : v ≡ value.BigMap level.0 level.1 = is_rolled v _ _ level.2 (value.rolls-BigMap level.0 level.1) in
    (level.0, level.1, is, sym (has_type-big_map level.0 level.1 k w) ∙ along (kind.BigMap k w) is typed)

contract_level : (x : Layer Val) (t : Ty) → fits_level (on_parts fits x) (ty.Contract t) ≡ true → (address entry : List ℕ) × (x ≡ one.Contract address entry)
contract_level (one.Contract address entry) t h = (address, entry, refl)
contract_level x t h = no_fit h

-- an address and the name of an entry
pub of_contract : (v : Val) (t : Ty) → IsTrue (has_type v (kind.Contract t)) → (address entry : List ℕ) × (v ≡ value.Contract address entry)
of_contract v t typed =
    let level = contract_level (out-Val v) t (level_fits v (kind.Contract t) (ty.Contract t) (search (rules, the_lemmas)) typed) in
    (level.0, level.1, is_rolled v _ _ level.2 (value.rolls-Contract level.0 level.1))

operation_level : (x : Layer Val) → fits_level (on_parts fits x) ty.Operation ≡ true → (emit : Emit) × (roll-Val x ≡ value.Operation emit)
operation_level (one.Operation emit) h = (emit, value.rolls-Operation emit)
operation_level x h = no_fit h

-- an operation of less than 2^63, whose param is sound
pub of_operation : (v : Val) → IsTrue (has_type v kind.Operation) →
    (emit : Emit) × (v ≡ value.Operation emit) × IsTrue (nat_lt emit.amount (2 ^ 63)) × IsTrue (is_sound emit.param)
of_operation v typed =
    let level = operation_level (out-Val v) (level_fits v kind.Operation ty.Operation (search (rules, the_lemmas)) typed) in
    let is : v ≡ value.Operation level.0 = sym (roll-out v) ∙ level.1 in
    let parts = and_parts (nat_lt level.0.amount (2 ^ 63)) (is_sound level.0.param) (sym (has_type-operation level.0) ∙ along kind.Operation is typed) in
    (level.0, is, parts.0, parts.1)
