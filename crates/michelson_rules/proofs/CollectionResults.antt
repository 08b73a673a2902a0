-- What instructions on lists, sets and maps give: values of the types of their lines.
use Rattle.std.proofs.Common.{◌≡◌, ℕ, ◌<◌, ◌^◌, Bool, true, false, cond, List, [], ◌∷◌, ◌++◌, Option, Some, None, refl, sym, ap, subst, arith}
use Rattle.std.specs.Prelude.{IsTrue, nat_le, nat_lt, if◌then◌else◌}
use Rattle.std.specs.declared.cmp.Ordering.{Ordering}
use Rattle.std.specs.declared.cmp.Ordering.TheVariants.{Less, Equal, Greater}
use Rattle.std.specs.Ordering.{eq_by_cmp}
use Rattle.std.specs.List.{AllByRecursion, filter}
use Rattle.std.specs.FinMap.Entries.{by_order}
use Rattle.std.proofs.lemmas.Bool.{and_parts}
use Rattle.std.proofs.lemmas.Bool.Decides.{nat_tests}
use Rattle.value_core.specs.declared.val.Val.{Val}
use Rattle.value_core.specs.declared.val.Val.TheOpen as is
use Rattle.value_core.specs.declared.val.Val.TheVariants as value
use Rattle.value_core.specs.declared.val.Val.TheViews.{out-Val}
use Rattle.value_core.specs.declared.ty.Ty.{Ty}
use Rattle.value_core.specs.declared.ty.Ty.TheOpen as ty
use Rattle.value_core.specs.declared.ty.Ty.TheVariants as type
use Rattle.value_core.specs.Order.{order}
use Rattle.value_core.specs.Sorted.{find, has, keys_of, put, with_key, without, without_key}
use Rattle.value_core.specs.Sound.{ascends, is_sound}
use Rattle.value_core.specs.Typed.{fits, has_type}
use Rattle.value_core.proofs.SizeParts.{list_counts, map_counts, set_counts}
use Rattle.value_core.proofs.SortedValues.{ascends-put, ascends-with, ascends-without, ascends-without_key}
use Rattle.michelson_rules.specs.Answers.{Answer, Ends, Gives, Misses, gives, sized}
use Rattle.michelson_rules.specs.Collections.{all_in_a_row, chosen, found, in_a_row, in_front, member, of_map, of_set, option, row_of, string_before, strings, updated, updated_map, updated_with_old, with_old}
use Rattle.michelson_rules.specs.Plain.{concatenated, emitted, in_a_row_by}
use Rattle.michelson_rules.specs.TypedStacks.{IsAnswered}
use Rattle.michelson_rules.specs.TypedLevels.{AllHave, EntriesHave}
use Rattle.michelson_rules.proofs.TypedAnswers.{Typing, AnswerHas, Takes, one_result, shown, sized_result, takes_one, takes_two}
use Rattle.michelson_rules.proofs.OperandKinds.{Amount, Called, ListOf, MapOf, MayBe, SetOf, a_bytes, a_list, a_text, at_bytes, at_list, at_text, has_bool, has_bytes, has_list, has_map, has_nothing, has_operation, has_set, has_some, has_text, option_layer}

-- ---- what holds of each item or entry

module _ {A : Type 0} (P : A → Type 0) where
  pub all_filtered : (test : A → Bool) (xs : List A) → AllByRecursion P xs → AllByRecursion P (filter test xs)
  all_filtered test [] all = tt
  all_filtered test (x ∷ xs) all =
      elim (test x) as (λ b. AllByRecursion P (cond b (x ∷ filter test xs) (filter test xs))) [ true ↦ (all.0, all_filtered test xs all.1) | false ↦ all_filtered test xs all.1 ]

  pub all_with_key : (R : A → A → Ordering) (k : A) (xs : List A) → P k → AllByRecursion P xs → AllByRecursion P (with_key R k xs)
  all_with_key R k [] key all = (key, tt)
  all_with_key R k (x ∷ xs) key all =
      elim (R k x) as (λ r. AllByRecursion P (by_order r (k ∷ x ∷ xs) (x ∷ xs) (x ∷ with_key R k xs))) [
        | Less ↦ (key, all)
        | Equal ↦ all
        | Greater ↦ (all.0, all_with_key R k xs key all.1)
      ]

module _ {K X : Type 0} (P : K → Type 0) (Q : X → Type 0) (R : K → K → Ordering) where
  abbrev pub Both : K × X → Type 0
  Both e = P e.0 × Q e.1

  pub all_put : (k : K) (v : X) (es : List (K × X)) → P k → Q v → AllByRecursion Both es → AllByRecursion Both (put R k v es)
  all_put k v [] key item all = ((key, item), tt)
  all_put k v (e ∷ es) key item all =
      elim (R k e.0) as (λ r. AllByRecursion Both (by_order r ((k, v) ∷ e ∷ es) ((e.0, v) ∷ es) (e ∷ put R k v es))) [
        | Less ↦ ((key, item), all)
        | Equal ↦ ((all.0.0, item), all.1)
        | Greater ↦ (all.0, all_put k v es key item all.1)
      ]

  abbrev pub IfThere : Option X → Type 0
  IfThere None = Unit {0}
  IfThere (Some v) = Q v

  pub found_is : (k : K) (es : List (K × X)) → AllByRecursion Both es → IfThere (find R k es)
  found_is k [] all = tt
  found_is k (e ∷ es) all =
      elim (eq_by_cmp R k e.0) as (λ b. IfThere (cond b (Some e.1) (find R k es))) [ true ↦ all.0.1 | false ↦ found_is k es all.1 ]

-- ---- sizes and counts

-- what has a size of at most 4,096 has fewer than 2^32 items
countable_within : (n size : ℕ) → n < size → IsTrue (nat_le size 4096) → IsTrue (nat_lt n (2 ^ 32))
countable_within n size more small = grind (arith, nat_tests)

module _ (typing : Typing) where
  abbrev Is : Ty → Answer → Type 0
  Is t = AnswerHas typing (t ∷ [])

  abbrev All : Ty → List Val → Type 0
  All = AllHave typing.Has typing.HasMap

  abbrev Entries : Ty → Ty → List (Val × Val) → Type 0
  Entries = EntriesHave typing.Has typing.HasMap

  -- ---- results that are tested for their size

  pub a_list_is : (items : List Val) (t : Ty) → All t items → Is (type.List t) (sized (value.List items))
  a_list_is items t all = sized_result typing _ _ (λ small. has_list typing items t (countable_within _ _ (list_counts items) small, all))

  pub a_set_is : (items : List Val) (t : Ty) → IsTrue (ascends items) → All t items → Is (type.Set t) (sized (value.Set items))
  a_set_is items t up all = sized_result typing _ _ (λ small. has_set typing items t (countable_within _ _ (set_counts items) small, up, all))

  pub a_map_is : (entries : List (Val × Val)) (k w : Ty) → IsTrue (ascends (keys_of entries)) → Entries k w entries → Is (type.Map k w) (sized (value.Map entries))
  a_map_is entries k w up all = sized_result typing _ _ (λ small. has_map typing entries k w (countable_within _ _ (map_counts entries) small, up, all))

  pub in_front_is : (t : Ty) (v : Val) → typing.Has v t → (l : ListOf typing t) → Is (type.List t) (in_front v (is.List l.0))
  in_front_is t v has l = a_list_is (v ∷ l.0) t (has, l.2)

  -- ---- strings

  -- a row of strings is there
  abbrev IsThere : Option (List ℕ) → Type 0
  IsThere o = (bytes : List ℕ) × (o ≡ Some bytes)

  strings_are : (items : List Val) → All type.Text items → IsThere (strings items)
  strings_are [] all = ([], refl)
  strings_are (x ∷ xs) all =
      let rest = strings_are xs all.1 in
      at_text typing (λ y. IsThere (string_before y (strings xs))) (λ bytes. (bytes ++ rest.0, ap (string_before (is.Text bytes)) rest.1))
      (out-Val x) (shown typing x ty.Text type.Text type.outs-Text all.0)

  pub a_row_is : (l : ListOf typing type.Text) → Is type.Text (all_in_a_row (is.List l.0))
  a_row_is l =
      let row = strings_are l.0 l.2 in
      subst (λ o. Is type.Text (row_of o)) (sym row.1) (sized_result typing _ _ (λ small. has_text typing row.0))

  -- two of a kind, or a list of strings
  pub strings_in_a_row : Takes typing (type.Text ∷ type.Text ∷ []) (type.Text ∷ []) concatenated
  strings_in_a_row [] us has = absurd has
  strings_in_a_row (x ∷ below) us has =
      at_text typing (λ y. IsAnswered typing.Has (type.Text ∷ us) (in_a_row_by y (x ∷ below)))
      (λ bytes. takes_two typing (a_text typing) (a_text typing) (type.Text ∷ []) in_a_row (λ a b. sized_result typing _ _ (λ small. has_text typing _)) (x ∷ below) us has)
      (out-Val x) (shown typing x ty.Text type.Text type.outs-Text has.0)

  pub bytes_in_a_row : Takes typing (type.Bytes ∷ type.Bytes ∷ []) (type.Bytes ∷ []) concatenated
  bytes_in_a_row [] us has = absurd has
  bytes_in_a_row (x ∷ below) us has =
      at_bytes typing (λ y. IsAnswered typing.Has (type.Bytes ∷ us) (in_a_row_by y (x ∷ below)))
      (λ bytes. takes_two typing (a_bytes typing) (a_bytes typing) (type.Bytes ∷ []) in_a_row (λ a b. sized_result typing _ _ (λ small. has_bytes typing _)) (x ∷ below) us has)
      (out-Val x) (shown typing x ty.Bytes type.Bytes type.outs-Bytes has.0)

  pub list_in_a_row : Takes typing (type.List type.Text ∷ []) (type.Text ∷ []) concatenated
  list_in_a_row [] us has = absurd has
  list_in_a_row (x ∷ below) us has =
      at_list typing type.Text (λ y. IsAnswered typing.Has (type.Text ∷ us) (in_a_row_by y (x ∷ below)))
      (λ l. takes_one typing (a_list typing type.Text) (type.Text ∷ []) all_in_a_row a_row_is (x ∷ below) us has)
      (out-Val x) (shown typing x (ty.List type.Text) (type.List type.Text) (type.outs-List type.Text) has.0)

  -- ---- operations

  sound_of : (v : Val) (t : Ty) → IsTrue (has_type v t) → IsTrue (is_sound v)
  sound_of v t h = (and_parts (is_sound v) (fits v t) h).0

  pub emitted_is : (t : Ty) (v : Val) → typing.Has v t → (m : Amount typing) (d : Called typing) → Is type.Operation (emitted v (is.Mutez m.0) (is.Contract d.0 d.1))
  emitted_is t v has m d = sized_result typing _ _ (λ small. has_operation typing _ (m.1, sound_of v t (typing.typed v t has)))

  -- ---- sets and maps

  in_set : (up : Bool) (ts : List Ty) (a : Answer) → IsTrue up → AnswerHas typing ts a → AnswerHas typing ts (if up then a else Misses)
  in_set true ts a h is = is
  in_set false ts a h is = absurd cc

  pub of_set_is : (ts : List Ty) (items : List Val) (a : Answer) → IsTrue (ascends items) → AnswerHas typing ts a → AnswerHas typing ts (of_set items a)
  of_set_is ts items a = in_set (ascends items) ts a

  pub of_map_is : (ts : List Ty) (entries : List (Val × Val)) (a : Answer) → IsTrue (ascends (keys_of entries)) → AnswerHas typing ts a → AnswerHas typing ts (of_map entries a)
  of_map_is ts entries a = in_set (ascends (keys_of entries)) ts a

  pub an_option_is : (o : Option Val) (t : Ty) → IfThere {K = Val} (λ k. Unit {0}) (λ v. typing.Has v t) order o → typing.Has (option o) (type.Option t)
  an_option_is None t is = has_nothing typing t
  an_option_is (Some v) t is = has_some typing v t is

  member_is : (b : Bool) → AnswerHas typing (type.Bool ∷ []) (gives (value.Bool b))
  member_is b = one_result typing _ _ (has_bool typing b)

  pub member_of_set : (t : Ty) (v : Val) (l : SetOf typing t) → Is type.Bool (member v (is.Set l.0))
  member_of_set t v l = of_set_is _ l.0 _ l.2 (member_is _)

  pub member_of_map : (k w : Ty) (v : Val) (l : MapOf typing k w) → Is type.Bool (member v (is.Map l.0))
  member_of_map k w v l = of_map_is _ l.0 _ l.2 (member_is _)

  -- what a map has at a key
  found_in_map : (k w : Ty) (v : Val) (l : MapOf typing k w) → typing.Has (option (find order v l.0)) (type.Option w)
  found_in_map k w v l = an_option_is (find order v l.0) w (found_is (λ e. typing.Has e k) (λ e. typing.Has e w) order v l.0 l.3)

  pub found_is_there : (k w : Ty) (v : Val) (l : MapOf typing k w) → Is (type.Option w) (found v (is.Map l.0))
  found_is_there k w v l = of_map_is _ l.0 _ l.2 (one_result typing _ _ (found_in_map k w v l))

  pub updated_set_is : (t : Ty) (v : Val) → typing.Has v t → (b : Bool) (l : SetOf typing t) → Is (type.Set t) (updated v (is.Bool b) (is.Set l.0))
  updated_set_is t v has true l =
      of_set_is _ l.0 _ l.2 (a_set_is (with_key order v l.0) t (ascends-with v l.0 l.2) (all_with_key (λ e. typing.Has e t) order v l.0 has l.3))
  updated_set_is t v has false l =
      of_set_is _ l.0 _ l.2 (a_set_is (without_key order v l.0) t (ascends-without_key v l.0 l.2) (all_filtered (λ e. typing.Has e t) _ l.0 l.3))

  -- a map with a change
  changed_map_is : (k w : Ty) (v : Val) → typing.Has v k → (choice : MayBe typing w) (l : MapOf typing k w) → Is (type.Map k w) (updated_map v (chosen (option_layer typing w choice)) l.0)
  changed_map_is k w v has None l =
      of_map_is _ l.0 _ l.2 (a_map_is (without order v l.0) k w (ascends-without v l.0 l.2) (all_filtered (λ e. typing.Has e.0 k × typing.Has e.1 w) _ l.0 l.3))
  changed_map_is k w v has (Some e) l =
      of_map_is _ l.0 _ l.2 (a_map_is (put order v e.0 l.0) k w (ascends-put v e.0 l.0 l.2) (all_put (λ x. typing.Has x k) (λ x. typing.Has x w) order v e.0 l.0 has e.1 l.3))

  pub updated_map_is : (k w : Ty) (v : Val) → typing.Has v k → (choice : MayBe typing w) (l : MapOf typing k w) →
      Is (type.Map k w) (updated v (option_layer typing w choice) (is.Map l.0))
  updated_map_is k w v has None l = changed_map_is k w v has None l
  updated_map_is k w v has (Some e) l = changed_map_is k w v has (Some e) l

  with_old_is : (old : Val) (t u : Ty) (a : Answer) → typing.Has old t → Is u a → AnswerHas typing (t ∷ u ∷ []) (with_old old a)
  with_old_is old t u (Gives vs) has is = (has, is)
  with_old_is old t u (Ends y) has is = is
  with_old_is old t u Misses has is = absurd is

  pub updated_with_old_is : (k w : Ty) (v : Val) → typing.Has v k → (choice : MayBe typing w) (l : MapOf typing k w) →
      AnswerHas typing (type.Option w ∷ type.Map k w ∷ []) (updated_with_old v (option_layer typing w choice) (is.Map l.0))
  updated_with_old_is k w v has choice l = with_old_is _ _ _ _ (found_in_map k w v l) (changed_map_is k w v has choice l)
