-- What a typed script returns: a storage without versions, changes of the types of their places in order, and operations.
use Rattle.std.proofs.Common.{◌≡◌, ℕ, true, false, List, [], ◌∷◌, ◌++◌, map, refl, ap, sym, subst, ◌∙◌, rules}
use Rattle.std.specs.Prelude.{not, IsTrue, Option, Some, nat_lt, if◌then◌else◌}
use Rattle.std.specs.List.{AllByRecursion, flat_map, slice_get}
use Rattle.std.specs.Ordering.{is_gt, ordering_reverse}
use Rattle.std.specs.Cmp.{IsTotalOrder}
use Rattle.std.specs.declared.cmp.Ordering.{Ordering}
use Rattle.std.specs.declared.cmp.Ordering.TheVariants.{Less, Equal, Greater}
use Rattle.std.proofs.lemmas.Cmp.{nat_cmp_total, on_total, then_total}
use Rattle.value_core.specs.declared.ty.Ty.{Ty}
use Rattle.value_core.specs.declared.ty.Ty.TheOpen as ty
use Rattle.value_core.specs.declared.ty.Ty.TheVariants as type
use Rattle.value_core.specs.declared.ty.Ty.TheViews.{the_lemmas}
use Rattle.value_core.specs.declared.val.Val.{Val}
use Rattle.value_core.specs.declared.val.Emit.{Emit}
use Rattle.value_core.specs.declared.val.Val.TheOpen as is
use Rattle.value_core.specs.declared.val.Val.TheVariants as value
use Rattle.value_core.specs.declared.val.Val.TheViews.{out-Val, roll-Emit, roll-Val}
use Rattle.value_core.specs.declared.val.Val.TheFolds.{fold-roll-Val}
use Rattle.value_core.specs.Kinds.{is_passable}
use Rattle.value_core.specs.Layer.{Layer}
use Rattle.value_core.specs.Sound.{is_plain}
use Rattle.value_core.specs.TypeLevels.{shows_big_map, shows_pair}
use Rattle.value_core.specs.Typed.{has_type}
use Rattle.value_core.proofs.Bools.{both_true, first_true, second_true}
use Rattle.value_core.proofs.Canonical.{of_big_map, of_pair}
use Rattle.value_core.proofs.Levels.{by_level-roll, roll-out}
use Rattle.value_core.proofs.PlainTyped.{passable_is_plain}
use Rattle.value_core.proofs.SortedValues.{total}
use Rattle.value_core.proofs.TypeEquations.{has_type-big_map, has_type-pair}
use Rattle.value_laws.proofs.PlainnessEquations.{plain-big_map, plain-pair}
use Rattle.michelson_code.specs.WrittenTypes.{has_placed_big_maps, is_kept}
use Rattle.michelson_rules.specs.Returned.{Change, big_maps_here, big_maps_in, change_order, changes_in, emit_before, emits_of, in_order, insert_change, operations, unversioned, unversioned_level}
use Rattle.michelson_rules.specs.Runs.{Changes, changes_of}
use Rattle.michelson_rules.specs.TypedScripts.{IsChangeIn, IsEmitted, changes_ascend}
use Rattle.michelson_rules.specs.TypedValues.{AreChangesOf, Belongs, IsChangeOf}
use Rattle.michelson_rules.proofs.Alls.{all_append}
use Rattle.michelson_rules.proofs.Belonging.{FitsHere, ItemsBelong, level_of}
use Rattle.michelson_rules.proofs.CleanValues.{cleans}
use Rattle.michelson_rules.proofs.KeptTypes.{IsOther, along_pairs, kept_pair, kept_passes, placed_pair}

-- ---- by parts

pub unversioned-pair : (a b : Val) → unversioned (value.Pair a b) ≡ value.Pair (unversioned a) (unversioned b)
unversioned-pair a b =
    ap unversioned (sym (value.rolls-Pair a b)) ∙ fold-roll-Val Val Emit unversioned_level (λ e. roll-Emit e) (is.Pair a b) ∙ value.rolls-Pair (unversioned a) (unversioned b)

pub unversioned-big_map : (place version : ℕ) → unversioned (value.BigMap place version) ≡ value.BigMap place 0
unversioned-big_map place version =
    ap unversioned (sym (value.rolls-BigMap place version)) ∙ fold-roll-Val Val Emit unversioned_level (λ e. roll-Emit e) (is.BigMap place version)

pub big_maps_in-pair : (a b : Val) → big_maps_in (value.Pair a b) ≡ big_maps_in a ++ (big_maps_in b ++ [])
big_maps_in-pair a b = ap big_maps_in (sym (value.rolls-Pair a b)) ∙ by_level-roll big_maps_here (is.Pair a b)

pub big_maps_in-big_map : (place version : ℕ) → big_maps_in (value.BigMap place version) ≡ (place, version) ∷ []
big_maps_in-big_map place version = ap big_maps_in (sym (value.rolls-BigMap place version)) ∙ by_level-roll big_maps_here (is.BigMap place version)

module _ (maps : List (Ty × Ty)) (versions : List Changes) where
  -- ---- a storage

  -- a big map at a place has changes of the types of the place
  abbrev pub IsOfPlace : ℕ × ℕ → Type 0
  IsOfPlace m = (k t : Ty) × (slice_get maps m.0 ≡ Some (k, t)) × AreChangesOf k t (changes_of m.1 versions)

  -- a storage without versions, and its big maps
  pub record Settles (v : Val) (t : Ty) : Type 0 where
    pub typed : has_type (unversioned v) t ≡ true
    pub plain : is_plain (unversioned v) ≡ true
    pub places : AllByRecursion IsOfPlace (big_maps_in v)

  abbrev Puts : Ty → Type 0
  Puts t = is_kept t ≡ true → has_placed_big_maps t ≡ true → (v : Val) → Belongs maps versions v t → Settles v t

  puts_parts : (s u : Ty) (a b : Val) → Settles a s → Settles b u → Settles (value.Pair a b) (type.Pair s u)
  puts_parts s u a b left right = record {
    typed = ap (λ (v : Val). has_type v (type.Pair s u)) (unversioned-pair a b) ∙ has_type-pair (unversioned a) (unversioned b) s u ∙ both_true (has_type (unversioned a) s) (has_type (unversioned b) u) left.typed right.typed;
    plain = ap is_plain (unversioned-pair a b) ∙ plain-pair (unversioned a) (unversioned b) ∙ both_true (is_plain (unversioned a)) (is_plain (unversioned b)) left.plain right.plain;
    places = subst (AllByRecursion IsOfPlace) (sym (big_maps_in-pair a b)) (all_append IsOfPlace (big_maps_in a) (big_maps_in b ++ []) left.places (all_append IsOfPlace (big_maps_in b) [] right.places tt));
  }

  puts_pair : (s u : Ty) → Puts s → Puts u → Puts (type.Pair s u)
  puts_pair s u left right kept placed v has =
      let parts = of_pair v s u has.typed in
      let both_kept = kept_pair s u kept in
      let both_placed = placed_pair s u placed in
      let here : Belongs maps versions (value.Pair parts.0 parts.1) (type.Pair s u) = subst (λ (w : Val). Belongs maps versions w (type.Pair s u)) parts.2 has in
      let level : FitsHere maps versions (is.Pair parts.0 parts.1) (ty.Pair s u) =
      subst (λ (x : Layer Val). FitsHere maps versions x (ty.Pair s u)) (value.outs-Pair parts.0 parts.1) (level_of maps versions (value.Pair parts.0 parts.1) (ty.Pair s u) (type.Pair s u) (shows_pair s u) here) in
      subst (λ (w : Val). Settles w (type.Pair s u)) (sym parts.2)
      (puts_parts s u parts.0 parts.1 (left both_kept.0 both_placed.0 parts.0 level.0) (right both_kept.1 both_placed.1 parts.1 level.1))

  puts_big_map : (k w : Ty) → Puts (type.BigMap k w)
  puts_big_map k w kept placed v has =
      let parts = of_big_map v k w has.typed in
      let here : Belongs maps versions (value.BigMap parts.0 parts.1) (type.BigMap k w) = subst (λ (m : Val). Belongs maps versions m (type.BigMap k w)) parts.2 has in
      let level : FitsHere maps versions (is.BigMap parts.0 parts.1) (ty.BigMap k w) =
      subst (λ (x : Layer Val). FitsHere maps versions x (ty.BigMap k w)) (value.outs-BigMap parts.0 parts.1)
      (level_of maps versions (value.BigMap parts.0 parts.1) (ty.BigMap k w) (type.BigMap k w) (shows_big_map k w) here) in
      subst (λ (m : Val). Settles m (type.BigMap k w)) (sym parts.2) (record {
        typed = ap (λ (m : Val). has_type m (type.BigMap k w)) (unversioned-big_map parts.0 parts.1) ∙ has_type-big_map parts.0 0 k w ∙ parts.3;
        plain = ap is_plain (unversioned-big_map parts.0 parts.1) ∙ plain-big_map parts.0 0 ∙ both_true (nat_lt parts.0 16) true parts.3 refl;
        places = subst (AllByRecursion IsOfPlace) (sym (big_maps_in-big_map parts.0 parts.1)) ((k, w, level.1.types, level.1.changes), tt);
      })

  puts_other : (t : Ty) → IsOther t → Puts t
  puts_other t other kept placed v has =
      let passable : is_passable t ≡ true = kept_passes t kept (sym other.free ∙ placed) in
      let clean = cleans t passable v has.typed in
      record {
        typed = ap (λ (w : Val). has_type w t) clean.same ∙ has.typed;
        plain = ap is_plain clean.same ∙ passable_is_plain v t has.typed passable;
        places = subst (AllByRecursion IsOfPlace) (sym clean.none) tt;
      }

  -- a storage that belongs to its type settles
  pub puts : (t : Ty) → Puts t
  puts = along_pairs Puts puts_pair puts_big_map puts_other

  -- ---- changes

  changes_are : (place : ℕ) (k t : Ty) → slice_get maps place ≡ Some (k, t) → (cs : Changes) → AllByRecursion (IsChangeOf k t) cs → AllByRecursion (IsChangeIn maps) (map (λ c. (place, c.0, c.1)) cs)
  changes_are place k t is [] all = tt
  changes_are place k t is (c ∷ cs) all = ((k, t, is, all.0), changes_are place k t is cs all.1)

  pub all_changes : (ms : List (ℕ × ℕ)) → AllByRecursion IsOfPlace ms → AllByRecursion (IsChangeIn maps) (flat_map (changes_in versions) ms)
  all_changes [] all = tt
  all_changes (m ∷ ms) all =
      all_append (IsChangeIn maps) (changes_in versions m) (flat_map (changes_in versions) ms) (changes_are m.0 all.0.0 all.0.1 all.0.2 (changes_of m.1 versions) all.0.3.typed) (all_changes ms all.1)

  -- ---- operations

  -- a list of operations, and each is one that may be emitted
  abbrev AreEmits : Option (List Emit) → Type 0
  AreEmits o = (emits : List Emit) × (o ≡ Some emits) × AllByRecursion IsEmitted emits

  emit_first : (x : Layer Val) (v : Val) (o : Option (List Emit)) → roll-Val x ≡ v → FitsHere maps versions x ty.Operation → IsTrue (has_type v type.Operation) → AreEmits o → AreEmits (emit_before x o)
  emit_first (is.Operation emit) v o rolls fit typed rest = (
    emit ∷ rest.0,
    ap (emit_before (is.Operation emit)) rest.1,
    (ap (λ (w : Val). has_type w type.Operation) (sym (value.rolls-Operation emit) ∙ rolls) ∙ typed, rest.2),
  )
  emit_first _ v o rolls fit typed rest = absurd fit

  emits_are : (vs : List Val) → ItemsBelong maps versions type.Operation vs → AreEmits (emits_of vs)
  emits_are [] have = ([], refl, tt)
  emits_are (v ∷ vs) have =
      emit_first (out-Val v) v (emits_of vs) (roll-out v) (level_of maps versions v ty.Operation type.Operation (search (rules, the_lemmas)) have.0) have.0.typed (emits_are vs have.1)

  ops_at : (x : Layer Val) → FitsHere maps versions x (ty.List type.Operation) → AreEmits (operations x)
  ops_at (is.List vs) fit = emits_are vs fit.1
  ops_at _ fit = absurd fit

  pub ops_are : (v : Val) → Belongs maps versions v (type.List type.Operation) → AreEmits (operations (out-Val v))
  ops_are v has = ops_at (out-Val v) (level_of maps versions v (ty.List type.Operation) (type.List type.Operation) (search (rules, the_lemmas)) has)

-- ---- the order of changes

module _ (P : Change → Type 0) where
  all_inserted : (a : Change) (bs : List Change) → P a → AllByRecursion P bs → AllByRecursion P (insert_change a bs)
  all_inserted a [] first all = (first, tt)
  all_inserted a (b ∷ bs) first all =
      elim (is_gt (change_order a b)) as (λ above. AllByRecursion P (if above then b ∷ insert_change a bs else a ∷ b ∷ bs)) [
        | true ↦ (all.0, all_inserted a bs first all.1)
        | false ↦ (first, all)
      ]

  pub all_in_order : (cs : List Change) → AllByRecursion P cs → AllByRecursion P (in_order cs)
  all_in_order [] all = tt
  all_in_order (c ∷ cs) all = all_inserted c (in_order cs) all.0 (all_in_order cs all.1)

abbrev change_place : Change → ℕ
change_place c = c.0

abbrev change_key : Change → Val
change_key c = c.1

total_changes : IsTotalOrder change_order
total_changes = then_total (on_total change_place nat_cmp_total) (on_total change_key total)

not_above : (r : Ordering) → is_gt r ≡ true → not (is_gt (ordering_reverse r)) ≡ true
not_above Less above = absurd cc
not_above Equal above = absurd cc
not_above Greater above = refl

below_it : (a b : Change) → is_gt (change_order a b) ≡ true → not (is_gt (change_order b a)) ≡ true
below_it a b above = ap (λ r. not (is_gt r)) (total_changes.antisymm b a) ∙ not_above (change_order a b) above

-- the first of some changes isn't below this one
abbrev LeadsTo : Change → List Change → Type 0
LeadsTo b cs = changes_ascend (b ∷ cs) ≡ true

insert_behind : (b a : Change) (cs : List Change) → not (is_gt (change_order b a)) ≡ true → LeadsTo b cs → changes_ascend (insert_change a cs) ≡ true → LeadsTo b (insert_change a cs)
insert_behind b a [] below leads up = both_true (not (is_gt (change_order b a))) true below refl
insert_behind b a (c ∷ cs) below leads up =
    elim (is_gt (change_order a c)) as (λ above. changes_ascend (if above then c ∷ insert_change a cs else a ∷ c ∷ cs) ≡ true → LeadsTo b (if above then c ∷ insert_change a cs else a ∷ c ∷ cs)) [
      | true ↦ λ rest. both_true (not (is_gt (change_order b c))) _ (first_true (not (is_gt (change_order b c))) _ leads) rest
      | false ↦ λ rest. both_true (not (is_gt (change_order b a))) _ below rest
    ] up

tail_ascends : (b : Change) (cs : List Change) → changes_ascend (b ∷ cs) ≡ true → changes_ascend cs ≡ true
tail_ascends b [] up = refl
tail_ascends b (c ∷ cs) up = second_true (not (is_gt (change_order b c))) _ up

inserted_ascends : (a : Change) (bs : List Change) → changes_ascend bs ≡ true → changes_ascend (insert_change a bs) ≡ true
inserted_ascends a [] up = refl
inserted_ascends a (b ∷ bs) up =
    elim (is_gt (change_order a b)) as (λ above. is_gt (change_order a b) ≡ above → changes_ascend (if above then b ∷ insert_change a bs else a ∷ b ∷ bs) ≡ true) [
      | true ↦ λ is. insert_behind b a bs (below_it a b is) up (inserted_ascends a bs (tail_ascends b bs up))
      | false ↦ λ is. both_true (not (is_gt (change_order a b))) (changes_ascend (b ∷ bs)) (ap not is) up
    ] refl

pub in_order_ascends : (cs : List Change) → changes_ascend (in_order cs) ≡ true
in_order_ascends [] = refl
in_order_ascends (c ∷ cs) = inserted_ascends c (in_order cs) (in_order_ascends cs)
