-- A storage without big maps stays as it is.
use Rattle.std.proofs.Common.{◌≡◌, true, List, [], ◌∷◌, map, refl, ap, sym, ◌∙◌}
use Rattle.std.specs.List.{list_all}
use Rattle.value_core.specs.declared.val.Val.{Val}
use Rattle.value_core.specs.declared.val.Emit.{Emit}
use Rattle.value_core.specs.declared.val.Val.TheOpen as is
use Rattle.value_core.specs.declared.val.Val.TheViews.{out-Val, roll-Emit, roll-Val}
use Rattle.value_core.specs.declared.val.Val.TheFolds.{fold-Emit, fold_out-Emit, fold_out-Val, map-Val}
use Rattle.value_core.specs.BigMaps.{has_no_big_map, is_no_big_map}
use Rattle.value_core.specs.Layer.{Layer, flat, parts_of}
use Rattle.value_core.proofs.Bools.{first_true, second_true}
use Rattle.value_core.proofs.Everywhere.{everywhere-is}
use Rattle.value_core.proofs.Levels.{Each, induction, roll-out}
use Rattle.michelson_rules.specs.Returned.{unversioned, unversioned_level}

abbrev Stays : Val → Type 0
Stays v = has_no_big_map v ≡ true → unversioned v ≡ v

abbrev unversioned_emit : Emit → Emit
unversioned_emit = fold-Emit Val Emit unversioned_level (λ e. roll-Emit e)

abbrev entry_unversioned : Val × Val → Val × Val
entry_unversioned e = (unversioned e.0, unversioned e.1)

-- the first of some values, and the others
first : (v : Val) (vs : List Val) → list_all has_no_big_map (v ∷ vs) ≡ true → has_no_big_map v ≡ true
first v vs none = first_true (has_no_big_map v) (list_all has_no_big_map vs) none

others : (v : Val) (vs : List Val) → list_all has_no_big_map (v ∷ vs) ≡ true → list_all has_no_big_map vs ≡ true
others v vs none = second_true (has_no_big_map v) (list_all has_no_big_map vs) none

items_stay : (vs : List Val) → Each Stays vs → list_all has_no_big_map vs ≡ true → map unversioned vs ≡ vs
items_stay [] stay none = refl
items_stay (v ∷ vs) stay none = λ i. stay.0 (first v vs none) i ∷ items_stay vs stay.1 (others v vs none) i

entries_stay : (es : List (Val × Val)) → Each Stays (flat es) → list_all has_no_big_map (flat es) ≡ true → map entry_unversioned es ≡ es
entries_stay [] stay none = refl
entries_stay (e ∷ es) stay none =
    let behind = others e.0 (e.1 ∷ flat es) none in
    λ i. (stay.0 (first e.0 (e.1 ∷ flat es) none) i, stay.1.0 (first e.1 (flat es) behind) i) ∷ entries_stay es stay.1.1 (others e.1 (flat es) behind) i

level_stays : (x : Layer Val) → Each Stays (parts_of x) → is_no_big_map x ≡ true → list_all has_no_big_map (parts_of x) ≡ true →
    unversioned_level (map-Val Val Emit Val Emit unversioned unversioned_emit x) ≡ roll-Val x
level_stays (is.Some part) stay here none = λ i. roll-Val (is.Some (stay.0 (first part [] none) i))
level_stays (is.Left part) stay here none = λ i. roll-Val (is.Left (stay.0 (first part [] none) i))
level_stays (is.Right part) stay here none = λ i. roll-Val (is.Right (stay.0 (first part [] none) i))
level_stays (is.Pair a b) stay here none = λ i. roll-Val (is.Pair (stay.0 (first a (b ∷ []) none) i) (stay.1.0 (first b [] (others a (b ∷ []) none)) i))
level_stays (is.List items) stay here none = λ i. roll-Val (is.List (items_stay items stay none i))
level_stays (is.Set items) stay here none = λ i. roll-Val (is.Set (items_stay items stay none i))
level_stays (is.Map entries) stay here none = λ i. roll-Val (is.Map (entries_stay entries stay none i))
level_stays (is.BigMap place version) stay here none = absurd cc
level_stays (is.Operation emit) stay here none =
    ap (λ e. roll-Val (is.Operation e)) (fold_out-Emit Val Emit unversioned_level (λ e. roll-Emit e) emit)
    ∙ λ i. roll-Val (is.Operation (record { dest = emit.dest; entry = emit.entry; param = stay.0 (first emit.param [] none) i; amount = emit.amount }))
level_stays _ stay here none = refl

pub stays : (v : Val) → has_no_big_map v ≡ true → unversioned v ≡ v
stays = induction Stays (λ v each none.
    let level = sym (everywhere-is is_no_big_map v) ∙ none in
    fold_out-Val Val Emit unversioned_level (λ e. roll-Emit e) v
    ∙ level_stays (out-Val v) each (first_true (is_no_big_map (out-Val v)) _ level) (second_true (is_no_big_map (out-Val v)) _ level) ∙ roll-out v)
