-- What a contract returns, item by item.
use Rattle.std.proofs.Common.{◌≡◌, ℕ, List, [], ◌∷◌, ◌++◌, map, refl, sym, ap, ◌∙◌, append_assoc}
use Rattle.std.specs.List.{flat_map}
use Rattle.std.proofs.lemmas.List.Concat.{flat_map-cons}
use Rattle.value_core.specs.declared.val.Val.{Val}
use Rattle.value_core.specs.declared.val.Val.TheOpen as is
use Rattle.value_core.specs.declared.val.Val.TheVariants as value
use Rattle.value_core.specs.declared.val.Val.TheVariants.{rolls-List, rolls-Map, rolls-Set}
use Rattle.value_core.specs.declared.val.Val.TheFolds.{fold-roll-Val}
use Rattle.value_core.specs.Layer.{as_emit, flat}
use Rattle.michelson_rules.specs.Returned.{big_maps_in}
use Rattle.michelson_machine.specs.Ends.{big_maps_of_entry}

-- one after another, of lists that are made of items
flat_ids : (vs : List Val) → flat_map (λ (ms : List (ℕ × ℕ)). ms) (map big_maps_in vs) ≡ flat_map big_maps_in vs
flat_ids [] = refl
flat_ids (v ∷ vs) =
    flat_map-cons (λ (ms : List (ℕ × ℕ)). ms) (big_maps_in v) (map big_maps_in vs) ∙ ap (λ ms. big_maps_in v ++ ms) (flat_ids vs)
    ∙ sym (flat_map-cons big_maps_in v vs)

-- the same of entries
abbrev both : Val × Val → List (ℕ × ℕ) × List (ℕ × ℕ)
both e = (big_maps_in e.0, big_maps_in e.1)

flat_entries : (es : List (Val × Val)) → flat_map (λ (ms : List (ℕ × ℕ)). ms) (flat (map both es)) ≡ flat_map big_maps_of_entry es
flat_entries [] = refl
flat_entries (e ∷ es) =
    let id : List (ℕ × ℕ) → List (ℕ × ℕ) = λ ms. ms in
    flat_map-cons id (big_maps_in e.0) (big_maps_in e.1 ∷ flat (map both es))
    ∙ ap (λ ms. big_maps_in e.0 ++ ms) (flat_map-cons id (big_maps_in e.1) (flat (map both es)) ∙ ap (λ ms. big_maps_in e.1 ++ ms) (flat_entries es))
    ∙ sym (append_assoc (big_maps_in e.0) (big_maps_in e.1) (flat_map big_maps_of_entry es)) ∙ sym (flat_map-cons big_maps_of_entry e es)

-- the big maps of a list, a set and a map
pub maps_of_list : (vs : List Val) → big_maps_in (value.List vs) ≡ flat_map big_maps_in vs
maps_of_list vs = ap big_maps_in (sym (rolls-List vs)) ∙ fold-roll-Val _ _ _ as_emit (is.List vs) ∙ flat_ids vs

pub maps_of_set : (vs : List Val) → big_maps_in (value.Set vs) ≡ flat_map big_maps_in vs
maps_of_set vs = ap big_maps_in (sym (rolls-Set vs)) ∙ fold-roll-Val _ _ _ as_emit (is.Set vs) ∙ flat_ids vs

pub maps_of_map : (es : List (Val × Val)) → big_maps_in (value.Map es) ≡ flat_map big_maps_of_entry es
maps_of_map es = ap big_maps_in (sym (rolls-Map es)) ∙ fold-roll-Val _ _ _ as_emit (is.Map es) ∙ flat_entries es

pub ruleset maps_of_lists = (maps_of_list, maps_of_set, maps_of_map)
