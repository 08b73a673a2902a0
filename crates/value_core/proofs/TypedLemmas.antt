-- Which lists, sets and maps are built as a type is.
use Rattle.std.proofs.Common.{◌≡◌, Bool, List, map, ap, sym, ◌∙◌, rules}
use Rattle.std.specs.Prelude.{◌&&◌}
use Rattle.std.specs.List.{list_all}
use Rattle.std.proofs.lemmas.List.Folds.{list_all-map}
use Rattle.value_core.specs.declared.val.Val.{Val}
use Rattle.value_core.specs.declared.val.Val.TheVariants as variant
use Rattle.value_core.specs.declared.val.Val.TheVariants.{rolls-List, rolls-Set, rolls-Map}
use Rattle.value_core.specs.declared.val.Val.TheOpen as one
use Rattle.value_core.specs.declared.val.Val.TheViews.{roll-Val}
use Rattle.value_core.specs.declared.ty.Ty.{Ty}
use Rattle.value_core.specs.declared.ty.Ty.TheVariants as kind
use Rattle.value_core.specs.declared.ty.Ty.TheOpen as ty
use Rattle.value_core.specs.declared.ty.Ty.TheViews.{out-Ty, the_lemmas}
use Rattle.value_core.specs.Layer.{Layer, on_parts}
use Rattle.value_core.specs.Typed.{fits, fits_level}
use Rattle.value_core.proofs.Levels.{by_level-roll}

abbrev both : Val × Val → (Ty → Bool) × (Ty → Bool)
both e = (fits e.0, fits e.1)

fits-roll : (x : Layer Val) (t : Ty) → fits (roll-Val x) t ≡ fits_level (on_parts fits x) (out-Ty t)
fits-roll x t = ap (λ f. f t) (by_level-roll {A = Ty → Bool} (λ x t. fits_level x (out-Ty t)) x)

shows_list : (t : Ty) → out-Ty (kind.List t) ≡ ty.List t
shows_list t = search (rules, the_lemmas)

shows_set : (t : Ty) → out-Ty (kind.Set t) ≡ ty.Set t
shows_set t = search (rules, the_lemmas)

shows_map : (k v : Ty) → out-Ty (kind.Map k v) ≡ ty.Map k v
shows_map k v = search (rules, the_lemmas)

pub fits-list : (vs : List Val) (t : Ty) → fits (variant.List vs) (kind.List t) ≡ list_all (λ v. fits v t) vs
fits-list vs t = ap (λ v. fits v (kind.List t)) (sym (rolls-List vs)) ∙ fits-roll (one.List vs) (kind.List t) ∙
    ap (fits_level (one.List (map fits vs))) (shows_list t) ∙ list_all-map (λ (f : Ty → Bool). f t) fits vs

pub fits-set : (vs : List Val) (t : Ty) → fits (variant.Set vs) (kind.Set t) ≡ list_all (λ v. fits v t) vs
fits-set vs t = ap (λ v. fits v (kind.Set t)) (sym (rolls-Set vs)) ∙ fits-roll (one.Set vs) (kind.Set t) ∙
    ap (fits_level (one.Set (map fits vs))) (shows_set t) ∙ list_all-map (λ (f : Ty → Bool). f t) fits vs

pub fits-map : (es : List (Val × Val)) (k v : Ty) → fits (variant.Map es) (kind.Map k v) ≡ list_all (λ e. fits e.0 k && fits e.1 v) es
fits-map es k v = ap (λ m. fits m (kind.Map k v)) (sym (rolls-Map es)) ∙ fits-roll (one.Map es) (kind.Map k v) ∙
    ap (fits_level (one.Map (map both es))) (shows_map k v) ∙ list_all-map (λ (e : (Ty → Bool) × (Ty → Bool)). e.0 k && e.1 v) both es
