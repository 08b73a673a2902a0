-- The sizes of lists, sets and maps, by what they hold.
use Rattle.std.proofs.Common.{◌≡◌, ℕ, ◌+◌, List, [], ◌∷◌, map, sum_by, refl, ap, sym, ◌∙◌}
use Rattle.std.proofs.lemmas.List.Sums.{sum-map, sum_by-cons}
use Rattle.value_core.specs.declared.val.Val.{Val}
use Rattle.value_core.specs.declared.val.Val.TheVariants as variant
use Rattle.value_core.specs.declared.val.Val.TheVariants.{rolls-List, rolls-Set, rolls-Map}
use Rattle.value_core.specs.declared.val.Val.TheOpen as one
use Rattle.value_core.proofs.Levels.{by_level-roll}
use Rattle.value_core.specs.Size.{entry_size, level_size, size_of}

abbrev sizes : Val × Val → ℕ × ℕ
sizes e = (size_of e.0, size_of e.1)

sum_by-sizes : (es : List (Val × Val)) → sum_by (λ e. e.0 + e.1) (map sizes es) ≡ sum_by entry_size es
sum_by-sizes [] = refl
sum_by-sizes (e ∷ es) = sum_by-cons (λ (s : ℕ × ℕ). s.0 + s.1) (sizes e) (map sizes es) ∙ ap (λ n. entry_size e + n) (sum_by-sizes es) ∙ sym (sum_by-cons entry_size e es)

pub size-list : (vs : List Val) → size_of (variant.List vs) ≡ 1 + sum_by size_of vs
size-list vs = ap size_of (sym (rolls-List vs)) ∙ by_level-roll level_size (one.List vs) ∙ ap (λ n. 1 + n) (sum-map size_of vs)

pub size-set : (vs : List Val) → size_of (variant.Set vs) ≡ 1 + sum_by size_of vs
size-set vs = ap size_of (sym (rolls-Set vs)) ∙ by_level-roll level_size (one.Set vs) ∙ ap (λ n. 1 + n) (sum-map size_of vs)

pub size-map : (es : List (Val × Val)) → size_of (variant.Map es) ≡ 1 + sum_by entry_size es
size-map es = ap size_of (sym (rolls-Map es)) ∙ by_level-roll level_size (one.Map es) ∙ ap (λ n. 1 + n) (sum_by-sizes es)
