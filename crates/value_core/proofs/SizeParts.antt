-- Sizes count what a value holds, and its parts are no larger.
use Rattle.std.proofs.Common.{◌≡◌, ℕ, ◌+◌, ◌<◌, ◌≤◌, List, [], ◌∷◌, length, sum_by, refl, ap, sym, ◌∙◌, arith}
use Rattle.std.specs.List.{AllByRecursion}
use Rattle.std.proofs.lemmas.List.Sums.{sum-map, sum_by-cons}
use Rattle.value_core.specs.declared.val.Val.{Val}
use Rattle.value_core.specs.declared.val.Val.TheVariants as value
use Rattle.value_core.specs.declared.val.Val.TheOpen as one
use Rattle.value_core.specs.declared.val.Val.TheViews.{out-Val}
use Rattle.value_core.specs.Layer.{Layer, flat, on_parts, parts_of}
use Rattle.value_core.specs.Size.{entry_size, level_size, size_of}
use Rattle.value_core.proofs.Levels.{by_level-is, by_level-roll}
use Rattle.value_core.proofs.Sizes.{size-list, size-map, size-set}
use Rattle.value_core.proofs.SizeLaws.{size_of-≥1}

-- ---- counts

items_count : (vs : List Val) → length vs ≤ sum_by size_of vs
items_count [] = omega arith
items_count (v ∷ vs) = omega (arith, sum_by-cons size_of v vs, size_of-≥1 v, items_count vs)

entries_count : (es : List (Val × Val)) → length es ≤ sum_by entry_size es
entries_count [] = omega arith
entries_count (e ∷ es) = omega (arith, sum_by-cons entry_size e es, size_of-≥1 e.0, entries_count es)

pub list_counts : (vs : List Val) → length vs < size_of (value.List vs)
list_counts vs = omega (arith, size-list vs, items_count vs)

pub set_counts : (vs : List Val) → length vs < size_of (value.Set vs)
set_counts vs = omega (arith, size-set vs, items_count vs)

pub map_counts : (es : List (Val × Val)) → length es < size_of (value.Map es)
map_counts es = omega (arith, size-map es, entries_count es)

-- ---- parts

below : (n : ℕ) (vs : List Val) → sum_by size_of vs ≤ n → AllByRecursion (λ part. size_of part ≤ n) vs
below n [] h = tt
below n (v ∷ vs) h = (omega (arith, h, sum_by-cons size_of v vs), below n vs (omega (arith, h, sum_by-cons size_of v vs)))

flat_sum : (es : List (Val × Val)) → sum_by size_of (flat es) ≡ sum_by entry_size es
flat_sum [] = refl
flat_sum (e ∷ es) =
    let first : sum_by size_of (e.0 ∷ e.1 ∷ flat es) ≡ size_of e.0 + sum_by size_of (e.1 ∷ flat es) = sum_by-cons size_of e.0 (e.1 ∷ flat es) in
    omega (arith, first, sum_by-cons size_of e.1 (flat es), flat_sum es, sum_by-cons entry_size e es)

map_sum : (es : List (Val × Val)) → level_size (on_parts size_of (one.Map es)) ≡ 1 + sum_by entry_size es
map_sum es = sym (by_level-roll level_size (one.Map es)) ∙ ap size_of (value.rolls-Map es) ∙ size-map es

level_holds : (x : Layer Val) → sum_by size_of (parts_of x) ≤ level_size (on_parts size_of x)
level_holds (one.Some part) = omega (arith, sum_by-cons size_of part [])
level_holds (one.Left part) = omega (arith, sum_by-cons size_of part [])
level_holds (one.Right part) = omega (arith, sum_by-cons size_of part [])
level_holds (one.Pair a b) = omega (arith, sum_by-cons size_of a (b ∷ []), sum_by-cons size_of b [])
level_holds (one.List items) = omega (arith, sum-map size_of items)
level_holds (one.Set items) = omega (arith, sum-map size_of items)
level_holds (one.Map entries) = omega (arith, map_sum entries, flat_sum entries)
level_holds (one.Operation emit) = omega (arith, sum_by-cons size_of emit.param [])
level_holds _ = omega arith

pub parts_are_within : (v : Val) → AllByRecursion (λ part. size_of part ≤ size_of v) (parts_of (out-Val v))
parts_are_within v = below (size_of v) (parts_of (out-Val v)) (omega (arith, level_holds (out-Val v), by_level-is level_size v))
