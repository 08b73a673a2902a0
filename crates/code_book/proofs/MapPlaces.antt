-- The big map at a place of a type, by the types that it is a pair of.
use Rattle.std.proofs.Common.{◌≡◌, ◌≢◌, ℕ, zero, suc, ◌+◌, ◌-◌, ◌^◌, ◌<◌, ◌≤◌, min, List, [], ◌∷◌, ◌++◌, length, Option, Some, None, refl, sym, ap, ◌∙◌, arith, zero-add}
use Rattle.std.specs.Prelude.{slice_get, MatchOption}
use Rattle.std.specs.Borrow.{Bor}
use Rattle.std.proofs.lemmas.Option.{slice_get_past}
use Rattle.value_core.specs.declared.ty.Ty.{Ty}
use Rattle.value_core.specs.declared.ty.Ty.TheVariants as kind
use Rattle.value_core.specs.BigMaps.{big_maps_of}
use Rattle.value_core.proofs.BigMapLemmas.{no_maps}
use Rattle.value_laws.proofs.PlaceLaws.{maps_of-pair, maps_of-big_map}

get-front : {A : Type 0} (xs ys : List A) (i : ℕ) → i < length xs → slice_get (xs ++ ys) i ≡ slice_get xs i
get-front [] ys i lt = absurd (omega arith)
get-front (x ∷ xs) ys zero lt = refl
get-front (x ∷ xs) ys (suc i) lt = get-front xs ys i (omega arith)

get-behind : {A : Type 0} (xs ys : List A) (i : ℕ) → slice_get (xs ++ ys) (length xs + i) ≡ slice_get ys i
get-behind [] ys i = ap (slice_get ys) (zero-add i)
get-behind (x ∷ xs) ys i = let next : suc (length xs) + i ≡ suc (length xs + i) = omega arith in ap (slice_get ((x ∷ xs) ++ ys)) next ∙ get-behind xs ys i

maps_of : (t s u : Ty) (i : ℕ) → t ≡ kind.Pair s u → slice_get (big_maps_of t) i ≡ slice_get (big_maps_of s ++ big_maps_of u) i
maps_of t s u i is = ap (λ (x : Ty). slice_get (big_maps_of x) i) is ∙ ap (λ maps. slice_get maps i) (maps_of-pair s u)

-- what stands at a place of a pair stands there in its first part, or behind that in the second
pub in_first : (t s u x y : Ty) (i n : ℕ) → t ≡ kind.Pair s u → x ≡ s → y ≡ s → n ≡ min (length (big_maps_of x)) (2 ^ 64 - 1) → i < n → slice_get (big_maps_of t) i ≡ slice_get (big_maps_of y) i
in_first t s u x y i n is first again count before =
    let same : length (big_maps_of x) ≡ length (big_maps_of s) = ap (λ (z : Ty). length (big_maps_of z)) first in
    maps_of t s u i is ∙ get-front (big_maps_of s) (big_maps_of u) i (omega (arith, count, same)) ∙ ap (λ (z : Ty). slice_get (big_maps_of z) i) (sym again)

pub in_second : (t s u x y : Ty) (i n : ℕ) → t ≡ kind.Pair s u → x ≡ s → y ≡ u → n ≡ min (length (big_maps_of x)) (2 ^ 64 - 1) → n ≤ i → i < 256 → slice_get (big_maps_of t) i ≡ slice_get (big_maps_of y) (i - n)
in_second t s u x y i n is first second count behind small =
    let same : length (big_maps_of x) ≡ length (big_maps_of s) = ap (λ (z : Ty). length (big_maps_of z)) first in
    let at : i ≡ length (big_maps_of s) + (i - n) = omega (arith, count, same) in
    maps_of t s u i is ∙ ap (slice_get (big_maps_of s ++ big_maps_of u)) at ∙ get-behind (big_maps_of s) (big_maps_of u) (i - n) ∙ ap (λ (z : Ty). slice_get (big_maps_of z) (i - n)) (sym second)

pub at_map : (t k w x y : Ty) (i : ℕ) → t ≡ kind.BigMap k w → x ≡ k → y ≡ w → i ≡ 0 → slice_get (big_maps_of t) i ≡ Some (x, y)
at_map t k w x y i is key value at = ap (λ (x : Ty). slice_get (big_maps_of x) i) is ∙ ap (λ maps. slice_get maps i) (maps_of-big_map k w) ∙ ap (slice_get ((k, w) ∷ [])) at ∙ (λ j. Some (sym key j, sym value j))

pub past_map : (t k w : Ty) (i : ℕ) → t ≡ kind.BigMap k w → i ≢ 0 → slice_get (big_maps_of t) i ≡ None
past_map t k w i is behind =
    ap (λ (x : Ty). slice_get (big_maps_of x) i) is ∙ ap (λ maps. slice_get maps i) (maps_of-big_map k w) ∙ slice_get_past ((k, w) ∷ []) i (omega (arith, behind))

pub no_map : (t : Ty) (i : ℕ) → ((s u : Ty) → t ≡ kind.Pair s u → ⊥) → ((k w : Ty) → t ≡ kind.BigMap k w → ⊥) → slice_get (big_maps_of t) i ≡ None
no_map t i pair map = ap (λ maps. slice_get maps i) (no_maps t pair map)

-- an answer at one place is one at another where the same stands
pub same_answer : (r : Option (Bor Ty × Bor Ty)) (a b : Option (Ty × Ty)) → b ≡ a → MatchOption r (a ≡ None) (λ m. a ≡ Some (m.0.now, m.1.now)) → MatchOption r (b ≡ None) (λ m. b ≡ Some (m.0.now, m.1.now))
same_answer None a b same h = same ∙ h
same_answer (Some m) a b same h = same ∙ h
