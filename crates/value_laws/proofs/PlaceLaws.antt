-- The big maps of a type stand on its path of pairs; those of a value stand at their own places where these are numbered from the left.
use Rattle.std.proofs.Common.{◌≡◌, ◌↔◌, ℕ, zero, suc, ◌+◌, Bool, true, List, [], ◌∷◌, ◌++◌, length, take, drop, refl, ap, sym, ◌∙◌, arith, length-append, add-zero}
use Rattle.std.specs.List.{range_with_len}
use Rattle.std.proofs.lemmas.List.FromFn.{length-range_with_len}
use Rattle.std.proofs.Math.Seq.{drop-append_seam, take-append_seam}
use Rattle.std.proofs.lemmas.Bool.{eq-eqb, eqb-true}
use Rattle.value_core.specs.declared.val.Val.{Val}
use Rattle.value_core.specs.declared.val.Val.TheOpen as one
use Rattle.value_core.specs.declared.val.Val.TheViews.{out-Val}
use Rattle.value_core.specs.declared.ty.Ty.{Ty}
use Rattle.value_core.specs.declared.ty.Ty.TheOpen as ty
use Rattle.value_core.specs.declared.ty.Ty.TheVariants as kind
use Rattle.value_core.specs.declared.ty.Ty.TheOpen.{Ty-F}
use Rattle.value_core.specs.declared.ty.Ty.TheViews.{out-Ty, roll-Ty}
use Rattle.value_core.specs.declared.ty.Ty.TheFolds.{fold-Ty, map-Ty}
use Rattle.value_core.specs.Layer.{Layer, on_parts}
use Rattle.value_core.specs.BigMaps.{Beside, Placing, beside_level, big_maps_here, big_maps_of, is_at_place, is_placed, is_placed_pair, place_of, places_in_pair, places_level, places_of, placing, placing_level}
use Rattle.value_core.specs.TypeLevels.{Each, fold-at, induction, roll-out, shows_big_map, shows_pair, types_in}
use Rattle.value_core.specs.Typed.{fits, fits_level}
use Rattle.value_core.proofs.Bools.{both_true, first_true, second_true}
use Rattle.value_core.proofs.Levels.{by_level-is}

-- ---- those of a type

-- a type stands beside its own big maps
abbrev StaysBeside : Ty → Type 0
StaysBeside t = (fold-Ty Beside beside_level t).0 ≡ t

stays_here : (x : Ty-F Ty) → Each StaysBeside (types_in x) → (beside_level (map-Ty Ty Beside (fold-Ty Beside beside_level) x)).0 ≡ roll-Ty x
stays_here (ty.Option t) h = λ i. roll-Ty (ty.Option (h.0 i))
stays_here (ty.Or s t) h = λ i. roll-Ty (ty.Or (h.0 i) (h.1.0 i))
stays_here (ty.Pair s t) h = λ i. roll-Ty (ty.Pair (h.0 i) (h.1.0 i))
stays_here (ty.List t) h = λ i. roll-Ty (ty.List (h.0 i))
stays_here (ty.Set t) h = λ i. roll-Ty (ty.Set (h.0 i))
stays_here (ty.Map k w) h = λ i. roll-Ty (ty.Map (h.0 i) (h.1.0 i))
stays_here (ty.BigMap k w) h = λ i. roll-Ty (ty.BigMap (h.0 i) (h.1.0 i))
stays_here (ty.Contract t) h = λ i. roll-Ty (ty.Contract (h.0 i))
stays_here _ h = refl

stays_beside : (t : Ty) → StaysBeside t
stays_beside = induction StaysBeside (λ t h.
    ap (λ (b : Beside). b.0) (fold-at beside_level t (out-Ty t) refl) ∙ stays_here (out-Ty t) h ∙ roll-out t)

pub maps_of-pair : (s t : Ty) → big_maps_of (kind.Pair s t) ≡ big_maps_of s ++ big_maps_of t
maps_of-pair s t = ap (λ (b : Beside). b.1) (fold-at beside_level (kind.Pair s t) (ty.Pair s t) (shows_pair s t))

pub maps_of-big_map : (k w : Ty) → big_maps_of (kind.BigMap k w) ≡ (k, w) ∷ []
maps_of-big_map k w =
    ap (λ (b : Beside). b.1) (fold-at beside_level (kind.BigMap k w) (ty.BigMap k w) (shows_big_map k w))
    ∙ (λ i. (stays_beside k i, stays_beside w i) ∷ [])

-- ---- how many there are

abbrev IsCounted : Ty → Type 0
IsCounted t = (placing t).0 ≡ length (big_maps_of t)

counted_here : (x : Ty-F Ty) → Each IsCounted (types_in x) →
    (placing_level (map-Ty Ty Placing placing x)).0 ≡ length (big_maps_here (map-Ty Ty Beside (fold-Ty Beside beside_level) x))
counted_here (ty.Pair s t) h = (λ i. h.0 i + h.1.0 i) ∙ sym (length-append (big_maps_of s) (big_maps_of t))
counted_here (ty.BigMap k w) h = refl
counted_here _ h = refl

pub counted : (t : Ty) → (placing t).0 ≡ length (big_maps_of t)
counted = induction IsCounted (λ t h.
    ap (λ (p : Placing). p.0) (fold-at placing_level t (out-Ty t) refl) ∙ counted_here (out-Ty t) h
    ∙ sym (ap (λ (b : Beside). length b.1) (fold-at beside_level t (out-Ty t) refl)))

-- ---- numbers from a first one on

range-add : (first m n : ℕ) → range_with_len first (m + n) ≡ range_with_len first m ++ range_with_len (first + m) n
range-add first zero n = (λ i. range_with_len (sym (add-zero first) i) (let none : 0 + n ≡ n = omega arith in none i))
range-add first (suc m) n =
    let more : suc m + n ≡ suc (m + n) = omega arith in
    let same : (first + 1) + m ≡ first + suc m = omega arith in
    ap (range_with_len first) more ∙ ap (λ l. first ∷ l) (range-add (first + 1) m n ∙ ap (λ k. range_with_len (first + 1) m ++ range_with_len k n) same)

-- equal lists whose fronts are equally long have equal fronts and equal ends
parted : {A : Type 0} (a b c d : List A) → length a ≡ length c → a ++ b ≡ c ++ d → (a ≡ c) × (b ≡ d)
parted a b c d long same = (
  sym (take-append_seam a b) ∙ (λ i. take (long i) (same i)) ∙ take-append_seam c d,
  sym (drop-append_seam a b) ∙ (λ i. drop (long i) (same i)) ∙ drop-append_seam c d,
)

-- ---- places

-- so many places, which are numbered from a first one on exactly where the value is placed from there on
record IsNumbered (n : ℕ) (places : List ℕ) (stands : ℕ → Bool) : Type 0 where
  many : length places ≡ n
  numbered : (first : ℕ) → stands first ≡ true → places ≡ range_with_len first n
  placed : (first : ℕ) → places ≡ range_with_len first n → stands first ≡ true

abbrev IsPlaced : Ty → Type 0
IsPlaced t = (v : Val) → fits v t ≡ true → IsNumbered (placing t).0 (places_of t v) (λ first. (placing t).1 first v)

pair_here : (s t : Ty) → IsPlaced s → IsPlaced t → (y : Layer Val) → fits_level (on_parts fits y) (ty.Pair s t) ≡ true →
    IsNumbered ((placing s).0 + (placing t).0) (places_in_pair (places_of s) (places_of t) y) (λ first. is_placed_pair (placing s) (placing t) first y)
pair_here s t left right (one.Pair a b) fit =
    let l = left a (first_true (fits a s) _ fit) in
    let r = right b (second_true (fits a s) _ fit) in
    let m = (placing s).0 in
    let n = (placing t).0 in
    record {
      many = length-append (places_of s a) (places_of t b) ∙ (λ i. l.many i + r.many i);
      numbered = λ first stands.
          (λ i. l.numbered first (first_true ((placing s).1 first a) _ stands) i ++ r.numbered (first + m) (second_true ((placing s).1 first a) _ stands) i)
          ∙ sym (range-add first m n);
      placed = λ first same.
          let parts = parted (places_of s a) (places_of t b) (range_with_len first m) (range_with_len (first + m) n)
          (l.many ∙ sym (length-range_with_len first m)) (same ∙ range-add first m n) in
          both_true ((placing s).1 first a) _ (l.placed first parts.0) (r.placed (first + m) parts.1);
    }
pair_here s t left right _ fit = absurd cc

head_is : (a b : ℕ) → a ∷ [] ≡ b ∷ [] → a ≡ b
head_is a b e = cc

map_here : (k w : Ty) (y : Layer Val) → fits_level (on_parts fits y) (ty.BigMap k w) ≡ true →
    IsNumbered 1 (place_of y) (λ first. is_at_place first y)
map_here k w (one.BigMap place version) fit = record {
  many = refl;
  numbered = λ first stands. ap (λ p. p ∷ []) (eqb-true place first stands);
  placed = λ first same. eq-eqb place first (head_is place first same);
}
map_here k w _ fit = absurd cc

here : (x : Ty-F Ty) → Each IsPlaced (types_in x) → (v : Val) → fits_level (on_parts fits (out-Val v)) x ≡ true →
    IsNumbered (placing_level (map-Ty Ty Placing placing x)).0 (places_level (map-Ty Ty (Val → List ℕ) places_of x) v)
    (λ first. (placing_level (map-Ty Ty Placing placing x)).1 first v)
here (ty.Pair s t) h v fit = pair_here s t h.0 h.1.0 (out-Val v) fit
here (ty.BigMap k w) h v fit = map_here k w (out-Val v) fit
here _ h v fit = record { many = refl; numbered = λ first stands. refl; placed = λ first same. refl }

placed_is_numbered : (t : Ty) → IsPlaced t
placed_is_numbered = induction IsPlaced (λ t h v fit.
    let level = here (out-Ty t) h v (sym (ap (λ f. f t) (by_level-is {A = Ty → Bool} (λ x u. fits_level x (out-Ty u)) v)) ∙ fit) in
    let kinds = fold-at placing_level t (out-Ty t) refl in
    let places = ap (λ (f : Val → List ℕ). f v) (fold-at places_level t (out-Ty t) refl) in
    record {
      many = ap length places ∙ level.many ∙ ap (λ (p : Placing). p.0) (sym kinds);
      numbered = λ first stands. places ∙ level.numbered first (ap (λ (p : Placing). p.1 first v) (sym kinds) ∙ stands) ∙ ap (λ (p : Placing). range_with_len first p.0) (sym kinds);
      placed = λ first same. ap (λ (p : Placing). p.1 first v) kinds ∙ level.placed first (sym places ∙ same ∙ ap (λ (p : Placing). range_with_len first p.0) kinds);
    })

-- ---- the laws

pub each_has_one : (v : Val) (t : Ty) → fits v t ≡ true → length (places_of t v) ≡ length (big_maps_of t)
each_has_one v t fit = (placed_is_numbered t v fit).many ∙ counted t

pub numbered_from_the_left : (v : Val) (t : Ty) → fits v t ≡ true → (is_placed v t ≡ true) ↔ (places_of t v ≡ range_with_len 0 (length (big_maps_of t)))
numbered_from_the_left v t fit =
    let numbers = placed_is_numbered t v fit in (
      λ stands. numbers.numbered 0 stands ∙ ap (range_with_len 0) (counted t),
      λ same. numbers.placed 0 (same ∙ ap (range_with_len 0) (sym (counted t))),
    )
