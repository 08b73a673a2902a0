-- What a value is parted into, at pairs, at big maps and elsewhere.
use Rattle.std.proofs.Common.{◌≡◌, ℕ, ◌+◌, List, [], ◌∷◌, ◌++◌, length, refl, sym, ap, subst, ◌∙◌, append_assoc, arith, length-append}
use Rattle.std.specs.Prelude.{IsTrue}
use Rattle.std.proofs.lemmas.Bool.{and_parts}
use Rattle.std.proofs.lemmas.List.{append-nil}
use Rattle.value_core.specs.declared.ty.Ty.{Ty}
use Rattle.value_core.specs.declared.ty.Ty.TheVariants as kind
use Rattle.value_core.specs.declared.ty.Ty.TheOpen as ty
use Rattle.value_core.specs.declared.ty.Ty.TheOpen.{Ty-F}
use Rattle.value_core.specs.declared.ty.Ty.TheViews.{out-Ty}
use Rattle.value_core.specs.declared.ty.Ty.TheFolds.{map-Ty}
use Rattle.value_core.specs.declared.val.Val.{Val}
use Rattle.value_core.specs.declared.val.Val.TheVariants as value
use Rattle.value_core.specs.declared.val.Val.TheOpen as one
use Rattle.value_core.specs.declared.val.Val.TheViews.{out-Val}
use Rattle.value_core.specs.BigMaps.{big_maps_of}
use Rattle.value_core.specs.Combs.{comb}
use Rattle.value_core.specs.Typed.{has_type}
use Rattle.value_core.specs.TypeLevels.{fold-at, rolls_big_map, rolls_pair, shows_big_map, shows_pair}
use Rattle.value_core.proofs.BigMapLemmas.{no_maps}
use Rattle.value_core.proofs.Canonical.{of_map, of_pair}
use Rattle.value_core.proofs.Combs.{one_more_part}
use Rattle.value_core.proofs.Levels.{out-roll}
use Rattle.value_core.proofs.TypeEquations.{has_type-pair}
use Rattle.data_nodes.specs.Parts.{BecomesKept, Parting, onto, part_map, part_pair, parting, parting_level, tagged}
use Rattle.data_nodes.specs.Storage.{Entry, Kept, with_maps}
use Rattle.data_nodes.proofs.StorageTypes.{IsOther, along_pairs, maps-map, maps-pair, with_maps-map, with_maps-pair}

parting-pair : (s u : Ty) → parting (kind.Pair s u) ≡ parting_level (ty.Pair (parting s) (parting u))
parting-pair s u = fold-at parting_level (kind.Pair s u) (ty.Pair s u) (shows_pair s u)

parting-map : (k w : Ty) → parting (kind.BigMap k w) ≡ parting_level (ty.BigMap (parting k) (parting w))
parting-map k w = fold-at parting_level (kind.BigMap k w) (ty.BigMap k w) (shows_big_map k w)

no_parts : (x : Ty-F Ty) → ((s u : Ty) → x ≡ ty.Pair s u → ⊥) → ((k w : Ty) → x ≡ ty.BigMap k w → ⊥) → parting_level (map-Ty Ty Parting parting x) ≡ (0, λ first v. (v, []))
no_parts (ty.Pair s u) p q = absurd (p s u refl)
no_parts (ty.BigMap k w) p q = absurd (q k w refl)
no_parts _ p q = refl

parting-other : (t : Ty) → IsOther t → parting t ≡ (0, λ first v. (v, []))
parting-other t o =
    fold-at parting_level t (out-Ty t) refl ∙ no_parts (out-Ty t) (λ s u e. o.no_pair s u (rolls_pair t s u e)) (λ k w e. o.no_map k w (rolls_big_map t k w e))

-- ---- as many places as big maps

abbrev IsCounted : Ty → Type 0
IsCounted t = (parting t).0 ≡ length (big_maps_of t)

counted : (t : Ty) → IsCounted t
counted = along_pairs IsCounted
    (λ s u left right. omega (arith, left, right, ap (λ (p : Parting). p.0) (parting-pair s u), ap length (maps-pair s u), length-append (big_maps_of s) (big_maps_of u)))
    (λ k w. ap (λ (p : Parting). p.0) (parting-map k w) ∙ sym (ap length (maps-map k w)))
    (λ t o. ap (λ (p : Parting). p.0) (parting-other t o) ∙ sym (ap length (no_maps t o.no_pair o.no_map)))

pub count-pair : (t s u : Ty) → t ≡ kind.Pair s u → length (big_maps_of t) ≡ length (big_maps_of s) + length (big_maps_of u)
count-pair t s u e = ap (λ (r : Ty). length (big_maps_of r)) e ∙ ap length (maps-pair s u) ∙ length-append (big_maps_of s) (big_maps_of u)

count-map : (t k w : Ty) → t ≡ kind.BigMap k w → length (big_maps_of t) ≡ 1
count-map t k w e = ap (λ (r : Ty). length (big_maps_of r)) e ∙ ap length (maps-map k w)

count-other : (t : Ty) → IsOther t → length (big_maps_of t) ≡ 0
count-other t o = ap length (no_maps t o.no_pair o.no_map)

-- ---- what values are parted into

pub shown_pair : (a b : Val) → out-Val (value.Pair a b) ≡ one.Pair a b
shown_pair a b = ap out-Val (sym (value.rolls-Pair a b)) ∙ out-roll (one.Pair a b)

pub shown_map : (es : List (Val × Val)) → out-Val (value.Map es) ≡ one.Map es
shown_map es = ap out-Val (sym (value.rolls-Map es)) ∙ out-roll (one.Map es)

-- a pair of what its parts are parted into, and their entries one behind the other
abbrev pub joined : Kept → Kept → Kept
joined x y = (value.Pair x.0 y.0, x.1 ++ y.1)

pub parted-pair : (s u : Ty) (first : ℕ) (a b : Val) →
    (parting (kind.Pair s u)).1 first (value.Pair a b) ≡ joined ((parting s).1 first a) ((parting u).1 (first + length (big_maps_of s)) b)
parted-pair s u first a b =
    ap (λ (p : Parting). p.1 first (value.Pair a b)) (parting-pair s u) ∙ ap (part_pair (parting s) (parting u) first (value.Pair a b)) (shown_pair a b)
    ∙ ap (λ (k : ℕ). joined ((parting s).1 first a) ((parting u).1 (first + k) b)) (counted s)

pub parted-map : (k w : Ty) (place : ℕ) (es : List (Val × Val)) → (parting (kind.BigMap k w)).1 place (value.Map es) ≡ (value.BigMap place 0, tagged place es)
parted-map k w place es =
    ap (λ (p : Parting). p.1 place (value.Map es)) (parting-map k w) ∙ ap (part_map place (value.Map es)) (shown_map es)

pub parted-other : (t : Ty) → IsOther t → (first : ℕ) (v : Val) → (parting t).1 first v ≡ (v, [])
parted-other t o first v = ap (λ (p : Parting). p.1 first v) (parting-other t o)

-- ---- what becomes of a part, behind the entries so far

pair_part : (s u : Ty) (a b : Val) (first next last : ℕ) (x y : Val) (front middle all : List Entry) →
    BecomesKept s a first front x middle next → BecomesKept u b next middle y all last → BecomesKept (kind.Pair s u) (value.Pair a b) first front (value.Pair x y) all last
pair_part s u a b first next last x y front middle all p q =
    let left = (parting s).1 first a in
    let right : Kept = (parting u).1 (first + length (big_maps_of s)) b in
    let same : (parting u).1 next b ≡ right = ap (λ (k : ℕ). (parting u).1 k b) p.1 in
    let x_is : x ≡ left.0 = ap (λ (r : Kept). r.0) p.0 in
    let middle_is : middle ≡ front ++ left.1 = ap (λ (r : Kept). r.1) p.0 in
    let y_is : y ≡ right.0 = ap (λ (r : Kept). r.0) q.0 ∙ ap (λ (r : Kept). r.0) same in
    let all_is : all ≡ front ++ (left.1 ++ right.1) =
    ap (λ (r : Kept). r.1) q.0 ∙ (λ i. middle_is i ++ (same i).1) ∙ append_assoc front left.1 right.1 in (
      (λ i. (value.Pair (x_is i) (y_is i), all_is i)) ∙ ap (onto front) (sym (parted-pair s u first a b)),
      omega (arith, p.1, q.1, count-pair (kind.Pair s u) s u refl),
    )

-- what becomes of all that is left tells what becomes of the whole, behind the first parts of a comb
abbrev pub Tells : Ty → Val → ℕ → List Entry → List Val → Ty → Val → ℕ → List Entry → Type 0
Tells t v first front firsts kind rest next so_far =
    (y : Val) (all : List Entry) (last : ℕ) → BecomesKept kind rest next so_far y all last → BecomesKept t v first front (comb value.Pair firsts y) all last

-- one part more
pub tells_more : (t kind_now s u : Ty) (v rest a b x : Val) (first next place : ℕ) (front so_far middle : List Entry) (firsts : List Val) →
    kind_now ≡ kind.Pair s u → rest ≡ value.Pair a b → Tells t v first front firsts kind_now rest next so_far → BecomesKept s a next so_far x middle place →
    Tells t v first front (firsts ++ x ∷ []) u b place middle
tells_more t kind_now s u v rest a b x first next place front so_far middle firsts is is_pair tells p y all last q =
    let both : BecomesKept kind_now rest next so_far (value.Pair x y) all last =
    subst (λ (r : Ty). BecomesKept r rest next so_far (value.Pair x y) all last) (sym is)
    (subst (λ (w : Val). BecomesKept (kind.Pair s u) w next so_far (value.Pair x y) all last) (sym is_pair) (pair_part s u a b next place last x y so_far middle all p q)) in
    subst (λ (w : Val). BecomesKept t v first front w all last) (sym (one_more_part value.Pair firsts x y)) (tells (value.Pair x y) all last both)

pub map_part : (t k w : Ty) (m : Val) (es : List (Val × Val)) (place : ℕ) (front all : List Entry) → t ≡ kind.BigMap k w → m ≡ value.Map es → all ≡ front ++ tagged place es →
    BecomesKept t m place front (value.BigMap place 0) all (place + 1)
map_part t k w m es place front all e is all_is = (
  (λ i. (value.BigMap place 0, all_is i)) ∙ ap (onto front) (sym ((λ i. (parting (e i)).1 place (is i)) ∙ parted-map k w place es)),
  omega (arith, count-map t k w e),
)

pub other_part : (t : Ty) (v : Val) (first : ℕ) (front : List Entry) → ((s u : Ty) → t ≡ kind.Pair s u → ⊥) → ((k w : Ty) → t ≡ kind.BigMap k w → ⊥) → BecomesKept t v first front v front first
other_part t v first front p q =
    let other : IsOther t = record { no_pair = p; no_map = q } in (
      (λ i. (v, sym (append-nil front) i)) ∙ ap (onto front) (sym (parted-other t other first v)),
      omega (arith, count-other t other),
    )

-- ---- values at the types that are written for storages

-- the parts of a pair have the types of its parts
pub parts_typed : (t s u : Ty) (v a b : Val) → t ≡ kind.Pair s u → v ≡ value.Pair a b → IsTrue (has_type v (with_maps t)) →
    IsTrue (has_type a (with_maps s)) × IsTrue (has_type b (with_maps u))
parts_typed t s u v a b e is typed =
    and_parts _ _ (sym (has_type-pair a b (with_maps s) (with_maps u)) ∙ sym ((λ i. has_type (is i) (with_maps (e i))) ∙ ap (has_type (value.Pair a b)) (with_maps-pair s u)) ∙ typed)

-- a value at a pair is a pair, and at a big map a map
pub no_other_pair : (t s u : Ty) (v : Val) → t ≡ kind.Pair s u → IsTrue (has_type v (with_maps t)) → ((a b : Val) → v ≡ value.Pair a b → ⊥) → ⊥
no_other_pair t s u v e typed not =
    let p = of_pair v (with_maps s) (with_maps u) (sym (ap (λ (r : Ty). has_type v (with_maps r)) e ∙ ap (has_type v) (with_maps-pair s u)) ∙ typed) in not p.0 p.1 p.2

pub no_other_map : (t k w : Ty) (v : Val) → t ≡ kind.BigMap k w → IsTrue (has_type v (with_maps t)) → ((es : List (Val × Val)) → v ≡ value.Map es → ⊥) → ⊥
no_other_map t k w v e typed not =
    let p = of_map v k w (sym (ap (λ (r : Ty). has_type v (with_maps r)) e ∙ ap (has_type v) (with_maps-map k w)) ∙ typed) in not p.0 p.1
