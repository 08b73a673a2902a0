-- Where each big map of the returned storage stands at its own place, no place has a key twice among the changes.
use Rattle.std.proofs.Common.{◌≡◌, ℕ, suc, ◌+◌, ◌<◌, ◌≤◌, true, false, List, [], ◌∷◌, ◌++◌, length, map, refl, ap, sym, subst, ◌∙◌, arith, append-nil, length-append}
use Rattle.std.specs.Prelude.{◌&&◌, IsTrue, if◌then◌else◌, Option}
use Rattle.std.specs.List.{AllByRecursion, flat_map}
use Rattle.std.specs.Ordering.{is_gt, is_lt, ordering_then}
use Rattle.std.specs.Cmp.{nat_cmp_is}
use Rattle.std.specs.declared.cmp.Ordering.{Ordering}
use Rattle.std.specs.declared.cmp.Ordering.TheVariants.{Less, Equal, Greater}
use Rattle.std.proofs.lemmas.Bool.{eqb-true}
use Rattle.std.proofs.lemmas.Cmp.{nat_cmp_total, tied_itself}
use Rattle.value_core.specs.declared.ty.Ty.{Ty}
use Rattle.value_core.specs.declared.ty.Ty.TheOpen as ty
use Rattle.value_core.specs.declared.ty.Ty.TheVariants as type
use Rattle.value_core.specs.declared.val.Val.{Val}
use Rattle.value_core.specs.declared.val.Val.TheVariants as value
use Rattle.value_core.specs.BigMaps.{Placing, is_placed, placing, placing_level}
use Rattle.value_core.specs.Order.{order}
use Rattle.value_core.specs.Sorted.{keys_of}
use Rattle.value_core.specs.Sound.{ascends}
use Rattle.value_core.specs.TypeLevels.{fold-at, shows_big_map, shows_pair}
use Rattle.value_core.specs.Typed.{has_type}
use Rattle.value_core.proofs.Bools.{both_true, first_true, second_true}
use Rattle.value_core.proofs.Canonical.{of_big_map, of_pair}
use Rattle.value_laws.proofs.PlaceLaws.{counted}
use Rattle.michelson_code.specs.WrittenTypes.{has_placed_big_maps, is_kept}
use Rattle.michelson_rules.specs.Returned.{Change, big_maps_in, change_order, changes_in, in_order, insert_change, unversioned}
use Rattle.michelson_rules.specs.Runs.{Changes, changes_of}
use Rattle.michelson_rules.specs.TypedScripts.{changes_rise}
use Rattle.michelson_rules.proofs.Alls.{all_append, all_weaker}
use Rattle.michelson_rules.proofs.BegunTyped.{place_is, placed_parts}
use Rattle.michelson_rules.proofs.CleanValues.{cleans}
use Rattle.michelson_rules.proofs.KeptTypes.{IsOther, along_pairs, kept_pair, kept_passes, placed_pair}
use Rattle.michelson_rules.proofs.ReturnedTyped.{big_maps_in-big_map, big_maps_in-pair, unversioned-big_map, unversioned-pair}

-- ---- places

-- the places are this one, the next one and so on
abbrev CountsFrom : ℕ → List (ℕ × ℕ) → Type 0
CountsFrom first [] = Unit {0}
CountsFrom first (m ∷ ms) = (m.0 ≡ first) × CountsFrom (suc first) ms

counts_on : (first : ℕ) (ms ns : List (ℕ × ℕ)) → CountsFrom first ms → CountsFrom (first + length ms) ns → CountsFrom first (ms ++ ns)
counts_on first [] ns counts next = subst (λ (n : ℕ). CountsFrom n ns) (let same : first + 0 ≡ first = omega arith in same) next
counts_on first (m ∷ ms) ns counts next =
    (counts.0, counts_on (suc first) ms ns counts.1 (subst (λ (n : ℕ). CountsFrom n ns) (let same : first + suc (length ms) ≡ suc first + length ms = omega arith in same) next))

-- the big maps in a value stand at the places from this one on
record Counts (first : ℕ) (v : Val) (t : Ty) : Type 0 where
  many : length (big_maps_in v) ≡ (placing t).0
  from : CountsFrom first (big_maps_in v)

abbrev Numbers : Ty → Type 0
Numbers t = is_kept t ≡ true → has_placed_big_maps t ≡ true → (first : ℕ) (v : Val) → IsTrue (has_type v t) → (placing t).1 first (unversioned v) ≡ true → Counts first v t

counts_parts : (first : ℕ) (s u : Ty) (a b : Val) → Counts first a s → Counts (first + (placing s).0) b u → Counts first (value.Pair a b) (type.Pair s u)
counts_parts first s u a b left right = record {
  many = ap length whole ∙ length-append (big_maps_in a) (big_maps_in b) ∙ (λ i. left.many i + right.many i) ∙ sym (places-pair s u);
  from = subst (CountsFrom first) (sym whole)
      (counts_on first (big_maps_in a) (big_maps_in b) left.from (subst (λ (n : ℕ). CountsFrom (first + n) (big_maps_in b)) (sym left.many) right.from));
}
  where
    whole : big_maps_in (value.Pair a b) ≡ big_maps_in a ++ big_maps_in b
    whole = big_maps_in-pair a b ∙ ap (λ (ms : List (ℕ × ℕ)). big_maps_in a ++ ms) (append-nil (big_maps_in b))

    places-pair : (s u : Ty) → (placing (type.Pair s u)).0 ≡ (placing s).0 + (placing u).0
    places-pair s u = ap (λ (p : Placing). p.0) (fold-at placing_level (type.Pair s u) (ty.Pair s u) (shows_pair s u))

numbers_pair : (s u : Ty) → Numbers s → Numbers u → Numbers (type.Pair s u)
numbers_pair s u left right kept placed first v typed stands =
    let parts = of_pair v s u typed in
    let a : Val = parts.0 in
    let b : Val = parts.1 in
    let both_kept = kept_pair s u kept in
    let both_placed = placed_pair s u placed in
    let stand : ((placing s).1 first (unversioned a) && (placing u).1 (first + (placing s).0) (unversioned b)) ≡ true =
    sym (placed_parts first s u (unversioned a) (unversioned b)) ∙ ap (λ (w : Val). (placing (type.Pair s u)).1 first w) (sym (ap unversioned parts.2 ∙ unversioned-pair a b)) ∙ stands in
    subst (λ (w : Val). Counts first w (type.Pair s u)) (sym parts.2)
    (counts_parts first s u a b
    (left both_kept.0 both_placed.0 first a parts.3 (first_true ((placing s).1 first (unversioned a)) _ stand))
    (right both_kept.1 both_placed.1 (first + (placing s).0) b parts.4 (second_true ((placing s).1 first (unversioned a)) _ stand)))

numbers_big_map : (k w : Ty) → Numbers (type.BigMap k w)
numbers_big_map k w kept placed first v typed stands =
    let parts = of_big_map v k w typed in
    let place : ℕ = parts.0 in
    let version : ℕ = parts.1 in
    let there : place ≡ first = eqb-true place first
    (sym (place_is first k w place 0) ∙ ap (λ (m : Val). (placing (type.BigMap k w)).1 first m) (sym (ap unversioned parts.2 ∙ unversioned-big_map place version)) ∙ stands) in
    subst (λ (m : Val). Counts first m (type.BigMap k w)) (sym parts.2) (record {
      many = ap length (big_maps_in-big_map place version) ∙ sym (ap (λ (p : Placing). p.0) (fold-at placing_level (type.BigMap k w) (ty.BigMap k w) (shows_big_map k w)));
      from = subst (CountsFrom first) (sym (big_maps_in-big_map place version)) (there, tt);
    })

numbers_other : (t : Ty) → IsOther t → Numbers t
numbers_other t other kept placed first v typed stands =
    let none : big_maps_in v ≡ [] = (cleans t (kept_passes t kept (sym other.free ∙ placed)) v typed).none in
    record { many = ap length none ∙ sym (counted t ∙ ap length other.none); from = subst (CountsFrom first) (sym none) tt }

numbers : (t : Ty) → Numbers t
numbers = along_pairs Numbers numbers_pair numbers_big_map numbers_other

-- ---- changes one place after another

less_here : (place : ℕ) (c d : Val × Option Val) → is_lt (order c.0 d.0) ≡ true → is_lt (change_order (place, c.0, c.1) (place, d.0, d.1)) ≡ true
less_here place c d less = ap (λ r. is_lt (ordering_then r (order c.0 d.0))) (tied_itself nat_cmp_total place) ∙ less

less_there : (c d : Change) → c.0 < d.0 → is_lt (change_order c d) ≡ true
less_there c d less = ap (λ r. is_lt (ordering_then r (order c.1 d.1))) (sym (nat_cmp_is c.0 d.0 Less less))

abbrev IsFrom : ℕ → Change → Type 0
IsFrom first c = first ≤ c.0

abbrev at : ℕ → Val × Option Val → Change
at place c = (place, c.0, c.1)

rises_first : (place : ℕ) (c : Val × Option Val) (more : List Change) → changes_rise more ≡ true → AllByRecursion (IsFrom (suc place)) more → changes_rise (at place c ∷ more) ≡ true
rises_first place c [] up all = refl
rises_first place c (d ∷ more) up all = both_true (is_lt (change_order (at place c) d)) (changes_rise (d ∷ more)) (less_there (at place c) d (omega (arith, all.0))) up

rises_before : (place : ℕ) (cs : Changes) (more : List Change) → IsTrue (ascends (keys_of cs)) → changes_rise more ≡ true → AllByRecursion (IsFrom (suc place)) more →
    changes_rise (map (λ c. (place, c.0, c.1)) cs ++ more) ≡ true
rises_before place [] more keys up all = up
rises_before place (c ∷ []) more keys up all = rises_first place c more up all
rises_before place (c ∷ d ∷ cs) more keys up all =
    both_true (is_lt (change_order (at place c) (at place d))) _ (less_here place c d (first_true (is_lt (order c.0 d.0)) _ keys))
    (rises_before place (d ∷ cs) more (second_true (is_lt (order c.0 d.0)) _ keys) up all)

from_place : (first place : ℕ) (cs : Changes) → first ≤ place → AllByRecursion (IsFrom first) (map (λ c. (place, c.0, c.1)) cs)
from_place first place [] low = tt
from_place first place (c ∷ cs) low = (low, from_place first place cs low)

module _ (versions : List Changes) where
  abbrev pub Ascends : ℕ × ℕ → Type 0
  Ascends m = IsTrue (ascends (keys_of (changes_of m.1 versions)))

  all_from : (first : ℕ) (ms : List (ℕ × ℕ)) → CountsFrom first ms → AllByRecursion (IsFrom first) (flat_map (changes_in versions) ms)
  all_from first [] counts = tt
  all_from first (m ∷ ms) counts =
      all_append (IsFrom first) (changes_in versions m) (flat_map (changes_in versions) ms) (from_place first m.0 (changes_of m.1 versions) (omega (arith, counts.0)))
      (all_weaker (IsFrom (suc first)) (IsFrom first) (λ c low. omega (arith, low)) (flat_map (changes_in versions) ms) (all_from (suc first) ms counts.1))

  all_rise : (first : ℕ) (ms : List (ℕ × ℕ)) → CountsFrom first ms → AllByRecursion Ascends ms → changes_rise (flat_map (changes_in versions) ms) ≡ true
  all_rise first [] counts all = refl
  all_rise first (m ∷ ms) counts all =
      rises_before m.0 (changes_of m.1 versions) (flat_map (changes_in versions) ms) all.0 (all_rise (suc first) ms counts.1 all.1)
      (subst (λ (n : ℕ). AllByRecursion (IsFrom (suc n)) (flat_map (changes_in versions) ms)) (sym counts.0) (all_from (suc first) ms counts.1))

-- ---- changes that rise are in order

not_greater : (r : Ordering) → is_lt r ≡ true → is_gt r ≡ false
not_greater Less less = refl
not_greater Equal less = refl
not_greater Greater less = absurd cc

inserted_first : (a : Change) (bs : List Change) → changes_rise (a ∷ bs) ≡ true → insert_change a bs ≡ a ∷ bs
inserted_first a [] up = refl
inserted_first a (b ∷ bs) up =
    ap (λ above. if above then b ∷ insert_change a bs else a ∷ b ∷ bs) (not_greater (change_order a b) (first_true (is_lt (change_order a b)) (changes_rise (b ∷ bs)) up))

rest_rises : (a : Change) (bs : List Change) → changes_rise (a ∷ bs) ≡ true → changes_rise bs ≡ true
rest_rises a [] up = refl
rest_rises a (b ∷ bs) up = second_true (is_lt (change_order a b)) (changes_rise (b ∷ bs)) up

in_order_already : (cs : List Change) → changes_rise cs ≡ true → in_order cs ≡ cs
in_order_already [] up = refl
in_order_already (c ∷ cs) up = ap (insert_change c) (in_order_already cs (rest_rises c cs up)) ∙ inserted_first c cs up

-- the changes of a storage whose big maps stand at their own places
pub changed_once : (versions : List Changes) (t : Ty) (v : Val) → is_kept t ≡ true → has_placed_big_maps t ≡ true → IsTrue (has_type v t) → AllByRecursion (Ascends versions) (big_maps_in v) →
    IsTrue (is_placed (unversioned v) t) → IsTrue (changes_rise (in_order (flat_map (changes_in versions) (big_maps_in v))))
changed_once versions t v kept placed typed ascend stands =
    let rise : changes_rise (flat_map (changes_in versions) (big_maps_in v)) ≡ true = all_rise versions 0 (big_maps_in v) (numbers t kept placed 0 v typed stands).from ascend in
    ap changes_rise (in_order_already (flat_map (changes_in versions) (big_maps_in v)) rise) ∙ rise
