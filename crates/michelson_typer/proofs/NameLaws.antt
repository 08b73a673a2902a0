-- Names of entries that a set has seen.
use Rattle.std.proofs.Common.{◌≡◌, ℕ, ◌+◌, ◌<◌, Bool, true, false, cond, List, [], length, get_or, inl, inr, is_eq, nat_cmp, below_more, refl, ap, sym, ◌∙◌, arith}
use Rattle.std.specs.Prelude.{◌⊎◌, AllPairs, not}
use Rattle.std.specs.List.{list_any}
use Rattle.std.specs.Cmp.Lexicographic.{slice_cmp}
use Rattle.std.proofs.lemmas.List.{get_or_default}
use Rattle.std.proofs.lemmas.Map.Text.{is_eq-slice_cmp}
use Rattle.std.proofs.lemmas.Slice.Eq.{bytes_eq-Decides}
use Rattle.michelson_code.specs.Entries.{NamedEntry}
use Rattle.michelson_code.specs.TypedScript.{AreNamedApart}

abbrev Name : Type 0
Name = List ℕ

-- the name at a place
abbrev pub name_at : List NamedEntry → ℕ → Name
name_at names k = (get_or names k ([], [])).1

-- two names are equal, as a set compares them
abbrev pub are_same : Name → Name → Bool
are_same a b = is_eq (slice_cmp nat_cmp a b)

-- a set has a name
abbrev pub has : List Name → Name → Bool
has keys name = list_any (are_same name) keys

-- the names before a place are those of the set, and no two are equal
pub record AreSeen (names : List NamedEntry) (n : ℕ) (keys : List Name) : Type 0 where
  pub seen : (k : ℕ) → k < n → has keys (name_at names k) ≡ true
  pub only : (name : Name) → has keys name ≡ true → (k : ℕ) × ((k < n) × (name_at names k ≡ name))
  pub apart : (j k : ℕ) → j < k → k < n → name_at names j ≡ name_at names k → ⊥

-- what a loop reads is the name at its place
pub name-read : (names : List NamedEntry) (k : ℕ) (e : NamedEntry) → k < length names → e ≡ get_or names k e → e.1 ≡ name_at names k
name-read names k e within is = ap (λ (f : NamedEntry). f.1) (is ∙ get_or_default names k e ([], []) within)

-- what a set says of a name that is put into it
pub was_new : (added had : Bool) → added ≡ not had → added ≡ true → had ≡ false
was_new added true is h = cc
was_new added false is h = refl

pub was_there : (added had : Bool) → added ≡ not had → added ≡ false → had ≡ true
was_there added true is h = refl
was_there added false is h = cc

-- no name before the first
pub none_seen : (names : List NamedEntry) → AreSeen names 0 []
none_seen names = record {
  seen = λ k below. absurd (omega arith);
  only = λ name h. cc;
  apart = λ j k before below same. absurd (omega arith);
}

same-itself : (a : Name) → are_same a a ≡ true
same-itself a = is_eq-slice_cmp a a ∙ (bytes_eq-Decides a a).1 refl

same-equal : (a b : Name) → are_same a b ≡ true → a ≡ b
same-equal a b h = (bytes_eq-Decides a b).0 (sym (is_eq-slice_cmp a b) ∙ h)

-- one more name, which the set has not
module _ (names : List NamedEntry) (n : ℕ) (keys next : List Name) (name : Name) (here : name ≡ name_at names n)
    (new : has keys name ≡ false) (updated : (q : Name) → has next q ≡ cond (are_same name q) true (has keys q)) where
  still : (q : Name) → has keys q ≡ true → has next q ≡ true
  still q h = updated q ∙ by_case (are_same name q) (has keys q) h
    where
      by_case : (same had : Bool) → had ≡ true → cond same true had ≡ true
      by_case true had h = refl
      by_case false had h = h

  it : has next name ≡ true
  it = updated name ∙ ap (λ same. cond same true (has keys name)) (same-itself name)

  split : (q : Name) (same : Bool) → are_same name q ≡ same → cond same true (has keys q) ≡ true → (name ≡ q) ⊎ (has keys q ≡ true)
  split q true is h = inl (same-equal name q is)
  split q false is h = inr h

  only_one : (old : AreSeen names n keys) (q : Name) → (name ≡ q) ⊎ (has keys q ≡ true) → (k : ℕ) × ((k < n + 1) × (name_at names k ≡ q))
  only_one old q (inl is) = (n, (omega arith, sym here ∙ is))
  only_one old q (inr had) = let k = old.only q had in (k.0, (let below : k.0 < n = k.1.0 in omega arith, k.1.1))

  pub one_more : AreSeen names n keys → AreSeen names (n + 1) next
  one_more old = record {
    seen = below_more (λ k. has next (name_at names k) ≡ true) n (λ k below. still (name_at names k) (old.seen k below)) (ap (has next) (sym here) ∙ it);
    only = λ q h. only_one old q (split q (are_same name q) refl (sym (updated q) ∙ h));
    apart = λ j k before below same. below_more (λ k. (j : ℕ) → j < k → name_at names j ≡ name_at names k → ⊥) n
        (λ k below j before. old.apart j k before below)
        (λ j before same.
        let had : has keys name ≡ true = ap (has keys) (here ∙ sym same) ∙ old.seen j before in cc)
        k below j before same;
  }

-- a name that the set has stands twice
pub seen_twice : (names : List NamedEntry) (n : ℕ) (keys : List Name) (name : Name) → n < length names → name ≡ name_at names n →
    has keys name ≡ true → AreSeen names n keys → AllPairs AreNamedApart names → ⊥
seen_twice names n keys name within here had old apart =
    let k = old.only name had in apart k.0 n ([], []) k.1.0 within (k.1.1 ∙ here)

-- where all are seen, no two are equal
pub all_apart : (names : List NamedEntry) (keys : List Name) → AreSeen names (length names) keys → AllPairs AreNamedApart names
all_apart names keys old i j d before within same =
    let first : i < length names = omega arith in
    old.apart i j before within
    (ap (λ (e : NamedEntry). e.1) (get_or_default names i ([], []) d first) ∙ same ∙ ap (λ (e : NamedEntry). e.1) (get_or_default names j d ([], []) within))
