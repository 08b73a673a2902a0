-- One more item of a list that is read, or spelt.
use Rattle.std.proofs.Common.{◌≡◌, ℕ, ◌+◌, ◌-◌, ◌<◌, List, [], ◌∷◌, ◌++◌, length, take, Option, Some, None, Ok, Err, refl, sym, ap, subst, ◌∙◌, append_assoc}
use Rattle.std.specs.Prelude.{slice_get}
use Rattle.std.specs.List.{flat_map, AllByRecursion}
use Rattle.std.proofs.lemmas.List.{take_more, append-nil}
use Rattle.std.proofs.lemmas.List.Concat.{flat_map-append, flat_map-cons}
use Rattle.std.proofs.lemmas.Option.{slice_get_within, get_or_from_slice_get, slice_get-get_or}
use Rattle.byte_fields.specs.Stops.{Stop}
use Rattle.byte_fields.specs.Readers.{Read, Reader, many}
use Rattle.byte_fields.specs.Told.{IsStop}
use Rattle.byte_fields.proofs.Loops.{with_front, goes_on, stops, ends}

-- ---- reading items that know nothing of each other

module _ {A : Type 0} (read : Reader A) (front : List A) (count i : ℕ) (bytes : List ℕ) (total : Read (List A)) (lt : i < count) (so_far : with_front front (many read (count - i) bytes) ≡ total) where
  pub one_more : (new : List A) (a : A) (rest : List ℕ) → new ≡ front ++ a ∷ [] → read bytes ≡ Ok (a, rest) → with_front new (many read (count - (i + 1)) rest) ≡ total
  one_more new a rest is was =
      subst (λ (l : List A). with_front l (many read (count - (i + 1)) rest) ≡ total) (sym is)
      (goes_on {S = Unit {0}} (λ state. read) (λ state a. state) tt tt front count i bytes a rest total lt was refl so_far)

  pub stop_of_all : (stop : Stop) → read bytes ≡ Err stop → total ≡ Err stop
  stop_of_all stop stopped = stops {S = Unit {0}} stop (λ state. read) (λ state a. state) tt front count i bytes total lt stopped so_far

  pub stops_all : (stop : Option Stop) → IsStop stop (read bytes) → IsStop stop total
  stops_all stop stopped = ends {S = Unit {0}} stop (λ state. read) (λ state a. state) tt front count i bytes total lt stopped so_far

-- ---- spelling

-- one more element is taken
taken_more : {A : Type 0} (xs : List A) (i : ℕ) (x : A) → Some x ≡ slice_get xs i → take (i + 1) xs ≡ take i xs ++ x ∷ []
taken_more {A} xs i x here =
    let within : i < length xs = slice_get_within xs i x (sym here) in
    take_more xs i x within ∙ ap (λ (y : A). take i xs ++ y ∷ []) (get_or_from_slice_get xs i x x (sym here))

-- one more element is spelt behind those before it
pub spelt_more : {A : Type 0} (spell : A → List ℕ) (xs : List A) (i : ℕ) (x : A) (before out new : List ℕ) → Some x ≡ slice_get xs i →
    out ≡ before ++ flat_map spell (take i xs) → new ≡ out ++ spell x → new ≡ before ++ flat_map spell (take (i + 1) xs)
spelt_more {A} spell xs i x before out new here so_far is =
    let last : flat_map spell (x ∷ []) ≡ spell x = flat_map-cons spell x [] ∙ append-nil (spell x) in
    is ∙ ap (λ (l : List ℕ). l ++ spell x) so_far ∙ append_assoc before (flat_map spell (take i xs)) (spell x)
    ∙ ap (λ (l : List ℕ). before ++ l) (ap (λ (l : List ℕ). flat_map spell (take i xs) ++ l) (sym last) ∙ sym (flat_map-append spell (take i xs) (x ∷ [])) ∙ ap (flat_map spell) (sym (taken_more xs i x here)))

all_and_last : {A : Type 0} (P : A → Type 0) (xs : List A) (x : A) → AllByRecursion P xs → P x → AllByRecursion P (xs ++ x ∷ [])
all_and_last P [] x all last = (last, tt)
all_and_last P (y ∷ xs) x all last = (all.0, all_and_last P xs x all.1 last)

-- and has what those before it have
pub good_more : {A : Type 0} (P : A → Type 0) (xs : List A) (i : ℕ) (x : A) → Some x ≡ slice_get xs i → AllByRecursion P (take i xs) → P x → AllByRecursion P (take (i + 1) xs)
good_more P xs i x here all last = subst (AllByRecursion P) (sym (taken_more xs i x here)) (all_and_last P (take i xs) x all last)

-- an element stands at each place
pub none_missing : {A : Type 0} (xs : List A) (i : ℕ) (d : A) → i < length xs → None ≡ slice_get xs i → ⊥
none_missing xs i d lt e = let here = slice_get-get_or xs i d lt in cc
