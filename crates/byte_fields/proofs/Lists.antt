-- The law of lists of items, each read by what stood before it.
use Rattle.std.proofs.Common.{◌≡◌, ℕ, zero, suc, List, [], ◌∷◌, ◌++◌, length, Ok, refl, ap, subst, ◌∙◌, append_assoc, arith}
use Rattle.std.specs.List.{flat_map, AllByRecursion}
use Rattle.std.proofs.lemmas.List.Concat.{flat_map-cons}
use Rattle.byte_fields.specs.Readers.{Read, Reader, after, chained, many}
use Rattle.byte_fields.specs.Laws.{IsBytes, Takes, IsWithin, Reads, AllAlong}
use Rattle.byte_fields.proofs.Steps.{after_ok, ok_is, Takes-then, within_after, IsWithin-more}
use Rattle.byte_fields.proofs.Joined.{reads_as}

-- n items, each good by the state that stands before it
abbrev pub GoodItems : {S A : Type 0} → (S → A → Type 0) → (S → A → S) → S → ℕ → List A → Type 0
GoodItems Good next state n all = (length all ≡ n) × AllAlong Good next state all

module _ {S A : Type 0} (read : S → Reader A) (spell : A → List ℕ) (Good : S → A → Type 0) (next : S → A → S) (each : (state : S) → Reads (read state) spell (Good state)) where
  chained_takes : (state : S) (n : ℕ) (bytes : List ℕ) (all : List A) (rest : List ℕ) → IsBytes bytes → chained read next state n bytes ≡ Ok (all, rest) →
      Takes bytes (flat_map spell all) rest × GoodItems Good next state n all
  chained_takes state zero bytes all rest fits e =
      subst (λ (y : List A × List ℕ). Takes bytes (flat_map spell y.0) y.1 × GoodItems Good next state 0 y.0) (ok_is ([], bytes) (all, rest) e)
      (record { parts = refl; rest_fits = fits }, (refl, tt))
  chained_takes state (suc n) bytes all rest fits e =
      let s = after_ok (read state bytes) _ all rest e in
      let u = after_ok (chained read next (next state s.value) n s.rest) _ all rest s.then_is in
      let t = (each state).takes bytes s.value s.rest fits s.was in
      let t' = chained_takes (next state s.value) n s.rest u.value u.rest t.0.rest_fits u.was in
      subst (λ (y : List A × List ℕ). Takes bytes (flat_map spell y.0) y.1 × GoodItems Good next state (suc n) y.0) (ok_is (s.value ∷ u.value, u.rest) (all, rest) u.then_is)
      (rw flat_map-cons (Takes-then bytes (spell s.value) s.rest (flat_map spell u.value) u.rest t.0 t'.0), (ap suc t'.1.0, (t.1, t'.1.1)))

  chained_again : (state : S) (all : List A) (rest : List ℕ) → AllAlong Good next state all → chained read next state (length all) (flat_map spell all ++ rest) ≡ Ok (all, rest)
  chained_again state [] rest good = refl
  chained_again state (a ∷ all) rest good =
      let regrouped : flat_map spell (a ∷ all) ++ rest ≡ spell a ++ (flat_map spell all ++ rest) =
      ap (λ (l : List ℕ). l ++ rest) (flat_map-cons spell a all) ∙ append_assoc (spell a) (flat_map spell all) rest in
      ap (chained read next state (suc (length all))) regrouped ∙
      ap (λ (y : Read A). after y (λ a rest. after (chained read next (next state a) (length all) rest) (λ all end. Ok (a ∷ all, end))))
      ((each state).again a (flat_map spell all ++ rest) good.0) ∙
      ap (λ (y : Read (List A)). after y (λ all end. Ok (a ∷ all, end))) (chained_again (next state a) all rest good.1)

  chained_within : (state : S) (n : ℕ) (bytes : List ℕ) → IsWithin (length bytes) (chained read next state n bytes)
  chained_within state zero bytes = omega arith
  chained_within state (suc n) bytes = within_after (length bytes) (read state bytes) _ ((each state).within bytes)
      (λ a rest le. within_after (length bytes) (chained read next (next state a) n rest) _
      (IsWithin-more (length rest) (length bytes) (chained read next (next state a) n rest) (chained_within (next state a) n rest) le) (λ all end h. h))

pub chained_reads : {S A : Type 0} {read : S → Reader A} {spell : A → List ℕ} {Good : S → A → Type 0} (next : S → A → S) → ((state : S) → Reads (read state) spell (Good state)) →
    (state : S) (n : ℕ) → Reads (chained read next state n) (flat_map spell) (GoodItems Good next state n)
chained_reads {S} {A} {read} {spell} {Good} next each state n = record {
  takes = chained_takes read spell Good next each state n;
  again = λ all rest good. subst (λ k. chained read next state k (flat_map spell all ++ rest) ≡ Ok (all, rest)) good.0 (chained_again read spell Good next each state all rest good.1);
  within = chained_within read spell Good next each state n;
}

-- ---- items that know nothing of each other

each_alone : {A : Type 0} (Good : A → Type 0) (all : List A) → AllAlong {S = Unit {0}} (λ state. Good) (λ state a. state) tt all → AllByRecursion Good all
each_alone Good [] h = tt
each_alone Good (a ∷ all) h = (h.0, each_alone Good all h.1)

each_along : {A : Type 0} (Good : A → Type 0) (all : List A) → AllByRecursion Good all → AllAlong {S = Unit {0}} (λ state. Good) (λ state a. state) tt all
each_along Good [] h = tt
each_along Good (a ∷ all) h = (h.0, each_along Good all h.1)

pub many_reads : {A : Type 0} {read : Reader A} {spell : A → List ℕ} {Good : A → Type 0} → Reads read spell Good → (n : ℕ) →
    Reads (many read n) (flat_map spell) (λ all. (length all ≡ n) × AllByRecursion Good all)
many_reads {A} {read} {spell} {Good} r n =
    reads_as (flat_map spell) (λ all. (length all ≡ n) × AllByRecursion Good all)
    (λ all good. (refl, (good.0, each_alone Good all good.1)))
    (λ all good. (good.0, each_along Good all good.1))
    (chained_reads {S = Unit {0}} {Good = λ state. Good} (λ state a. state) (λ state. r) tt n)
