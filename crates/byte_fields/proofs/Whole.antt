-- The law of a reader that takes all of the bytes.
use Rattle.std.proofs.Common.{◌≡◌, ℕ, ◌≤◌, Bool, true, false, cond, eqb, List, [], ◌∷◌, ◌++◌, length, Ok, Err, refl, sym, ap, subst, ◌∙◌, arith}
use Rattle.std.proofs.lemmas.Bool.{eqb-true}
use Rattle.std.proofs.lemmas.List.{append-nil}
use Rattle.byte_fields.specs.Stops.{Faulty, Stopped}
use Rattle.byte_fields.specs.Readers.{Read, Reader, whole}
use Rattle.byte_fields.specs.Laws.{IsWithin, Reads, ReadsWhole}
use Rattle.byte_fields.proofs.Steps.{after_ok, test_ok, within_after}

ends_none : (rest : List ℕ) → length rest ≡ 0 → rest ≡ []
ends_none [] h = refl
ends_none (b ∷ rest) h = absurd (omega arith)

within_end : {A : Type 0} (b : Bool) (most left : ℕ) (a : A) → left ≤ most → IsWithin most (cond {A = Read A} b (Ok (a, [])) (Err (Stopped Faulty left)))
within_end true most left a h = omega arith
within_end false most left a h = h

pub whole_reads : {A : Type 0} {read : Reader A} {spell : A → List ℕ} {Good : A → Type 0} → Reads read spell Good → ReadsWhole (whole read) spell Good
whole_reads {A} {read} {spell} {Good} r = record {
  takes = λ bytes a rest fits e.
      let s = after_ok (read bytes) _ a rest e in
      let t = r.takes bytes s.value s.rest fits s.was in
      let p = test_ok (eqb (length s.rest) 0) (Stopped Faulty (length s.rest)) (s.value, []) (a, rest) s.then_is in
      let none : s.rest ≡ [] = ends_none s.rest (eqb-true (length s.rest) 0 p.0) in
      let all : bytes ≡ spell s.value = t.0.parts ∙ ap (λ (l : List ℕ). spell s.value ++ l) none ∙ append-nil (spell s.value) in
      subst (λ (y : A × List ℕ). (bytes ≡ spell y.0) × Good y.0) p.1 (all, t.1);
  again = λ a good. ap (whole read) (sym (append-nil (spell a))) ∙ rw (r.again a [] good) refl;
  within = λ bytes. within_after (length bytes) (read bytes) _ (r.within bytes) (λ a rest le. within_end (eqb (length rest) 0) (length bytes) (length rest) a le);
}
