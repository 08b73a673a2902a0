-- What a public call of a format tells, by places.
use Rattle.std.proofs.Common.{◌≡◌, ℕ, ◌+◌, ◌-◌, ◌≤◌, List, ◌++◌, length, drop, Option, Result, Ok, Err, refl, sym, ap, subst, ◌∙◌, arith}
use Rattle.std.specs.Prelude.{IfOk}
use Rattle.std.proofs.lemmas.List.{drop_at, length-append, length-drop, drop-drop}
use Rattle.byte_fields.specs.Stops.{Kind, Stop, Stopped}
use Rattle.byte_fields.specs.Readers.{Read, Reader}
use Rattle.byte_fields.specs.Told.{AnswersUnlessFull, placed, alone}
use Rattle.byte_fields.specs.Laws.{IsBytes, Spelt, TellsSpelt, TellsWhole, Reads, ReadsWhole}
use Rattle.byte_fields.proofs.Steps.{IsBytes-drop}

-- ---- stops

-- a stop that is told by its place
pub record StopsAt {A : Type 0} (total : ℕ) (read : Read A) (kind : Kind) (place : ℕ) : Type 0 where
  pub left : ℕ
  pub stops : read ≡ Err (Stopped kind left)
  pub here : total - left ≡ place

pub stop_placed : {A : Type 0} (total : ℕ) (read : Read A) (kind : Kind) (place : ℕ) → placed total read ≡ Err (Stopped kind place) → StopsAt total read kind place
stop_placed total (Ok x) kind place e = absurd cc
stop_placed {A} total (Err (Stopped k n)) kind place e =
    let same : k ≡ kind = cc in
    let here : total - n ≡ place = cc in
    record { left = n; stops = ap (λ (k : Kind). let r : Read A = Err (Stopped k n) in r) same; here = here }

-- ---- a reader that begins at a place

-- the rest of what stands from a place on is the rest of the whole
end_of : (bytes text rest : List ℕ) (at : ℕ) → at ≤ length bytes → drop at bytes ≡ text ++ rest → drop (length bytes - length rest) bytes ≡ rest
end_of bytes text rest at le e =
    let len : length bytes - length rest ≡ length text + at = omega (arith, length-drop at bytes, ap length e, length-append text rest) in
    let swapped : length text + at ≡ at + length text = omega arith in
    rw len (ap (λ k. drop k bytes) swapped ∙ sym (drop-drop (length text) at bytes) ∙ ap (drop (length text)) e ∙ drop_at text rest (length text) refl)

-- and what is left of them is what stands after the text
end_is : (bytes text rest : List ℕ) (at : ℕ) → at ≤ length bytes → drop at bytes ≡ text ++ rest → length bytes - length rest ≡ at + length text
end_is bytes text rest at le e = omega (arith, length-drop at bytes, ap length e, length-append text rest)

module _ {A : Type 0} {read : Reader A} {spell : A → List ℕ} {Good : A → Type 0} (r : Reads read spell Good) (bytes : List ℕ) (at : ℕ) (le : at ≤ length bytes) where
  spelt_in : (x : A × ℕ) (y : Read A) → IsBytes bytes → read (drop at bytes) ≡ y → placed (length bytes) y ≡ Ok x → Spelt spell Good bytes at x
  spelt_in x (Ok y) fits is e =
      let t = r.takes (drop at bytes) y.0 y.1 (IsBytes-drop at bytes fits) is in
      let place : (y.0, length bytes - length y.1) ≡ x = cc in
      subst (Spelt spell Good bytes at) place
      (record {
        good = t.1;
        parts = t.0.parts ∙ ap (λ (l : List ℕ). spell y.0 ++ l) (sym (end_of bytes (spell y.0) y.1 at le t.0.parts));
        ends = end_is bytes (spell y.0) y.1 at le t.0.parts;
        within = omega arith;
      })
  spelt_in x (Err stop) fits is e = absurd cc

  pub is_found : {E : Type 0} (fault : E → Option Stop) (told : Result (A × ℕ) E) → IsBytes bytes → AnswersUnlessFull fault (λ x. x) told (placed (length bytes) (read (drop at bytes))) → IfOk told (Spelt spell Good bytes at)
  is_found fault (Ok x) fits tells = spelt_in x (read (drop at bytes)) fits refl tells
  is_found fault (Err e) fits tells = tt

  pub is_told : {E : Type 0} (fault : E → Option Stop) (told : Result (A × ℕ) E) → AnswersUnlessFull fault (λ x. x) told (placed (length bytes) (read (drop at bytes))) → TellsSpelt fault spell Good bytes at told
  is_told fault told tells a rest good e =
      subst (AnswersUnlessFull fault (λ x. x) told) (ap (placed (length bytes)) (ap read e ∙ r.again a rest good) ∙ (λ i. Ok (a, end_is bytes (spell a) rest at le e i))) tells

-- ---- a reader of all of the bytes

module _ {A : Type 0} {read : Reader A} {spell : A → List ℕ} {Good : A → Type 0} (r : ReadsWhole read spell Good) (bytes : List ℕ) where
  pub all_spelt_in : (a : A) (y : Read A) → IsBytes bytes → read bytes ≡ y → alone (length bytes) y ≡ Ok a → Good a × (bytes ≡ spell a)
  all_spelt_in a (Ok y) fits is e =
      let t = r.takes bytes y.0 y.1 fits is in
      let same : y.0 ≡ a = cc in
      subst (λ (a : A). Good a × (bytes ≡ spell a)) same (t.1, t.0)
  all_spelt_in a (Err stop) fits is e = absurd cc

  pub all_is_found : {E : Type 0} (fault : E → Option Stop) (told : Result A E) → IsBytes bytes → AnswersUnlessFull fault (λ x. x) told (alone (length bytes) (read bytes)) → IfOk told (λ a. Good a × (bytes ≡ spell a))
  all_is_found fault (Ok a) fits tells = all_spelt_in a (read bytes) fits refl tells
  all_is_found fault (Err e) fits tells = tt

  pub all_is_told : {E : Type 0} (fault : E → Option Stop) (told : Result A E) → AnswersUnlessFull fault (λ x. x) told (alone (length bytes) (read bytes)) → TellsWhole fault spell Good bytes told
  all_is_told fault told tells a good e = subst (AnswersUnlessFull fault (λ x. x) told) (ap (alone (length bytes)) (ap read e ∙ r.again a good)) tells

-- and what all of the bytes spell is read of them
pub all_again : {A : Type 0} {read : Reader A} {spell : A → List ℕ} {Good : A → Type 0} → ReadsWhole read spell Good → (a : A) → Good a → alone (length (spell a)) (read (spell a)) ≡ Ok a
all_again {A} {read} {spell} r a good = ap (alone (length (spell a))) (r.again a good)
