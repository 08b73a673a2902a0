-- Reading one item after another, as a loop does.
use Rattle.std.proofs.Common.{◌≡◌, ℕ, suc, ◌-◌, ◌+◌, ◌≤◌, ◌<◌, List, [], ◌∷◌, ◌++◌, Option, Some, None, Ok, Err, refl, sym, ap, ◌∙◌, append_assoc, arith}
use Rattle.std.proofs.lemmas.List.{append-nil}
use Rattle.byte_fields.specs.Stops.{Stop}
use Rattle.byte_fields.specs.Readers.{Read, Reader, after, chained}
use Rattle.byte_fields.specs.Told.{IsStop}

-- what was read before, and what is still read
abbrev pub with_front : {A : Type 0} → List A → Read (List A) → Read (List A)
with_front front read = after read (λ all end. Ok (front ++ all, end))

regroup : {A : Type 0} (front : List A) (a : A) (read : Read (List A)) →
    with_front front (after read (λ all end. Ok (a ∷ all, end))) ≡ with_front (front ++ a ∷ []) read
regroup front a (Ok x) = ap (λ l. Ok (l, x.1)) (sym (append_assoc front (a ∷ []) x.0))
regroup front a (Err n) = refl

-- one more item, after which the state is the next
pub goes_on : {S A : Type 0} (read : S → Reader A) (next : S → A → S) (state then_state : S) (front : List A) (count i : ℕ) (bytes : List ℕ) (a : A) (rest : List ℕ) (total : Read (List A)) →
    i < count → read state bytes ≡ Ok (a, rest) → next state a ≡ then_state → with_front front (chained read next state (count - i) bytes) ≡ total →
    with_front (front ++ a ∷ []) (chained read next then_state (count - (i + 1)) rest) ≡ total
goes_on read next state then_state front count i bytes a rest total lt was next_is so_far =
    let left : count - i ≡ suc (count - (i + 1)) = omega arith in
    let one : with_front front (chained read next state (count - i) bytes) ≡ with_front (front ++ a ∷ []) (chained read next (next state a) (count - (i + 1)) rest) =
    rw (left, was) (regroup front a (chained read next (next state a) (count - (i + 1)) rest)) in
    ap (λ s. with_front (front ++ a ∷ []) (chained read next s (count - (i + 1)) rest)) (sym next_is) ∙ sym one ∙ so_far

-- a stop of the next item is one of the list
pub stops : {S A : Type 0} (stop : Stop) (read : S → Reader A) (next : S → A → S) (state : S) (front : List A) (count i : ℕ) (bytes : List ℕ) (total : Read (List A)) →
    i < count → read state bytes ≡ Err stop → with_front front (chained read next state (count - i) bytes) ≡ total → total ≡ Err stop
stops stop read next state front count i bytes total lt stopped so_far =
    let left : count - i ≡ suc (count - (i + 1)) = omega arith in
    let one : with_front front (chained read next state (count - i) bytes) ≡ Err stop = rw (left, stopped) refl in
    sym so_far ∙ one

pub ends : {S A : Type 0} (stop : Option Stop) (read : S → Reader A) (next : S → A → S) (state : S) (front : List A) (count i : ℕ) (bytes : List ℕ) (total : Read (List A)) →
    i < count → IsStop stop (read state bytes) → with_front front (chained read next state (count - i) bytes) ≡ total → IsStop stop total
ends None read next state front count i bytes total lt stopped so_far = tt
ends (Some stop) read next state front count i bytes total lt stopped so_far = stops stop read next state front count i bytes total lt stopped so_far

-- no item is left
pub is_done : {S A : Type 0} (read : S → Reader A) (next : S → A → S) (state : S) (front : List A) (count i : ℕ) (bytes : List ℕ) (total : Read (List A)) →
    count ≤ i → with_front front (chained read next state (count - i) bytes) ≡ total → total ≡ Ok (front, bytes)
is_done read next state front count i bytes total le so_far =
    let none : count - i ≡ 0 = omega arith in
    let one : with_front front (chained read next state (count - i) bytes) ≡ Ok (front, bytes) = rw none (ap (λ l. Ok (l, bytes)) (append-nil front)) in
    sym so_far ∙ one
