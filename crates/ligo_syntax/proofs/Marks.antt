-- Tokens that stand in front, as many as there are: what counting them reads.
use Rattle.std.proofs.Common.{◌≡◌, ℕ, zero, suc, ◌+◌, ◌-◌, ◌<◌, ◌≤◌, true, false, [], ◌∷◌, ◌++◌, length, take, drop, Ok, refl, sym, ap, subst, ◌∙◌, arith}
use Rattle.std.proofs.lemmas.List.{append-nil, take_all, length-drop}
use Rattle.ligo_tokens.specs.declared.token.Token.{Token}
use Rattle.ligo_syntax.specs.declared.fault.Expected.TheVariants as expected
use Rattle.ligo_syntax.specs.Kinds.{Tokens, Kinds, sort, next, has}
use Rattle.ligo_syntax.specs.Readers.{Read, loop}
use Rattle.ligo_syntax.specs.TypeReading.{token}
use Rattle.ligo_syntax.proofs.RuleLaws.{taken}
use Rattle.ligo_syntax.proofs.Turns.{with_front, goes_on, stops_at}

-- the token at a place
pub token_there : (i : ℕ) (ts : Tokens) → i < length ts → (t : Token) × (drop i ts ≡ t ∷ drop (i + 1) ts) × (take (i + 1) ts ≡ take i ts ++ t ∷ [])
token_there i [] lt = absurd (omega arith)
token_there zero (t ∷ ts) lt = (t, refl, refl)
token_there (suc i) (t ∷ ts) lt =
    let there = token_there i ts (omega arith) in
    let k : suc i + 1 ≡ suc (i + 1) = omega arith in
    (there.0, rw k (there.1), rw k (ap (λ (l : Tokens). t ∷ l) (there.2)))

-- what stands from a place on
pub rest_whole : (i : ℕ) (ts : Tokens) → take (length ts - i) (drop i ts) ≡ drop i ts
rest_whole i ts = take_all (length ts - i) (drop i ts) (rw (length-drop i ts) (omega arith))

-- one more of them
pub mark_on : (K : Kinds) (i : ℕ) (ts : Tokens) (total : Read Tokens) → i < length ts → has K (next (drop i ts)) ≡ true →
    with_front (take i ts) (loop K (token K) (length ts - i) (drop i ts)) ≡ total →
    with_front (take (i + 1) ts) (loop K (token K) (length ts - (i + 1)) (drop (i + 1) ts)) ≡ total
mark_on K i ts total lt is so_far =
    let there = token_there i ts lt in
    let one : has K (sort there.0) ≡ true = subst (λ (l : Tokens). has K (next l) ≡ true) (there.1) is in
    let h : token K (drop i ts) ≡ Ok (there.0, drop (i + 1) ts) =
    subst (λ (l : Tokens). token K l ≡ Ok (there.0, drop (i + 1) ts)) (sym (there.1)) (taken expected.Token K there.0 (drop (i + 1) ts) one) in
    subst (λ (front : Tokens). with_front front (loop K (token K) (length ts - (i + 1)) (drop (i + 1) ts)) ≡ total) (sym (there.2))
    (goes_on (token K) K (take i ts) (length ts) i (drop i ts) there.0 (drop (i + 1) ts) total lt is h so_far)

-- there is no further one
pub marks_stop : (K : Kinds) (i : ℕ) (ts : Tokens) (total : Read Tokens) → has K (next (drop i ts)) ≡ false →
    with_front (take i ts) (loop K (token K) (length ts - i) (drop i ts)) ≡ total → total ≡ Ok (take i ts, drop i ts)
marks_stop K i ts total is so_far = stops_at (token K) K (take i ts) (length ts - i) (drop i ts) total is so_far

-- all of them are
pub marks_end : (K : Kinds) (i : ℕ) (ts : Tokens) (total : Read Tokens) → length ts ≤ i →
    with_front (take i ts) (loop K (token K) (length ts - i) (drop i ts)) ≡ total → total ≡ Ok (take i ts, drop i ts)
marks_end K i ts total le so_far =
    let k : length ts - i ≡ 0 = omega arith in
    let one : with_front (take i ts) (loop K (token K) (length ts - i) (drop i ts)) ≡ Ok (take i ts, drop i ts) =
    rw k (ap (λ (l : Tokens). Ok (l, drop i ts)) (append-nil (take i ts))) in
    sym so_far ∙ one
