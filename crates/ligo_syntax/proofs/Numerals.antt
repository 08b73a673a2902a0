-- What is told at a numeral past its range.
use Rattle.std.proofs.Common.{◌≡◌, ℕ, zero, suc, ◌+◌, ◌<◌, Bool, [], ◌∷◌, ◌++◌, length, take, drop, get_or, cond, refl, sym, ap, subst, ◌∙◌, arith}
use Rattle.std.proofs.Math.ListN.{set}
use Rattle.std.proofs.lemmas.List.{take_more_set}
use Rattle.ligo_tokens.specs.declared.token.Token.{Token}
use Rattle.ligo_syntax.specs.declared.fault.Expected.{Expected}
use Rattle.ligo_syntax.specs.declared.fault.Expected.TheVariants as expected
use Rattle.ligo_syntax.specs.Faults.{smaller}
use Rattle.ligo_syntax.specs.Kinds.{Tokens, sort, next}
use Rattle.ligo_syntax.specs.Verdict.{decls_of, goes_past, kind_at}

-- it stands within the text
pub is_within : (ts : Tokens) (i : ℕ) → next (drop i ts) ≡ 64 → i < length ts
is_within [] zero h = absurd (omega (arith, h))
is_within [] (suc i) h = absurd (omega (arith, h))
is_within (t ∷ ts) zero h = omega arith
is_within (t ∷ ts) (suc i) h =
    let there = is_within ts i h in
    omega (arith, there)

at_numeral : (k : Expected) (front after : Tokens) (t : Token) (past : Bool) → sort t ≡ 64 → past ≡ goes_past (decls_of (front ++ smaller t ∷ [])) →
    kind_at k front (t ∷ after) ≡ cond past expected.NumberInRange k
at_numeral k front after t past wide is = rw (wide, is) refl

dropped : (ts : Tokens) (i : ℕ) (t : Token) → i < length ts → t ≡ get_or ts i t → drop i ts ≡ t ∷ drop (i + 1) ts
dropped [] i t lt is = absurd (omega arith)
dropped (u ∷ ts) zero t lt is = ap (λ (x : Token). x ∷ ts) (sym is)
dropped (u ∷ ts) (suc i) t lt is =
    let k : suc i + 1 ≡ suc (i + 1) = omega arith in
    rw k (dropped ts i t (omega arith) is)

-- by what reading does with a smaller one in its place
pub numeral_there : (k : Expected) (ts : Tokens) (i : ℕ) (t s : Token) (past : Bool) → next (drop i ts) ≡ 64 → t ≡ get_or ts i t → s ≡ smaller t →
    past ≡ goes_past (decls_of (take (i + 1) (set ts i s))) → kind_at k (take i ts) (drop i ts) ≡ cond past expected.NumberInRange k
numeral_there k ts i t s past wide is less h =
    let lt = is_within ts i wide in
    let here = dropped ts i t lt is in
    let sort_is : sort t ≡ 64 = subst (λ (l : Tokens). next l ≡ 64) here wide in
    let read : past ≡ goes_past (decls_of (take i ts ++ smaller t ∷ [])) =
    h ∙ ap (λ (l : Tokens). goes_past (decls_of l)) (take_more_set ts i s lt ∙ ap (λ (x : Token). take i ts ++ x ∷ []) less) in
    subst (λ (l : Tokens). kind_at k (take i ts) l ≡ cond past expected.NumberInRange k) (sym here) (at_numeral k (take i ts) (drop (i + 1) ts) t past sort_is read)
