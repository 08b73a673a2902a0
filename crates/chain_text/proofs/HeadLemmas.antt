-- The lines of a text, one after another, as far as each is ASCII.
use Rattle.std.proofs.Common.{◌≡◌, ℕ, ◌+◌, ◌<◌, ◌≤◌, suc, Bool, true, false, List, [], ◌∷◌, length, get_or, inl, inr, refl, sym, ap, ◌∙◌, arith}
use Rattle.std.specs.Bool.{MatchBool}
use Rattle.std.specs.Char.{is_ascii}
use Rattle.std.specs.List.{list_all}
use Rattle.std.specs.Str.{IsAscii, IsNotAscii}
use Rattle.std.proofs.lemmas.Bool.{cases_lt}
use Rattle.std.proofs.lemmas.Bool.Decides.{nat_tests}
use Rattle.std.proofs.lemmas.List.{get_or_past}
use Rattle.std.proofs.lemmas.List.Folds.{list_all_at}
use Rattle.value_core.proofs.Bools.{both_true}
use Rattle.chain_text.specs.Heads.{all_ascii}

small_is_ascii : (b : ℕ) → b < 128 → is_ascii b ≡ true
small_is_ascii b small = grind (arith, nat_tests)

great_is_none : (b : ℕ) → 128 ≤ b → is_ascii b ≡ false
great_is_none b great = grind (arith, nat_tests)

ascii_all : (line : List ℕ) → IsAscii line → list_all is_ascii line ≡ true
ascii_all [] is = refl
ascii_all (b ∷ line) is = both_true (is_ascii b) (list_all is_ascii line) (small_is_ascii b (is 0)) (ascii_all line (λ i. is (suc i)))

not_all : (line : List ℕ) → IsNotAscii line → list_all is_ascii line ≡ false
not_all line is =
    let great : 128 ≤ get_or line is.0 0 = is.1 in
    elim (cases_lt is.0 (length line)) [
      | inl within ↦ list_all_at is_ascii line is.0 0 within (great_is_none (get_or line is.0 0) great)
      | inr past ↦ absurd (let none : get_or line is.0 0 ≡ 0 = get_or_past line is.0 0 past in omega arith)
    ]

-- the answer on a line
pub ascii_is : (b : Bool) (line : List ℕ) → MatchBool b (IsAscii line) (IsNotAscii line) → list_all is_ascii line ≡ b
ascii_is true line is = ascii_all line is
ascii_is false line is = not_all line is

-- behind a line that is ASCII, the others say the same
pub one_passes : (at next : ℕ) (line : List ℕ) (lines others : List (List ℕ)) → lines ≡ line ∷ others → next ≡ at + 1 → list_all is_ascii line ≡ true → all_ascii next others ≡ all_ascii at lines
one_passes at next line lines others is behind ascii = ap (λ (n : ℕ). all_ascii n others) behind ∙ sym (ap (all_ascii at) is ∙ rw ascii refl)
