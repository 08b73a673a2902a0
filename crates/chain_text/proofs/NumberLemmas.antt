-- Words that spell numbers: a number has one spelling, which is a decimal, and is what `parse` reads of a word without a sign and a leading zero.
use Rattle.std.proofs.Common.{◌≡◌, ◌≢◌, ℕ, ◌^◌, ◌≤◌, ◌<◌, Bool, true, false, List, length, get_or, Option, Some, None, Result, Ok, Err, refl, sym, ap, subst, ◌∙◌, arith, inl, inr}
use Rattle.std.specs.Prelude.{nat_le, nat_lt, ◌==◌, ◌&&◌, ◌||◌, ◌⊎◌, if◌then◌else◌}
use Rattle.std.specs.Option.{SomeIff}
use Rattle.std.specs.Result.{result_ok}
use Rattle.std.specs.Str.{bytes_eq, IsAscii, IsUtf8}
use Rattle.std.specs.Str.Parse.{AllDigits, IsNumeral, digits_value, ParsesUnsigned}
use Rattle.std.specs.Fmt.{decimal}
use Rattle.std.proofs.lemmas.Bool.{leb-true, le-leb, lt-ltb, ltb-true, ltb-false, eqb-true, eq-eqb, cases_eq, cases_lt}
use Rattle.std.proofs.lemmas.List.{get_or_past}
use Rattle.std.proofs.lemmas.Slice.Eq.{bytes_eq-Decides}
use Rattle.std.proofs.lemmas.Str.Parse.{IsNumeralModel, parse_plain, not_in_digits}
use Rattle.std.proofs.lemmas.Str.{IsUtf8-from_ascii}
use Rattle.std.proofs.lemmas.Fmt.{IsAscii-decimal, decimal_is_IsNumeral, decimal-digits_value, decimal_digit, first_decimal}
use Rattle.chain_text.specs.Numbers.{number_of, most_number, NumbersHaveOneSpelling, IsDecimal, NumbersAreDecimals}
use Rattle.chain_text.specs.Inside.{begins_otherwise}

-- digits and their value are std's own words
own : IsNumeralModel (AllDigits 10) (digits_value 10)
own = record { to = λ ds d. d; from = λ ds d. d; same = λ ds d. refl }

-- ---- the three tests of a number

passes : (a b c : Bool) (m n : ℕ) → ◌≡◌ {A = Option ℕ} (if a && b && c then Some m else None) (Some n) → (a ≡ true) × (b ≡ true) × (c ≡ true) × (m ≡ n)
passes true true true m n e = let same : m ≡ n = cc in (refl, refl, refl, same)
passes true true false m n e = absurd cc
passes true false c m n e = absurd cc
passes false b c m n e = absurd cc

passed : (a b c : Bool) (m n : ℕ) → a ≡ true → b ≡ true → c ≡ true → m ≡ n → ◌≡◌ {A = Option ℕ} (if a && b && c then Some m else None) (Some n)
passed true true true m n p q r e = ap (λ (k : ℕ). Some k) e
passed true true false m n p q r e = absurd cc
passed true false c m n p q r e = absurd cc
passed false b c m n p q r e = absurd cc

spelt : (low high n : ℕ) (word : List ℕ) → number_of low high word ≡ Some n → (word ≡ decimal n) × (low ≤ n) × (n ≤ high)
unfolding number_of
spelt low high n word e =
    let m = digits_value 10 word in
    let t = passes (bytes_eq word (decimal m)) (nat_le low m) (nat_le m high) m n e in
    let is : word ≡ decimal m = (bytes_eq-Decides word (decimal m)).0 t.0 in
    (subst (λ (k : ℕ). word ≡ decimal k) t.3 is, subst (λ (k : ℕ). low ≤ k) t.3 (leb-true low m t.1), subst (λ (k : ℕ). k ≤ high) t.3 (leb-true m high t.2))

pub read : (low high n : ℕ) (word : List ℕ) → high ≤ most_number → word ≡ decimal n → low ≤ n → n ≤ high → number_of low high word ≡ Some n
unfolding number_of
read low high n word most is at_least at_most =
    let m = digits_value 10 word in
    let small : n < 2 ^ 64 = omega arith in
    let value : m ≡ n = ap (digits_value 10) is ∙ (decimal_is_IsNumeral n small).1 in
    passed (bytes_eq word (decimal m)) (nat_le low m) (nat_le m high) m n
    ((bytes_eq-Decides word (decimal m)).1 (is ∙ ap decimal (sym value)))
    (le-leb low m (subst (λ (k : ℕ). low ≤ k) (sym value) at_least))
    (le-leb m high (subst (λ (k : ℕ). k ≤ high) (sym value) at_most)) value

pub one_spelling : NumbersHaveOneSpelling
one_spelling low high n word most = (λ e. spelt low high n word e, λ p. read low high n word most p.0 p.1 p.2)

-- ---- words that spell no number

no_number : (o : Option ℕ) → ((n : ℕ) → o ≡ Some n → ⊥) → o ≡ None
no_number None never = refl
no_number (Some n) never = absurd (never n refl)

-- the word is a numeral of a number that fits
record Numeral (word : List ℕ) (n : ℕ) : Type 0 where
  small : n < 2 ^ 64
  is : word ≡ decimal n
  digits : IsNumeral 10 word

numeral : (word : List ℕ) (n : ℕ) → number_of 0 most_number word ≡ Some n → Numeral word n
numeral word n e =
    let s = spelt 0 most_number n word e in
    let small : n < 2 ^ 64 = let le = s.2 in omega arith in
    record { small = small; is = s.0; digits = subst (IsNumeral 10) (sym s.0) (decimal_is_IsNumeral n small).0 }

pub signed_is_none : (word : List ℕ) → get_or word 0 0 ≡ 43 → number_of 0 most_number word ≡ None
signed_is_none word plus = no_number (number_of 0 most_number word) (λ n e.
    let m = numeral word n e in
    not_in_digits own word 43 m.digits.1 (λ r. omega arith) 0 m.digits.0 plus)

-- the spelling of a number begins with 0 only where it is `0`
zero_is_alone : (n : ℕ) → n < 2 ^ 64 → get_or (decimal n) 0 0 ≡ 48 → length (decimal n) ≡ 1
zero_is_alone n small first =
    elim (cases_eq n 0) [
      | inl none ↦ ap length (ap decimal none ∙ decimal_digit 0 (omega arith))
      | inr some ↦ let more : 48 < get_or (decimal n) 0 0 = first_decimal n (omega arith) small in absurd (omega arith)
    ]

pub zero_first_is_none : (word : List ℕ) → get_or word 0 0 ≡ 48 → 1 < length word → number_of 0 most_number word ≡ None
zero_first_is_none word zero long = no_number (number_of 0 most_number word) (λ n e.
    let m = numeral word n e in
    let alone : length (decimal n) ≡ 1 = zero_is_alone n m.small (ap (λ (w : List ℕ). get_or w 0 0) (sym m.is) ∙ zero) in
    let one : length word ≡ 1 = ap length m.is ∙ alone in
    omega arith)

-- ---- words that spell numbers are decimals

is_decimal : (n : ℕ) → n < 2 ^ 64 → IsDecimal (decimal n)
is_decimal n small = record { digits = (decimal_is_IsNumeral n small).0; zero = zero_is_alone n small }

pub are_decimals : NumbersAreDecimals
are_decimals low high n word most = (
  λ e.
      let s = spelt low high n word e in
      let small : n < 2 ^ 64 = let le = s.2 in omega arith in
      (subst IsDecimal (sym s.0) (is_decimal n small), ap (digits_value 10) s.0 ∙ (decimal_is_IsNumeral n small).1, s.1, s.2),
  λ p.
      let value : digits_value 10 word ≡ n = p.1 in
      let small : digits_value 10 word < 2 ^ 64 = let le = p.3 in omega arith in
      let is : decimal (digits_value 10 word) ≡ word = decimal-digits_value own word p.0.digits.1 p.0.digits.0 p.0.zero small in
      read low high n word most (sym is ∙ ap decimal value) p.2 p.3,
)

-- ---- what `parse` reads

module _ {E : Type 0} (word : List ℕ) (r : Result ℕ E) (parses : ParsesUnsigned 64 10 word r) (plain : get_or word 0 0 ≢ 43) (zero : get_or word 0 0 ≡ 48 → length word ≡ 1) where
  pub parsed_is : (n : ℕ) → r ≡ Ok n → number_of 0 most_number word ≡ Some n
  parsed_is n ok =
      let is_ok : Result ℕ E = Ok n in
      let fits_ok : ParsesUnsigned 64 10 word is_ok = subst (λ (x : Result ℕ E). ParsesUnsigned 64 10 word x) ok parses in
      let p = parse_plain own 64 word is_ok fits_ok plain in
      let fits : digits_value 10 word < 2 ^ 64 = p.0.2 in
      let is : decimal (digits_value 10 word) ≡ word = decimal-digits_value own word p.0.0 p.0.1 zero fits in
      let value : n ≡ digits_value 10 word = p.1 in
      read 0 most_number n word (omega arith) (sym is ∙ ap decimal (sym value)) (omega arith) (omega arith)

  pub unparsed_is : (x : E) → r ≡ Err x → number_of 0 most_number word ≡ None
  unparsed_is x err = no_number (number_of 0 most_number word) (λ n e.
      let m = numeral word n e in
      let value : digits_value 10 word ≡ n = ap (digits_value 10) m.is ∙ (decimal_is_IsNumeral n m.small).1 in
      let small : n < 2 ^ 64 = m.small in
      parse_plain own 64 word (Err x) (subst (ParsesUnsigned 64 10 word) err parses) plain (m.digits.1, m.digits.0, omega arith))

-- ---- narrower bounds

bounded_is : (low high n : ℕ) (word : List ℕ) → high ≤ most_number → number_of 0 most_number word ≡ Some n → low ≤ n → n ≤ high → number_of low high word ≡ Some n
bounded_is low high n word most e at_least at_most = read low high n word most (spelt 0 most_number n word e).0 at_least at_most

unbounded_is_none : (low high n : ℕ) (word : List ℕ) → high ≤ most_number → number_of 0 most_number word ≡ Some n → ((low ≤ n) × (n ≤ high) → ⊥) → number_of low high word ≡ None
unbounded_is_none low high n word most e out = no_number (number_of low high word) (λ m f.
    let s = spelt low high m word f in
    let whole : number_of 0 most_number word ≡ Some m = read 0 most_number m word (omega arith) s.0 (omega arith) (let le = s.2 in omega arith) in
    let same : m ≡ n = let both : Some m ≡ Some n = sym whole ∙ e in cc in
    out (subst (λ (k : ℕ). (low ≤ k) × (k ≤ high)) same (s.1, s.2)))

pub none_is_none : (low high : ℕ) (word : List ℕ) → high ≤ most_number → number_of 0 most_number word ≡ None → number_of low high word ≡ None
none_is_none low high word most e = no_number (number_of low high word) (λ m f.
    let s = spelt low high m word f in
    let whole : number_of 0 most_number word ≡ Some m = read 0 most_number m word (omega arith) s.0 (omega arith) (let le = s.2 in omega arith) in
    let none : None ≡ Some m = sym e ∙ whole in cc)

-- the number, where it is within the bounds
pub bounded : (low high n : ℕ) (word : List ℕ) (o : Option ℕ) → high ≤ most_number → number_of 0 most_number word ≡ Some n → SomeIff o ((low ≤ n) × (n ≤ high)) n → o ≡ number_of low high word
bounded low high n word None most e out = sym (unbounded_is_none low high n word most e out)
bounded low high n word (Some m) most e within = ap (λ (k : ℕ). Some k) within.1 ∙ sym (bounded_is low high n word most e within.0.0 within.0.1)

-- ---- words that begin otherwise than numbers do

-- what the test of the first bytes says
unlike : (word : List ℕ) (some plus zero long : Bool) → (some && (plus || (zero && long))) ≡ true → (plus ≡ true) ⊎ ((zero ≡ true) × (long ≡ true))
unlike word true true zero long e = inl refl
unlike word true false true true e = inr (refl, refl)
unlike word true false true false e = absurd cc
unlike word true false false long e = absurd cc
unlike word false plus zero long e = absurd cc

pub otherwise_is_none : (word : List ℕ) → begins_otherwise word ≡ true → number_of 0 most_number word ≡ None
otherwise_is_none word e =
    elim (unlike word (nat_lt 0 (length word)) (get_or word 0 0 == 43) (get_or word 0 0 == 48) (nat_lt 1 (length word)) e) [
      | inl plus ↦ signed_is_none word (eqb-true (get_or word 0 0) 43 plus)
      | inr p ↦ zero_first_is_none word (eqb-true (get_or word 0 0) 48 p.0) (ltb-true 1 (length word) p.1)
    ]

like : (some plus zero long : Bool) → (some && (plus || (zero && long))) ≡ false → some ≡ true → (plus ≡ false) × (zero ≡ true → long ≡ false)
like true true zero long e s = absurd cc
like true false true true e s = absurd cc
like true false true false e s = (refl, λ z. refl)
like true false false long e s = (refl, λ z. absurd cc)
like false plus zero long e s = absurd cc

module _ (word : List ℕ) (e : begins_otherwise word ≡ false) where
  tests : 0 < length word → ((get_or word 0 0 == 43) ≡ false) × ((get_or word 0 0 == 48) ≡ true → nat_lt 1 (length word) ≡ false)
  tests some = like (nat_lt 0 (length word)) (get_or word 0 0 == 43) (get_or word 0 0 == 48) (nat_lt 1 (length word)) e (lt-ltb 0 (length word) some)

  -- a first byte that isn't 0 is there
  is_there : (c : ℕ) → 0 < c → get_or word 0 0 ≡ c → 0 < length word
  is_there c some first = elim (cases_lt 0 (length word)) [ inl lt ↦ lt | inr none ↦ let past : get_or word 0 0 ≡ 0 = get_or_past word 0 0 none in absurd (omega arith) ]

  pub no_sign : get_or word 0 0 ≢ 43
  no_sign first = let off : (get_or word 0 0 == 43) ≡ false = (tests (is_there 43 (omega arith) first)).0 in let on : (get_or word 0 0 == 43) ≡ true = eq-eqb (get_or word 0 0) 43 first in absurd cc

  pub zero_alone : get_or word 0 0 ≡ 48 → length word ≡ 1
  zero_alone first =
      let some : 0 < length word = is_there 48 (omega arith) first in
      let short : length word ≤ 1 = ltb-false 1 (length word) ((tests some).1 (eq-eqb (get_or word 0 0) 48 first)) in
      omega arith

-- what `parse` reads of a word that begins as a number
pub parsed : {E : Type 0} (word : List ℕ) (r : Result ℕ E) → ParsesUnsigned 64 10 word r → begins_otherwise word ≡ false → result_ok r ≡ number_of 0 most_number word
parsed {E} word (Ok n) parses e =
    let r : Result ℕ E = Ok n in
    let is : r ≡ Ok n = refl in
    sym (parsed_is {E = E} word r parses (no_sign word e) (zero_alone word e) n is)
parsed {E} word (Err x) parses e =
    let r : Result ℕ E = Err x in
    let is : r ≡ Err x = refl in
    sym (unparsed_is {E = E} word r parses (no_sign word e) (zero_alone word e) x is)

-- ---- bytes that are no text

-- a number is spelt in ASCII
pub no_text_is_none : (word : List ℕ) → ¬ (IsUtf8 word) → number_of 0 most_number word ≡ None
no_text_is_none word none = no_number (number_of 0 most_number word) (λ n e.
    let m = numeral word n e in
    none (IsUtf8-from_ascii word (subst IsAscii (sym m.is) (IsAscii-decimal n m.small))))
