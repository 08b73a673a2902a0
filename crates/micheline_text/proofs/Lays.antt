-- Texts that lay out tokens, one after another.
use Rattle.std.proofs.Common.{◌≡◌, ◌≢◌, ℕ, ℤ, suc, ◌+◌, ◌-◌, ◌*◌, ◌/◌, ◌%◌, ◌≤◌, ◌<◌, ◌^◌, ◌⊎◌, inl, inr, Bool, true, false, List, [], ◌∷◌, ◌++◌, length, refl, sym, ap, subst, ◌∙◌, arith, append_assoc}
use Rattle.std.specs.Prelude.{◌==◌, IsTrue, nat_lt, None, pos, negsuc}
use Rattle.std.specs.List.{flat_map}
use Rattle.std.proofs.lemmas.List.Concat.{flat_map-cons}
use Rattle.std.specs.Fmt.{decimal, signed_decimal}
use Rattle.std.proofs.lemmas.Fmt.{decimal_by_steps_wide}
use Rattle.std.proofs.lemmas.List.{length-append}
use Rattle.std.proofs.lemmas.List.Sums.{fold-append}
use Rattle.std.proofs.lemmas.Bool.Decides.{nat_tests}
use Rattle.std.proofs.lemmas.Bool.{ltb-true}
use Rattle.std.proofs.lemmas.Int.{ints}
use Rattle.value_core.specs.Leaves.{IsNumber, is_text, is_blob}
use Rattle.micheline_text.specs.declared.token.Token.{Token}
use Rattle.micheline_text.specs.declared.token.Token.TheVariants as token
use Rattle.micheline_text.specs.Kinds.{is_digit, is_word_byte, is_note_byte, is_hex}
use Rattle.micheline_text.specs.Literals.{decimal_value, signed, unhex, hex_value}
use Rattle.micheline_text.specs.Printed.{escaped, hex_digit, hex_pair}
use Rattle.micheline_text.specs.Layout.{AllAre, Stops, IsGap, IsSpelled, IsLaidOut}
use Rattle.micheline_text.specs.Grammar.{Tokens}
use Rattle.micheline_text.specs.Fits.{IsName, IsNote}

-- what follows a printed node: nothing, a blank, or a parenthesis that closes
abbrev pub Follows : List ℕ → Type 0
Follows [] = Unit {0}
Follows (b ∷ rest) = (b ≡ 32) ⊎ (b ≡ 41)

-- the text is laid out as the tokens, whatever follows
abbrev pub Lays : ℕ → List ℕ → Tokens → Type 0
Lays at text ts = (rest : List ℕ) (us : Tokens) → Follows rest → IsLaidOut (at + length text) rest us → IsLaidOut at (text ++ rest) (ts ++ us)

blank_gap : (blank : List ℕ) → IsGap blank → IsGap (32 ∷ blank)
blank_gap blank g = ((32 ∷ []) ∷ g.0, ap (λ (x : List ℕ). 32 ∷ x) g.1 ∙ sym (flat_map-cons (λ (x : List ℕ). x) (32 ∷ []) g.0), (inl (32, refl, refl), g.2))

-- a blank before the first token
blank_first : (at : ℕ) (bytes : List ℕ) (ts : Tokens) → IsLaidOut (at + 1) bytes ts → IsLaidOut at (32 ∷ bytes) ts
blank_first at bytes [] p = (32 ∷ p.0, p.1, blank_gap p.0 p.2, p.3, last p.4)
  where
    last : (bytes ≡ p.0) ⊎ (bytes ≡ p.0 ++ 35 ∷ p.1) → (32 ∷ bytes ≡ 32 ∷ p.0) ⊎ (32 ∷ bytes ≡ (32 ∷ p.0) ++ 35 ∷ p.1)
    last (inl e) = inl (ap (λ (x : List ℕ). 32 ∷ x) e)
    last (inr e) = inr (ap (λ (x : List ℕ). 32 ∷ x) e)
blank_first at bytes (t ∷ ts) p =
    let place : t.0 ≡ at + length (32 ∷ p.0) = p.5 ∙ omega arith in
    (32 ∷ p.0, p.1, p.2, ap (λ (x : List ℕ). 32 ∷ x) p.3, blank_gap p.0 p.4, place, p.6, p.7)

pub lays_blank : (at : ℕ) (text : List ℕ) (ts : Tokens) → Lays (at + 1) text ts → Lays at (32 ∷ text) ts
lays_blank at text ts h = λ rest us f p.
    let place : at + length (32 ∷ text) ≡ at + 1 + length text = omega arith in
    blank_first at (text ++ rest) (ts ++ us) (h rest us f (subst (λ (k : ℕ). IsLaidOut k rest us) place p))

pub lays_one : (at : ℕ) (s : List ℕ) (t : Token) → ((rest : List ℕ) → Follows rest → IsSpelled t s rest) → Lays at s ((at, t) ∷ [])
lays_one at s t spelled = λ rest us f p.
    let place : at ≡ at + 0 = omega arith in
    ([], s, rest, refl, ([], refl, tt), place, spelled rest f, p)

-- one text behind another
pub lays_then : (at : ℕ) (a b : List ℕ) (ts us : Tokens) → Lays at a ts → Lays (at + length a) b us → ((rest : List ℕ) → Follows rest → Follows (b ++ rest)) → Lays at (a ++ b) (ts ++ us)
lays_then at a b ts us h k f = λ rest vs follows p.
    let place : at + length (a ++ b) ≡ at + length a + length b = omega (arith, length-append a b) in
    let second = k rest vs follows (subst (λ (n : ℕ). IsLaidOut n rest vs) place p) in
    let first = h (b ++ rest) (us ++ vs) (f rest follows) second in
    subst (λ (x : List ℕ). IsLaidOut at x ((ts ++ us) ++ vs)) (sym (append_assoc a b rest)) (subst (IsLaidOut at (a ++ (b ++ rest))) (sym (append_assoc ts us vs)) first)

pub lays_none : (at : ℕ) → Lays at [] []
lays_none at = λ rest us f p. let place : at + 0 ≡ at = omega arith in subst (λ (n : ℕ). IsLaidOut n rest us) place p

-- ---- what stops a token

follows_stops : (test : ℕ → Bool) (rest : List ℕ) → test 32 ≡ false → test 41 ≡ false → Follows rest → Stops test rest
follows_stops test [] blank paren f = tt
follows_stops test (b ∷ rest) blank paren (inl e) = ap test e ∙ blank
follows_stops test (b ∷ rest) blank paren (inr e) = ap test e ∙ paren

-- ---- words and annotations

pub lays_word : (at : ℕ) (w : List ℕ) → IsName w → Lays at w ((at, token.Word w) ∷ [])
lays_word at [] h = absurd h
lays_word at (b ∷ more) h = lays_one at (b ∷ more) (token.Word (b ∷ more)) (λ rest f. (b, more, refl, refl, h.0, h.1, follows_stops is_word_byte rest refl refl f))

pub lays_note : (at : ℕ) (w : List ℕ) → IsNote w → Lays at w ((at, token.Note w) ∷ [])
lays_note at [] h = absurd h
lays_note at (b ∷ more) h = lays_one at (b ∷ more) (token.Note (b ∷ more)) (λ rest f. (b, more, refl, refl, h.0, h.1, follows_stops is_note_byte rest refl refl f))

-- ---- literals

pub lays_text : (at : ℕ) (t : List ℕ) → IsTrue (is_text t) → Lays at (34 ∷ (flat_map escaped t ++ 34 ∷ [])) ((at, token.Text t) ∷ [])
lays_text at t h = lays_one at (34 ∷ (flat_map escaped t ++ 34 ∷ [])) (token.Text t) (λ rest f. (refl, h))

-- the digits of a number, and what they stand for
pub record IsDecimal (n : ℕ) (digits : List ℕ) : Type 0 where
  pub all : AllAre is_digit digits
  pub some : digits ≢ []
  pub value : decimal_value digits ≡ n

digit_shown : (n : ℕ) → n < 10 → is_digit (48 + n) ≡ true
digit_shown n h = grind (arith, nat_tests)

all_push : (test : ℕ → Bool) (xs : List ℕ) (b : ℕ) → AllAre test xs → test b ≡ true → AllAre test (xs ++ b ∷ [])
all_push test [] b h e = (e, tt)
all_push test (x ∷ xs) b h e = (h.0, all_push test xs b h.1 e)

never_nil : (xs : List ℕ) (b : ℕ) → xs ++ b ∷ [] ≢ []
never_nil [] b = λ e. cc
never_nil (x ∷ xs) b = λ e. cc

value_push : (xs : List ℕ) (b : ℕ) → decimal_value (xs ++ b ∷ []) ≡ 10 * decimal_value xs + (b - 48)
value_push xs b = fold-append (λ (n x : ℕ). 10 * n + (x - 48)) 0 xs (b ∷ [])

decimal_one : (n : ℕ) → n < 10 → IsDecimal n ((48 + n) ∷ [])
decimal_one n h = record { all = (digit_shown n h, tt); some = λ e. cc; value = omega arith }

decimal_more : (n : ℕ) (ds : List ℕ) → 10 ≤ n → IsDecimal (n / 10) ds → IsDecimal n (ds ++ (48 + n % 10) ∷ [])
decimal_more n ds h d = record {
  all = all_push is_digit ds (48 + n % 10) d.all (digit_shown (n % 10) (omega arith));
  some = never_nil ds (48 + n % 10);
  value = value_push ds (48 + n % 10) ∙ omega (arith, d.value);
}

pub decimal_is : (n : ℕ) → n < 2 ^ 127 → IsDecimal n (decimal n)
decimal_is n h = decimal_by_steps_wide IsDecimal decimal_one decimal_more n (omega arith)

pub lays_natural : (at n : ℕ) → n < 2 ^ 127 → Lays at (decimal n) ((at, token.Number (pos n)) ∷ [])
lays_natural at n h =
    let d = decimal_is n h in
    let small : decimal_value (decimal n) < 2 ^ 127 = subst (λ (k : ℕ). k < 2 ^ 127) (sym d.value) h in
    lays_one at (decimal n) (token.Number (pos n))
    (λ rest f. (false, decimal n, (refl, d.some, d.all, follows_stops is_digit rest refl refl f, λ e. follows_stops (λ b. b == 120) rest refl refl f), small, ap pos (sym d.value)))

pub lays_below : (at n : ℕ) → suc n < 2 ^ 127 → Lays at (45 ∷ decimal (suc n)) ((at, token.Number (negsuc n)) ∷ [])
lays_below at n h =
    let d = decimal_is (suc n) h in
    let small : decimal_value (decimal (suc n)) < 2 ^ 127 = subst (λ (k : ℕ). k < 2 ^ 127) (sym d.value) h in
    lays_one at (45 ∷ decimal (suc n)) (token.Number (negsuc n))
    (λ rest f. (true, decimal (suc n), (refl, d.some, d.all, follows_stops is_digit rest refl refl f, λ e. follows_stops (λ b. b == 120) rest refl refl f), small, ap (signed true) (sym d.value)))

pub lays_number : (at : ℕ) (z : ℤ) → IsNumber z → Lays at (signed_decimal z) ((at, token.Number z) ∷ [])
lays_number at (pos n) h = lays_natural at n (omega (arith, ints, h.1))
lays_number at (negsuc n) h = lays_below at n (omega (arith, ints, h.0))

-- ---- byte literals

glyph_is : (n : ℕ) → n < 16 → (is_hex (hex_digit n) ≡ true) × (hex_value (hex_digit n) ≡ n)
glyph_is n h = (grind (arith, nat_tests), grind (arith, nat_tests))

pub record IsHex (t digits : List ℕ) : Type 0 where
  pub all : AllAre is_hex digits
  pub even : length digits % 2 ≡ 0
  pub value : unhex None digits ≡ t

pub pairs_are : (t : List ℕ) → AllAre (λ x. nat_lt x 256) t → IsHex t (flat_map hex_pair t)
pairs_are [] h = record { all = tt; even = refl; value = refl }
pairs_are (b ∷ t) h =
    let small : b < 256 = ltb-true b 256 h.0 in
    let high = glyph_is (b / 16) (omega arith) in
    let low = glyph_is (b % 16) (omega arith) in
    let r = pairs_are t h.1 in
    let split : flat_map hex_pair (b ∷ t) ≡ hex_digit (b / 16) ∷ hex_digit (b % 16) ∷ flat_map hex_pair t = flat_map-cons hex_pair b t in
    let byte : 16 * hex_value (hex_digit (b / 16)) + hex_value (hex_digit (b % 16)) ≡ b = rw (high.1, low.1) (omega arith) in
    subst (IsHex (b ∷ t)) (sym split) (record {
      all = (high.0, (low.0, r.all));
      even = omega (arith, r.even);
      value = (λ i. byte i ∷ r.value i);
    })

pub lays_bytes : (at : ℕ) (t : List ℕ) → IsTrue (is_blob t) → AllAre (λ x. nat_lt x 256) t → Lays at (48 ∷ 120 ∷ flat_map hex_pair t) ((at, token.Bytes t) ∷ [])
lays_bytes at t short small =
    let h = pairs_are t small in
    lays_one at (48 ∷ 120 ∷ flat_map hex_pair t) (token.Bytes t) (λ rest f. (flat_map hex_pair t, refl, h.all, h.even, sym h.value, short, follows_stops is_hex rest refl refl f))

-- ---- marks

-- a token of one byte, whatever stands behind it
pub lays_mark : (at m : ℕ) (t : Token) (text : List ℕ) (ts : Tokens) → ((rest : List ℕ) → IsSpelled t (m ∷ []) rest) → Lays (at + 1) text ts → Lays at (m ∷ text) ((at, t) ∷ ts)
lays_mark at m t text ts spelled h = λ rest us f p.
    let place : at ≡ at + 0 = omega arith in
    let behind : at + length (m ∷ text) ≡ at + 1 + length text = omega arith in
    ([], m ∷ [], text ++ rest, refl, ([], refl, tt), place, spelled (text ++ rest), h rest us f (subst (λ (k : ℕ). IsLaidOut k rest us) behind p))
