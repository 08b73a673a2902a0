-- Each spelled token is the one that is read.
use Rattle.std.proofs.Common.{◌≡◌, ◌≢◌, ℕ, ℤ, ◌+◌, ◌<◌, ◌%◌, ◌^◌, ◌≤◌, Bool, true, false, cond, List, [], ◌∷◌, ◌++◌, length, take, None, refl, sym, ap, subst, ◌∙◌, arith, append_assoc}
use Rattle.std.specs.Prelude.{◌==◌, ◌&&◌, ◌||◌, nat_le}
use Rattle.std.specs.List.{prefix_len, flat_map, list_all}
use Rattle.std.proofs.lemmas.List.{length-append, take_at}
use Rattle.std.proofs.lemmas.Bool.Decides.{nat_tests}
use Rattle.std.proofs.lemmas.Bool.{lt-ltb, le-ltb, le-leb, eqb-true}
use Rattle.std.proofs.lemmas.List.Concat.{flat_map-cons}
use Rattle.value_core.specs.Leaves.{is_text, is_blob, is_printable}
use Rattle.micheline_text.specs.declared.gap.Gap.TheVariants as gap
use Rattle.micheline_text.specs.declared.gap.Mode.TheVariants as mode
use Rattle.micheline_text.specs.declared.text.Ending.TheVariants as ending
use Rattle.micheline_text.specs.declared.token.Token.{Token}
use Rattle.micheline_text.specs.declared.token.Token.TheVariants as token
use Rattle.micheline_text.specs.Kinds.{is_digit, is_letter, is_word_byte, is_note_byte, is_hex, begins_note, is_blank, is_plain}
use Rattle.micheline_text.specs.Gaps.{gap_from}
use Rattle.micheline_text.specs.Lexing.{front_token, word_at, note_at, digits_at, begins_hex, number_token, numeral, bytes_token, text_by}
use Rattle.micheline_text.specs.Literals.{signed, decimal_value, unhex, quoted, Quoted}
use Rattle.micheline_text.specs.Layout.{AllAre, Stops, IsNumeral, IsSpelled}
use Rattle.micheline_text.specs.Printed.{escaped}
use Rattle.micheline_text.proofs.Laid.{run_stops, letter_is, note_is, digit_is}

-- the token is read from the front of the bytes, which no gap begins
pub record IsRead (t : Token) (s rest : List ℕ) : Type 0 where
  pub begins : gap_from mode.Between (s ++ rest) ≡ gap.Token (length (s ++ rest))
  pub token : front_token (s ++ rest) ≡ (t, length s)

no_gap : (b : ℕ) (bytes : List ℕ) → is_blank b ≡ false → (b == 35) ≡ false → (b == 47) ≡ false → gap_from mode.Between (b ∷ bytes) ≡ gap.Token (length (b ∷ bytes))
no_gap b bytes blank hash slash = rw (blank, hash, slash) refl

-- ---- words and annotations

word_byte : (b : ℕ) → is_letter b ≡ true → is_word_byte b ≡ true
word_byte b e = rw e refl

word_read : (b : ℕ) (more rest : List ℕ) → is_letter b ≡ true → AllAre is_word_byte more → Stops is_word_byte rest → IsRead (token.Word (b ∷ more)) (b ∷ more) rest
word_read b more rest first all stops =
    let l = letter_is b first in
    let n : prefix_len is_word_byte ((b ∷ more) ++ rest) ≡ length (b ∷ more) = run_stops is_word_byte (b ∷ more) rest (word_byte b first, all) stops in
    let way : front_token ((b ∷ more) ++ rest) ≡ word_at ((b ∷ more) ++ rest) = rw (l.0, l.1, l.2, first) refl in
    record {
      begins = no_gap b (more ++ rest) l.3 l.4 l.5;
      token = way ∙ ap (λ (k : ℕ). (token.Word (take k ((b ∷ more) ++ rest)), k)) n ∙ ap (λ (w : List ℕ). (token.Word w, length (b ∷ more))) (take_at (b ∷ more) rest (length (b ∷ more)) refl);
    }

note_read : (b : ℕ) (more rest : List ℕ) → begins_note b ≡ true → AllAre is_note_byte more → Stops is_note_byte rest → IsRead (token.Note (b ∷ more)) (b ∷ more) rest
note_read b more rest first all stops =
    let l = note_is b first in
    let n : 1 + prefix_len is_note_byte (more ++ rest) ≡ length (b ∷ more) = rw (run_stops is_note_byte more rest all stops) (omega arith) in
    let way : front_token ((b ∷ more) ++ rest) ≡ note_at ((b ∷ more) ++ rest) = rw (l.0, l.1, l.2, l.3, first) refl in
    record {
      begins = no_gap b (more ++ rest) l.4 l.5 l.6;
      token = way ∙ ap (λ (k : ℕ). (token.Note (take k ((b ∷ more) ++ rest)), k)) n ∙ ap (λ (w : List ℕ). (token.Note w, length (b ∷ more))) (take_at (b ∷ more) rest (length (b ∷ more)) refl);
    }

-- ---- numbers

pub numeral_is : (below : Bool) (n : ℕ) → n < 2 ^ 127 → numeral below n ≡ token.Number (signed below n)
numeral_is below n small = ap (λ (b : Bool). cond b (token.Number (signed below n)) token.Wide) (lt-ltb n (2 ^ 127) small)

pub wide_is : (below : Bool) (n : ℕ) → 2 ^ 127 ≤ n → numeral below n ≡ token.Wide
wide_is below n wide = ap (λ (b : Bool). cond b (token.Number (signed below n)) token.Wide) (le-ltb n (2 ^ 127) wide)

minus_read : (t : Token) (digits rest : List ℕ) → digits ≢ [] → AllAre is_digit digits → numeral true (decimal_value digits) ≡ t → Stops is_digit rest → IsRead t (45 ∷ digits) rest
minus_read t [] rest some all is stops = absurd (some refl)
minus_read t (d ∷ ds) rest some all is stops =
    let digits : List ℕ = d ∷ ds in
    let n : prefix_len is_digit (digits ++ rest) ≡ length digits = run_stops is_digit digits rest all stops in
    let more : (length digits == 0) ≡ false = grind (arith, nat_tests) in
    let way : front_token ((45 ∷ digits) ++ rest) ≡ cond (length digits == 0) (token.Faulty, 1) (number_token true (take (length digits) (digits ++ rest)), 1 + length digits) =
    ap (λ (k : ℕ). cond (k == 0) (token.Faulty, 1) (number_token true (take k (digits ++ rest)), 1 + k)) n in
    let value : number_token true (take (length digits) (digits ++ rest)) ≡ t = ap (number_token true) (take_at digits rest (length digits) refl) ∙ is in
    let size : 1 + length digits ≡ length (45 ∷ digits) = omega arith in
    record { begins = refl; token = way ∙ rw (more, value, size) refl }

hex_digit_not : (d : ℕ) → is_digit d ≡ true → (d == 120) ≡ false
hex_digit_not d e = grind (arith, nat_tests)

and_false : (a b c : Bool) → c ≡ false → ((a && b) && c) ≡ false
and_false true true c e = e
and_false true false c e = refl
and_false false b c e = refl

and_first : (a b c : Bool) → a ≡ false → ((a && b) && c) ≡ false
and_first true b c e = absurd cc
and_first false b c e = refl

and_middle : (a b c : Bool) → b ≡ false → ((a && b) && c) ≡ false
and_middle true true c e = absurd cc
and_middle true false c e = refl
and_middle false b c e = refl

zero_alone : (d : ℕ) (rest : List ℕ) (is_zero : Bool) → (d == 48) ≡ is_zero → (d ∷ [] ≡ 48 ∷ [] → Stops (λ b. b == 120) rest) → begins_hex (d ∷ rest) ≡ false
zero_alone d [] z is stops = and_first (nat_le 2 1) (d == 48) (0 == 120) refl
zero_alone d (r ∷ rest) false is stops = and_middle (nat_le 2 (length (d ∷ r ∷ rest))) (d == 48) (r == 120) is
zero_alone d (r ∷ rest) true is stops =
    let zero_is : d ≡ 48 = grind (arith, nat_tests) in
    and_false (nat_le 2 (length (d ∷ r ∷ rest))) (d == 48) (r == 120) (stops (ap (λ (x : ℕ). x ∷ []) zero_is))

no_hex : (d : ℕ) (ds rest : List ℕ) → AllAre is_digit ds → (d ∷ ds ≡ 48 ∷ [] → Stops (λ b. b == 120) rest) → begins_hex ((d ∷ ds) ++ rest) ≡ false
no_hex d [] rest all stops = zero_alone d rest (d == 48) refl stops
no_hex d (e ∷ ds) rest all stops = and_false (nat_le 2 (length (d ∷ e ∷ (ds ++ rest)))) (d == 48) (e == 120) (hex_digit_not e all.0)

digits_read : (t : Token) (digits rest : List ℕ) → digits ≢ [] → AllAre is_digit digits → numeral false (decimal_value digits) ≡ t → Stops is_digit rest → (digits ≡ 48 ∷ [] → Stops (λ b. b == 120) rest) →
    IsRead t digits rest
digits_read t [] rest some all is stops hex = absurd (some refl)
digits_read t (d ∷ ds) rest some all is stops hex =
    let digits : List ℕ = d ∷ ds in
    let l = digit_is d all.0 in
    let n : prefix_len is_digit (digits ++ rest) ≡ length digits = run_stops is_digit digits rest all stops in
    let way : front_token (digits ++ rest) ≡ digits_at (digits ++ rest) = rw (l.0, l.1, all.0) refl in
    let decimal : digits_at (digits ++ rest) ≡ (number_token false (take (prefix_len is_digit (digits ++ rest)) (digits ++ rest)), prefix_len is_digit (digits ++ rest)) = rw (no_hex d ds rest all.1 hex) refl in
    let value : number_token false (take (length digits) (digits ++ rest)) ≡ t = ap (number_token false) (take_at digits rest (length digits) refl) ∙ is in
    record {
      begins = no_gap d (ds ++ rest) l.2 l.3 l.4;
      token = way ∙ decimal ∙ ap (λ (k : ℕ). (number_token false (take k (digits ++ rest)), k)) n ∙ ap (λ (x : Token). (x, length digits)) value;
    }

-- ---- byte literals

hex_begins : (bytes : List ℕ) → begins_hex (48 ∷ 120 ∷ bytes) ≡ true
hex_begins bytes = ap (λ (b : Bool). (b && true) && true) (le-leb 2 (length (48 ∷ 120 ∷ bytes)) (omega arith))

whole_bytes : (digits : List ℕ) → (length digits % 2 == 0) ≡ true → is_blob (unhex None digits) ≡ true → bytes_token digits ≡ token.Bytes (unhex None digits)
whole_bytes digits pairs small = rw (pairs, small) refl

bytes_read : (digits rest : List ℕ) → AllAre is_hex digits → length digits % 2 ≡ 0 → is_blob (unhex None digits) ≡ true → Stops is_hex rest → IsRead (token.Bytes (unhex None digits)) (48 ∷ 120 ∷ digits) rest
bytes_read digits rest all even small stops =
    let bytes : List ℕ = digits ++ rest in
    let n : prefix_len is_hex bytes ≡ length digits = run_stops is_hex digits rest all stops in
    let way : front_token (48 ∷ 120 ∷ bytes) ≡ (bytes_token (take (prefix_len is_hex bytes) bytes), 2 + prefix_len is_hex bytes) = rw (hex_begins bytes) refl in
    let pairs : (length digits % 2 == 0) ≡ true = rw even refl in
    let value : bytes_token (take (length digits) bytes) ≡ token.Bytes (unhex None digits) =
    ap bytes_token (take_at digits rest (length digits) refl) ∙ whole_bytes digits pairs small in
    let size : 2 + length digits ≡ length (48 ∷ 120 ∷ digits) = omega arith in
    record { begins = refl; token = way ∙ ap (λ (k : ℕ). (bytes_token (take k bytes), 2 + k)) n ∙ rw (value, size) refl }

-- ---- strings

abbrev pub Reads : ℕ → List ℕ → List ℕ → Type 0
Reads b s rest = quoted false (s ++ rest) ≡ (b ∷ (quoted false rest).0, length s + (quoted false rest).1, (quoted false rest).2)

is_number : (b n : ℕ) → (b == n) ≡ true → n ≡ b
is_number b n e = sym (eqb-true b n e)

newline_read : (b : ℕ) (rest : List ℕ) → (b == 10) ≡ true → Reads b (92 ∷ 110 ∷ []) rest
newline_read b rest n =
    let ten = is_number b 10 n in
    let count : 1 + (1 + (quoted false rest).1) ≡ 2 + (quoted false rest).1 = omega arith in
    λ i. (ten i ∷ (quoted false rest).0, count i, (quoted false rest).2)

slash_read : (b : ℕ) (rest : List ℕ) → (b == 110) ≡ false → ((b == 34) || (b == 92)) ≡ true → Reads b (92 ∷ b ∷ []) rest
slash_read b rest n q =
    let step : quoted false (92 ∷ b ∷ rest) ≡ (b ∷ (quoted false rest).0, 1 + (1 + (quoted false rest).1), (quoted false rest).2) = rw (n, q) refl in
    let count : 1 + (1 + (quoted false rest).1) ≡ 2 + (quoted false rest).1 = omega arith in
    step ∙ (λ i. (b ∷ (quoted false rest).0, count i, (quoted false rest).2))

plain_read : (b : ℕ) (rest : List ℕ) → (b == 34) ≡ false → (b == 92) ≡ false → is_plain b ≡ true → Reads b (b ∷ []) rest
plain_read b rest q s p = rw (q, s, p) refl

-- how a byte of a string is spelled, and read again
pub escaped_read : (b : ℕ) (rest : List ℕ) → is_printable b ≡ true → Reads b (escaped b) rest
escaped_read b rest e = newline (b == 10) refl
  where
    plain : (quote slash : Bool) → (b == 34) ≡ quote → (b == 92) ≡ slash → (b == 10) ≡ false → Reads b (escaped b) rest
    plain true slash q s n =
        let is : escaped b ≡ 92 ∷ b ∷ [] = rw (n, q) refl in
        let other : (b == 110) ≡ false = grind (arith, nat_tests) in
        subst (λ (x : List ℕ). Reads b x rest) (sym is) (slash_read b rest other (rw q refl))
    plain false true q s n =
        let is : escaped b ≡ 92 ∷ b ∷ [] = rw (n, q, s) refl in
        let other : (b == 110) ≡ false = grind (arith, nat_tests) in
        subst (λ (x : List ℕ). Reads b x rest) (sym is) (slash_read b rest other (rw (q, s) refl))
    plain false false q s n =
        let is : escaped b ≡ b ∷ [] = rw (n, q, s) refl in
        let shown : is_plain b ≡ true = rw n at e in
        subst (λ (x : List ℕ). Reads b x rest) (sym is) (plain_read b rest q s shown)

    newline : (is : Bool) → (b == 10) ≡ is → Reads b (escaped b) rest
    newline true n = let is : escaped b ≡ 92 ∷ 110 ∷ [] = rw n refl in subst (λ (x : List ℕ). Reads b x rest) (sym is) (newline_read b rest n)
    newline false n = plain (b == 34) (b == 92) refl refl n

pub both : (a b : Bool) → (a && b) ≡ true → (a ≡ true) × (b ≡ true)
both true b e = (refl, e)
both false b e = absurd cc

string_read : (t rest : List ℕ) → list_all is_printable t ≡ true → quoted false (flat_map escaped t ++ 34 ∷ rest) ≡ (t, length (flat_map escaped t) + 1, ending.Closed)
string_read [] rest all = refl
string_read (b ∷ t) rest all =
    let p = both (is_printable b) (list_all is_printable t) all in
    let later = string_read t rest p.1 in
    let body : List ℕ = flat_map escaped t in
    let split : flat_map escaped (b ∷ t) ≡ escaped b ++ body = flat_map-cons escaped b t in
    let one : quoted false (escaped b ++ (body ++ 34 ∷ rest)) ≡ (b ∷ t, length (escaped b) + (length body + 1), ending.Closed) =
    escaped_read b (body ++ 34 ∷ rest) p.0 ∙ ap (λ (q : Quoted). (b ∷ q.0, length (escaped b) + q.1, q.2)) later in
    let count : length (escaped b) + (length body + 1) ≡ length (escaped b ++ body) + 1 = omega (arith, length-append (escaped b) body) in
    ap (λ (x : List ℕ). quoted false (x ++ 34 ∷ rest)) split ∙ ap (quoted false) (append_assoc (escaped b) body (34 ∷ rest)) ∙ one
    ∙ (λ i. (b ∷ t, count i, ending.Closed)) ∙ ap (λ (x : List ℕ). (b ∷ t, length x + 1, ending.Closed)) (sym split)

text_read : (t rest : List ℕ) → is_text t ≡ true → IsRead (token.Text t) (34 ∷ (flat_map escaped t ++ 34 ∷ [])) rest
text_read t rest ok =
    let printable = both (is_blob t) (list_all is_printable t) ok in
    let body : List ℕ = flat_map escaped t in
    let bytes : List ℕ = (34 ∷ (body ++ 34 ∷ [])) ++ rest in
    let regrouped : bytes ≡ 34 ∷ (body ++ 34 ∷ rest) = ap (λ (x : List ℕ). 34 ∷ x) (append_assoc body (34 ∷ []) rest) in
    let way : front_token (34 ∷ (body ++ 34 ∷ rest)) ≡ (text_by ending.Closed t, 1 + (length body + 1)) = ap (λ (q : Quoted). (text_by q.2 q.0, 1 + q.1)) (string_read t rest printable.1) in
    let value : text_by ending.Closed t ≡ token.Text t = rw ok refl in
    let count : 1 + (length body + 1) ≡ length (34 ∷ (body ++ 34 ∷ [])) = omega (arith, length-append body (34 ∷ [])) in
    record { begins = refl; token = ap front_token regrouped ∙ way ∙ (λ i. (value i, count i)) }

-- ---- any token

pub numeral_read : (t : Token) (below : Bool) (digits s rest : List ℕ) → IsNumeral below digits s rest → numeral below (decimal_value digits) ≡ t → IsRead t s rest
numeral_read t true digits s rest n is = subst (λ (x : List ℕ). IsRead t x rest) (sym n.0) (minus_read t digits rest n.1 n.2 is n.3)
numeral_read t false digits s rest n is =
    subst (λ (x : List ℕ). IsRead t x rest) (sym n.0) (digits_read t digits rest n.1 n.2 is n.3 (λ zero_is. n.4 (n.0 ∙ zero_is)))

pub spelled_read : (t : Token) (s rest : List ℕ) → IsSpelled t s rest → IsRead t s rest
spelled_read (token.Number z) s rest p = numeral_read (token.Number z) p.0 p.1 s rest p.2 (numeral_is p.0 (decimal_value p.1) p.3 ∙ ap (λ (x : ℤ). token.Number x) (sym p.4))
spelled_read (token.Text t) s rest p = subst (λ (x : List ℕ). IsRead (token.Text t) x rest) (sym p.0) (text_read t rest p.1)
spelled_read (token.Bytes t) s rest p =
    subst (λ (x : List ℕ). IsRead (token.Bytes t) x rest) (sym p.1)
    (subst (λ (y : List ℕ). IsRead (token.Bytes y) (48 ∷ 120 ∷ p.0) rest) (sym p.4) (bytes_read p.0 rest p.2 p.3 (ap is_blob (sym p.4) ∙ p.5) p.6))
spelled_read (token.Word w) s rest p =
    subst (λ (y : List ℕ). IsRead (token.Word y) s rest) (sym p.3)
    (subst (λ (x : List ℕ). IsRead (token.Word x) x rest) (sym p.2) (word_read p.0 p.1 rest p.4 p.5 p.6))
spelled_read (token.Note w) s rest p =
    subst (λ (y : List ℕ). IsRead (token.Note y) s rest) (sym p.3)
    (subst (λ (x : List ℕ). IsRead (token.Note x) x rest) (sym p.2) (note_read p.0 p.1 rest p.4 p.5 p.6))
spelled_read token.OpenBrace s rest p = subst (λ (x : List ℕ). IsRead token.OpenBrace x rest) (sym p) (record { begins = refl; token = refl })
spelled_read token.CloseBrace s rest p = subst (λ (x : List ℕ). IsRead token.CloseBrace x rest) (sym p) (record { begins = refl; token = refl })
spelled_read token.OpenParen s rest p = subst (λ (x : List ℕ). IsRead token.OpenParen x rest) (sym p) (record { begins = refl; token = refl })
spelled_read token.CloseParen s rest p = subst (λ (x : List ℕ). IsRead token.CloseParen x rest) (sym p) (record { begins = refl; token = refl })
spelled_read token.Semicolon s rest p = subst (λ (x : List ℕ). IsRead token.Semicolon x rest) (sym p) (record { begins = refl; token = refl })
spelled_read token.Wide s rest p = absurd p
spelled_read token.OpenText s rest p = absurd p
spelled_read token.OpenComment s rest p = absurd p
spelled_read token.Faulty s rest p = absurd p
