-- What is read in front is spelled so, or begins nothing.
use Rattle.std.proofs.Common.{◌≡◌, ◌≢◌, ℕ, ◌+◌, ◌%◌, ◌^◌, ◌⊎◌, inl, inr, Bool, true, false, cond, List, [], ◌∷◌, ◌++◌, length, take, drop, None, refl, sym, ap, subst, ◌∙◌, arith, append_assoc}
use Rattle.std.specs.Prelude.{◌==◌, ◌&&◌, ◌||◌, nat_le, nat_lt}
use Rattle.std.specs.List.{prefix_len, flat_map}
use Rattle.std.proofs.lemmas.List.{append-nil, length-append, take_at}
use Rattle.std.proofs.lemmas.Bool.{le-leb, eqb-true, ltb-true, ltb-false, eqb-false}
use Rattle.std.proofs.lemmas.List.Concat.{flat_map-cons}
use Rattle.value_core.specs.Leaves.{is_text, is_blob}
use Rattle.micheline_text.specs.declared.text.Ending.{Ending}
use Rattle.micheline_text.specs.declared.text.Ending.TheVariants as ending
use Rattle.micheline_text.specs.declared.token.Token.{Token}
use Rattle.micheline_text.specs.declared.token.Token.TheVariants as token
use Rattle.micheline_text.specs.Kinds.{is_digit, is_letter, is_word_byte, is_note_byte, is_hex, begins_note, is_plain}
use Rattle.micheline_text.specs.Lexing.{front_token, word_at, note_at, minus_at, digits_at, begins_hex, number_token, bytes_token, text_at, text_by, mark}
use Rattle.micheline_text.specs.Literals.{signed, decimal_value, unhex, quoted, Quoted, said, one_more}
use Rattle.micheline_text.specs.Layout.{AllAre, Stops, IsNumeral, IsSpelled, sign}
use Rattle.micheline_text.specs.Cuts.{IsUnfit}
use Rattle.micheline_text.specs.Printed.{escaped}
use Rattle.micheline_text.proofs.OpenTexts.{slash, plain_spelled, mark_spelled, open_found}

-- the bytes begin with the token, or with none
abbrev pub Begins : List ℕ → Token × ℕ → Type 0
Begins bytes x = (x.0 ≡ token.Faulty) ⊎ ((s rest : List ℕ) × (bytes ≡ s ++ rest) × (length s ≡ x.1) × (IsSpelled x.0 s rest ⊎ IsUnfit x.0 s rest))

pick : (bytes : List ℕ) (v : Bool) (x y : Token × ℕ) → (v ≡ true → Begins bytes x) → (v ≡ false → Begins bytes y) → Begins bytes (cond v x y)
pick bytes true x y f g = f refl
pick bytes false x y f g = g refl

pick_token : (bytes : List ℕ) (v : Bool) (t u : Token) (k : ℕ) → (v ≡ true → Begins bytes (t, k)) → (v ≡ false → Begins bytes (u, k)) → Begins bytes (cond v t u, k)
pick_token bytes true t u k f g = f refl
pick_token bytes false t u k f g = g refl

-- ---- runs

pub record IsRun (test : ℕ → Bool) (xs : List ℕ) : Type 0 where
  pub front : List ℕ
  pub rest : List ℕ
  pub parts : xs ≡ front ++ rest
  pub size : prefix_len test xs ≡ length front
  pub all : AllAre test front
  pub stops : Stops test rest

run_found : (test : ℕ → Bool) (xs : List ℕ) → IsRun test xs
run_found test [] = record { front = []; rest = []; parts = refl; size = refl; all = tt; stops = tt }
run_found test (x ∷ xs) = first (test x) refl (run_found test xs)
  where
    first : (v : Bool) → test x ≡ v → IsRun test xs → IsRun test (x ∷ xs)
    first true e r = record {
      front = x ∷ r.front;
      rest = r.rest;
      parts = ap (λ (l : List ℕ). x ∷ l) r.parts;
      size = rw (e, r.size) (omega arith);
      all = (e, r.all);
      stops = r.stops;
    }
    first false e r = record { front = []; rest = x ∷ xs; parts = refl; size = rw e refl; all = tt; stops = e }

taken_is : (test : ℕ → Bool) (xs : List ℕ) (r : IsRun test xs) → take (prefix_len test xs) xs ≡ r.front
taken_is test xs r = ap (λ (k : ℕ). take k xs) r.size ∙ ap (take (length r.front)) r.parts ∙ take_at r.front r.rest (length r.front) refl

-- ---- marks

mark_begins : (b : ℕ) (rest : List ℕ) → Begins (b ∷ rest) (mark b, 1)
mark_begins b rest =
    one 123 token.OpenBrace (λ s. s) (cond (b == 125) token.CloseBrace (cond (b == 40) token.OpenParen (cond (b == 41) token.CloseParen (cond (b == 59) token.Semicolon token.Faulty))))
    (one 125 token.CloseBrace (λ s. s) (cond (b == 40) token.OpenParen (cond (b == 41) token.CloseParen (cond (b == 59) token.Semicolon token.Faulty)))
    (one 40 token.OpenParen (λ s. s) (cond (b == 41) token.CloseParen (cond (b == 59) token.Semicolon token.Faulty))
    (one 41 token.CloseParen (λ s. s) (cond (b == 59) token.Semicolon token.Faulty)
    (one 59 token.Semicolon (λ s. s) token.Faulty (inl refl)))))
  where
    one : (k : ℕ) (t : Token) → (b ∷ [] ≡ k ∷ [] → IsSpelled t (b ∷ []) rest) → (u : Token) → Begins (b ∷ rest) (u, 1) → Begins (b ∷ rest) (cond (b == k) t u, 1)
    one k t spelled u other = at (b == k) refl
      where
        at : (v : Bool) → (b == k) ≡ v → Begins (b ∷ rest) (cond v t u, 1)
        at true e = inr (b ∷ [], rest, refl, refl, inl (spelled (ap (λ (x : ℕ). x ∷ []) (eqb-true b k e))))
        at false e = other

-- ---- words and annotations

word_begins : (b : ℕ) (rest : List ℕ) → is_letter b ≡ true → Begins (b ∷ rest) (word_at (b ∷ rest))
word_begins b rest first =
    let r = run_found is_word_byte rest in
    let here : is_word_byte b ≡ true = rw first refl in
    let whole : IsRun is_word_byte (b ∷ rest) = record {
      front = b ∷ r.front;
      rest = r.rest;
      parts = ap (λ (l : List ℕ). b ∷ l) r.parts;
      size = rw (here, r.size) (omega arith);
      all = (here, r.all);
      stops = r.stops;
    } in
    inr (b ∷ r.front, r.rest, whole.parts, sym whole.size, inl (b, r.front, refl, taken_is is_word_byte (b ∷ rest) whole, first, r.all, r.stops))

note_begins : (b : ℕ) (rest : List ℕ) → begins_note b ≡ true → Begins (b ∷ rest) (note_at (b ∷ rest))
note_begins b rest first =
    let r = run_found is_note_byte rest in
    let size : length (b ∷ r.front) ≡ 1 + prefix_len is_note_byte rest = omega (arith, r.size) in
    let parts : b ∷ rest ≡ (b ∷ r.front) ++ r.rest = ap (λ (l : List ℕ). b ∷ l) r.parts in
    let said : take (1 + prefix_len is_note_byte rest) (b ∷ rest) ≡ b ∷ r.front = ap (λ (l : List ℕ). take (1 + prefix_len is_note_byte rest) l) parts ∙ take_at (b ∷ r.front) r.rest (1 + prefix_len is_note_byte rest) size in
    inr (b ∷ r.front, r.rest, parts, size, inl (b, r.front, refl, said, first, r.all, r.stops))

-- ---- numbers

-- a numeral is a number or too wide
number_begins : (below : Bool) (digits s rest bytes : List ℕ) (k : ℕ) → bytes ≡ s ++ rest → length s ≡ k → IsNumeral below digits s rest → Begins bytes (number_token below digits, k)
number_begins below digits s rest bytes k parts size numeral_is =
    let n = decimal_value digits in
    pick_token bytes (nat_lt n (2 ^ 127)) (token.Number (signed below n)) token.Wide k
    (λ e. inr (s, rest, parts, size, inl (below, digits, numeral_is, ltb-true n (2 ^ 127) e, refl)))
    (λ e. inr (s, rest, parts, size, inr (below, digits, numeral_is, ltb-false n (2 ^ 127) e)))

-- a numeral behind its sign
numeral_begins : (below : Bool) (digits rest bytes : List ℕ) (k : ℕ) → bytes ≡ (sign below ++ digits) ++ rest → length (sign below ++ digits) ≡ k → digits ≢ [] → AllAre is_digit digits → Stops is_digit rest →
    (sign below ++ digits ≡ 48 ∷ [] → Stops (λ b. b == 120) rest) → Begins bytes (number_token below digits, k)
numeral_begins below digits rest bytes k parts size some all stops hex =
    number_begins below digits (sign below ++ digits) rest bytes k parts size (refl, some, all, stops, hex)

minus_begins : (rest : List ℕ) → Begins (45 ∷ rest) (minus_at (45 ∷ rest))
minus_begins rest =
    let r = run_found is_digit rest in
    let n = prefix_len is_digit rest in
    pick (45 ∷ rest) (n == 0) (token.Faulty, 1) (number_token true (take n rest), 1 + n) (λ e. inl refl)
    (λ e. let some : r.front ≢ [] = λ none. eqb-false n 0 e (r.size ∙ ap length none) in
    let size : length (45 ∷ r.front) ≡ 1 + n = omega (arith, r.size) in
    subst (λ (d : List ℕ). Begins (45 ∷ rest) (number_token true d, 1 + n)) (sym (taken_is is_digit rest r))
    (numeral_begins true r.front r.rest (45 ∷ rest) (1 + n) (ap (λ (l : List ℕ). 45 ∷ l) r.parts) size some r.all r.stops (λ zero_is. absurd cc)))

and_true : (a b : Bool) → (a && b) ≡ true → (a ≡ true) × (b ≡ true)
and_true true b e = (refl, e)
and_true false b e = absurd cc

hex_is : (d e : ℕ) (rest : List ℕ) → begins_hex (d ∷ e ∷ rest) ≡ true → (d ≡ 48) × (e ≡ 120)
hex_is d e rest h =
    let p = and_true (nat_le 2 (length (d ∷ e ∷ rest)) && (d == 48)) (e == 120) h in
    let q = and_true (nat_le 2 (length (d ∷ e ∷ rest))) (d == 48) p.0 in
    (eqb-true d 48 q.1, eqb-true e 120 p.1)

no_hex_is : (e : ℕ) (rest : List ℕ) → begins_hex (48 ∷ e ∷ rest) ≡ false → (e == 120) ≡ false
no_hex_is e rest h = sym (ap (λ (v : Bool). (v && true) && (e == 120)) (le-leb 2 (length (48 ∷ e ∷ rest)) (omega arith))) ∙ h

stops_hex : (bytes front rest : List ℕ) → bytes ≡ front ++ rest → begins_hex bytes ≡ false → front ≡ 48 ∷ [] → Stops (λ b. b == 120) rest
stops_hex bytes front [] parts h zero_is = tt
stops_hex bytes front (e ∷ rest) parts h zero_is = no_hex_is e rest (ap begins_hex (sym (parts ∙ ap (λ (l : List ℕ). l ++ e ∷ rest) zero_is)) ∙ h)

bytes_begins : (rest : List ℕ) → Begins (48 ∷ 120 ∷ rest) (bytes_token (take (prefix_len is_hex rest) rest), 2 + prefix_len is_hex rest)
bytes_begins rest =
    let r = run_found is_hex rest in
    let size : length (48 ∷ 120 ∷ r.front) ≡ 2 + prefix_len is_hex rest = omega (arith, r.size) in
    subst (λ (d : List ℕ). Begins (48 ∷ 120 ∷ rest) (bytes_token d, 2 + prefix_len is_hex rest)) (sym (taken_is is_hex rest r))
    (pick_token (48 ∷ 120 ∷ rest) ((length r.front % 2 == 0) && is_blob (unhex None r.front)) (token.Bytes (unhex None r.front)) token.Faulty (2 + prefix_len is_hex rest)
    (λ e. let q = and_true (length r.front % 2 == 0) (is_blob (unhex None r.front)) e in
    inr (48 ∷ 120 ∷ r.front, r.rest, ap (λ (l : List ℕ). 48 ∷ 120 ∷ l) r.parts, size, inl (r.front, refl, r.all, eqb-true (length r.front % 2) 0 q.0, refl, q.1, r.stops)))
    (λ e. inl refl))

digits_begins : (d : ℕ) (rest : List ℕ) → is_digit d ≡ true → Begins (d ∷ rest) (digits_at (d ∷ rest))
digits_begins d rest first =
    pick (d ∷ rest) (begins_hex (d ∷ rest)) (bytes_token (take (prefix_len is_hex (drop 2 (d ∷ rest))) (drop 2 (d ∷ rest))), 2 + prefix_len is_hex (drop 2 (d ∷ rest)))
    (number_token false (take (prefix_len is_digit (d ∷ rest)) (d ∷ rest)), prefix_len is_digit (d ∷ rest))
    (hexadecimal rest)
    (λ e. let r = run_found is_digit (d ∷ rest) in
    let big : prefix_len is_digit (d ∷ rest) ≡ 1 + prefix_len is_digit rest = rw first refl in
    let some : r.front ≢ [] = λ none. never (sym big ∙ r.size ∙ ap length none) in
    subst (λ (x : List ℕ). Begins (d ∷ rest) (number_token false x, prefix_len is_digit (d ∷ rest))) (sym (taken_is is_digit (d ∷ rest) r))
    (numeral_begins false r.front r.rest (d ∷ rest) (prefix_len is_digit (d ∷ rest)) r.parts (sym r.size) some r.all r.stops (stops_hex (d ∷ rest) r.front r.rest r.parts e)))
  where
    hexadecimal : (tail : List ℕ) → begins_hex (d ∷ tail) ≡ true → Begins (d ∷ tail) (bytes_token (take (prefix_len is_hex (drop 2 (d ∷ tail))) (drop 2 (d ∷ tail))), 2 + prefix_len is_hex (drop 2 (d ∷ tail)))
    hexadecimal [] e = absurd (one_only d e)
      where
        one_only : (c : ℕ) → begins_hex (c ∷ []) ≡ true → ⊥
        one_only c h = let f : false ≡ true = h in cc
    hexadecimal (c ∷ tail) e =
        let p = hex_is d c tail e in
        subst (λ (x : ℕ). Begins (x ∷ c ∷ tail) (bytes_token (take (prefix_len is_hex tail) tail), 2 + prefix_len is_hex tail)) (sym p.0)
        (subst (λ (x : ℕ). Begins (48 ∷ x ∷ tail) (bytes_token (take (prefix_len is_hex tail) tail), 2 + prefix_len is_hex tail)) (sym p.1) (bytes_begins tail))

    never : 1 + prefix_len is_digit rest ≡ 0 → ⊥
    never e = absurd (omega arith)

-- ---- strings

-- a string that ends is spelled so
abbrev pub IsQuoted : Bool → List ℕ → Type 0
IsQuoted e bytes = (quoted e bytes).2 ≡ ending.Closed → (rest : List ℕ) × (slash e ++ bytes ≡ flat_map escaped (quoted e bytes).0 ++ 34 ∷ rest) ×
    (length (slash e) + (quoted e bytes).1 ≡ length (flat_map escaped (quoted e bytes).0) + 1)

-- a byte that is said is spelled before the rest
said_more : (e : Bool) (b c : ℕ) (bytes : List ℕ) → slash e ++ b ∷ [] ≡ escaped c → quoted e (b ∷ bytes) ≡ said c (quoted false bytes) → IsQuoted false bytes → IsQuoted e (b ∷ bytes)
said_more e b c bytes spelled is h = λ closed.
    let ends : (quoted false bytes).2 ≡ ending.Closed = ap (λ (q : Quoted). q.2) (sym is) ∙ closed in
    let r = h ends in
    let body : List ℕ = flat_map escaped (quoted false bytes).0 in
    let more : flat_map escaped (quoted e (b ∷ bytes)).0 ≡ escaped c ++ body = ap (λ (q : Quoted). flat_map escaped q.0) is ∙ flat_map-cons escaped c (quoted false bytes).0 in
    let taken : (quoted e (b ∷ bytes)).1 ≡ 1 + (quoted false bytes).1 = ap (λ (q : Quoted). q.1) is in
    let size : length (slash e) + 1 ≡ length (escaped c) = sym (length-append (slash e) (b ∷ [])) ∙ ap length spelled in
    let whole : length (flat_map escaped (quoted e (b ∷ bytes)).0) ≡ length (escaped c) + length body = ap length more ∙ length-append (escaped c) body in
    let count : length (slash e) + (quoted e (b ∷ bytes)).1 ≡ length (flat_map escaped (quoted e (b ∷ bytes)).0) + 1 = omega (arith, r.2) in (
      r.0,
      sym (append_assoc (slash e) (b ∷ []) bytes) ∙ ap (λ (x : List ℕ). x ++ bytes) spelled ∙ ap (λ (x : List ℕ). escaped c ++ x) r.1 ∙ sym (append_assoc (escaped c) body (34 ∷ r.0)) ∙ ap (λ (x : List ℕ). x ++ 34 ∷ r.0) (sym more),
      count,
    )

quoted_found : (bytes : List ℕ) (e : Bool) → IsQuoted e bytes
quoted_found [] false = λ closed. absurd cc
quoted_found [] true = λ closed. absurd cc
quoted_found (b ∷ bytes) false = at (b == 34) refl (b == 92) refl (is_plain b) refl (quoted_found bytes false) (quoted_found bytes true)
  where
    at : (q : Bool) → (b == 34) ≡ q → (s : Bool) → (b == 92) ≡ s → (p : Bool) → is_plain b ≡ p → IsQuoted false bytes → IsQuoted true bytes → IsQuoted false (b ∷ bytes)
    at true q s s-is p p-is h k =
        let is : quoted false (b ∷ bytes) ≡ ([], 1, ending.Closed) = rw q refl in
        let taken : (quoted false (b ∷ bytes)).1 ≡ 1 = ap (λ (x : Quoted). x.1) is in
        let nothing : length (flat_map escaped (quoted false (b ∷ bytes)).0) ≡ 0 = ap (λ (x : Quoted). length (flat_map escaped x.0)) is in
        let count : 0 + (quoted false (b ∷ bytes)).1 ≡ length (flat_map escaped (quoted false (b ∷ bytes)).0) + 1 = omega arith in
        λ closed. (bytes, ap (λ (x : ℕ). x ∷ bytes) (eqb-true b 34 q) ∙ ap (λ (x : Quoted). flat_map escaped x.0 ++ 34 ∷ bytes) (sym is), count)
    at false q true s p p-is h k =
        let is : quoted false (b ∷ bytes) ≡ one_more (quoted true bytes) = rw (q, s) refl in
        λ closed.
        let ends : (quoted true bytes).2 ≡ ending.Closed = ap (λ (x : Quoted). x.2) (sym is) ∙ closed in
        let r = k ends in
        let taken : (quoted false (b ∷ bytes)).1 ≡ 1 + (quoted true bytes).1 = ap (λ (x : Quoted). x.1) is in
        let same : length (flat_map escaped (quoted false (b ∷ bytes)).0) ≡ length (flat_map escaped (quoted true bytes).0) = ap (λ (x : Quoted). length (flat_map escaped x.0)) is in
        let later : 1 + (quoted true bytes).1 ≡ length (flat_map escaped (quoted true bytes).0) + 1 = r.2 in
        let count : 0 + (quoted false (b ∷ bytes)).1 ≡ length (flat_map escaped (quoted false (b ∷ bytes)).0) + 1 = omega arith in
        (r.0, ap (λ (x : ℕ). x ∷ bytes) (eqb-true b 92 s) ∙ r.1 ∙ ap (λ (x : Quoted). flat_map escaped x.0 ++ 34 ∷ r.0) (sym is), count)
    at false q false s true p h k = said_more false b b bytes (sym (plain_spelled b q s p)) (rw (q, s, p) refl) h
    at false q false s false p h k =
        let is : quoted false (b ∷ bytes) ≡ ([], 0, ending.Wrong) = rw (q, s, p) refl in
        λ closed. let both : ending.Wrong ≡ ending.Closed = ap (λ (x : Quoted). x.2) (sym is) ∙ closed in absurd cc
quoted_found (b ∷ bytes) true = at (b == 110) refl ((b == 34) || (b == 92)) refl (quoted_found bytes false)
  where
    at : (n : Bool) → (b == 110) ≡ n → (m : Bool) → ((b == 34) || (b == 92)) ≡ m → IsQuoted false bytes → IsQuoted true (b ∷ bytes)
    at true n m m-is h = said_more true b 10 bytes (ap (λ (x : ℕ). 92 ∷ x ∷ []) (eqb-true b 110 n)) (rw n refl) h
    at false n true m h = said_more true b b bytes (sym (mark_spelled b m)) (rw (n, m) refl) h
    at false n false m h =
        let is : quoted true (b ∷ bytes) ≡ ([], 0, ending.Wrong) = rw (n, m) refl in
        λ closed. let both : ending.Wrong ≡ ending.Closed = ap (λ (x : Quoted). x.2) (sym is) ∙ closed in absurd cc

text_begins : (rest : List ℕ) → Begins (34 ∷ rest) (text_at (34 ∷ rest))
text_begins rest = at (quoted false rest).2 refl
  where
    at : (v : Ending) → (quoted false rest).2 ≡ v → Begins (34 ∷ rest) (text_by v (quoted false rest).0, 1 + (quoted false rest).1)
    at ending.Closed e =
        pick_token (34 ∷ rest) (is_text (quoted false rest).0) (token.Text (quoted false rest).0) token.Faulty (1 + (quoted false rest).1)
        (λ ok. let r = quoted_found rest false e in
        let body : List ℕ = flat_map escaped (quoted false rest).0 in
        let size : length (34 ∷ (body ++ 34 ∷ [])) ≡ 1 + (quoted false rest).1 = omega (arith, r.2, length-append body (34 ∷ [])) in
        inr (34 ∷ (body ++ 34 ∷ []), r.0, ap (λ (x : List ℕ). 34 ∷ x) (r.1 ∙ sym (append_assoc body (34 ∷ []) r.0)), size, inl (refl, ok)))
        (λ ok. inl refl)
    at ending.Open e =
        pick_token (34 ∷ rest) (is_text (quoted false rest).0) token.OpenText token.Faulty (1 + (quoted false rest).1)
        (λ ok. let r = open_found rest false e in
        inr (34 ∷ rest, [], sym (append-nil (34 ∷ rest)), omega (arith, r.3), inr (refl, (rest, r.0, (quoted false rest).0, refl, r.1, r.2, ok))))
        (λ ok. inl refl)
    at ending.Wrong e = inl refl

-- ---- any token

pub token_found : (b : ℕ) (rest : List ℕ) → Begins (b ∷ rest) (front_token (b ∷ rest))
token_found b rest =
    let bytes : List ℕ = b ∷ rest in
    let last : Token × ℕ = (mark b, 1) in
    let notes : Token × ℕ = cond (begins_note b) (note_at bytes) last in
    let words : Token × ℕ = cond (is_letter b) (word_at bytes) notes in
    let digits : Token × ℕ = cond (is_digit b) (digits_at bytes) words in
    let minus : Token × ℕ = cond (b == 45) (minus_at bytes) digits in
    pick bytes (b == 34) (text_at bytes) minus (λ e. subst (λ (x : ℕ). Begins (x ∷ rest) (text_at (x ∷ rest))) (sym (eqb-true b 34 e)) (text_begins rest))
    (λ e. pick bytes (b == 45) (minus_at bytes) digits (λ f. subst (λ (x : ℕ). Begins (x ∷ rest) (minus_at (x ∷ rest))) (sym (eqb-true b 45 f)) (minus_begins rest))
    (λ f. pick bytes (is_digit b) (digits_at bytes) words (digits_begins b rest)
    (λ g. pick bytes (is_letter b) (word_at bytes) notes (word_begins b rest)
    (λ h. pick bytes (begins_note b) (note_at bytes) last (note_begins b rest) (λ k. mark_begins b rest)))))
