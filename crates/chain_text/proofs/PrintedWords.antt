-- The lines and words that are printed: each is found again behind those before it.
use Rattle.std.proofs.Common.{◌≡◌, ◌≢◌, ℕ, suc, ◌+◌, ◌<◌, ◌^◌, Bool, true, false, List, [], ◌∷◌, ◌++◌, length, take, drop, Option, Some, refl, sym, ap, ◌∙◌, arith}
use Rattle.std.specs.Prelude.{nat_le, ◌&&◌}
use Rattle.std.specs.Char.{is_ascii}
use Rattle.std.specs.List.{list_all, onto_first, prefix_len}
use Rattle.std.specs.Str.Parse.{AllDigits}
use Rattle.std.specs.Fmt.{decimal}
use Rattle.std.proofs.Math.Seq.{drop-append_seam, take-append_seam}
use Rattle.std.proofs.lemmas.Bool.Decides.{nat_tests}
use Rattle.std.proofs.lemmas.Fmt.{decimal_is_IsNumeral}
use Rattle.std.proofs.lemmas.List.{append-nil}
use Rattle.std.proofs.lemmas.Str.Parse.{digit_from_value}
use Rattle.value_core.proofs.Bools.{both_true, first_true, second_true}
use Rattle.micheline_text.specs.Kinds.{is_plain}
use Rattle.chain_text.specs.Lines.{is_inside, is_part, is_space, lines_of, next_word, unspaced, word_at_front}

-- ---- bytes

-- from the one behind a blank to tilde
abbrev pub is_visible : ℕ → Bool
is_visible b = nat_le 33 b && nat_le b 126

pub all_are : (p q : ℕ → Bool) → ((b : ℕ) → p b ≡ true → q b ≡ true) → (xs : List ℕ) → list_all p xs ≡ true → list_all q xs ≡ true
all_are p q one [] all = refl
all_are p q one (x ∷ xs) all = both_true (q x) (list_all q xs) (one x (first_true (p x) (list_all p xs) all)) (all_are p q one xs (second_true (p x) (list_all p xs) all))

pub all_append : (p : ℕ → Bool) (xs ys : List ℕ) → list_all p xs ≡ true → list_all p ys ≡ true → list_all p (xs ++ ys) ≡ true
all_append p [] ys front back = back
all_append p (x ∷ xs) ys front back = both_true (p x) (list_all p (xs ++ ys)) (first_true (p x) (list_all p xs) front) (all_append p xs ys (second_true (p x) (list_all p xs) front) back)

pub visible_is_part : (b : ℕ) → is_visible b ≡ true → is_part b ≡ true
visible_is_part b is = grind (arith, nat_tests)

pub visible_is_plain : (b : ℕ) → is_visible b ≡ true → is_plain b ≡ true
visible_is_plain b is = grind (arith, nat_tests)

pub plain_is_inside : (b : ℕ) → is_plain b ≡ true → is_inside b ≡ true
plain_is_inside b is = grind (arith, nat_tests)

pub plain_is_ascii : (b : ℕ) → is_plain b ≡ true → is_ascii b ≡ true
plain_is_ascii b is = grind (arith, nat_tests)

-- ---- lines

-- a line is cut off where its newline stands
pub first_line : (line rest : List ℕ) → list_all is_inside line ≡ true → lines_of (line ++ 10 ∷ rest) ≡ line ∷ lines_of rest
first_line [] rest all = refl
first_line (b ∷ line) rest all =
    rw (first_true (is_inside b) (list_all is_inside line) all) (ap (onto_first b) (first_line line rest (second_true (is_inside b) (list_all is_inside line) all)))

-- ---- words

run : (p : ℕ → Bool) (word rest : List ℕ) (b : ℕ) → list_all p word ≡ true → p b ≡ false → prefix_len p (word ++ b ∷ rest) ≡ length word
run p [] rest b all stop = rw stop refl
run p (c ∷ word) rest b all stop = rw (first_true (p c) (list_all p word) all) (omega (arith, run p word rest b (second_true (p c) (list_all p word) all) stop))

whole : (p : ℕ → Bool) (word : List ℕ) → list_all p word ≡ true → prefix_len p word ≡ length word
whole p [] all = refl
whole p (c ∷ word) all = rw (first_true (p c) (list_all p word) all) (omega (arith, whole p word (second_true (p c) (list_all p word) all)))

no_space : (b : ℕ) → is_part b ≡ true → is_space b ≡ false
no_space b is = grind (arith, nat_tests)

-- nothing is passed where a word begins
at_word : (b : ℕ) (line : List ℕ) → is_part b ≡ true → unspaced (b ∷ line) ≡ b ∷ line
at_word b line is = rw (no_space b is) refl

parted : (n : ℕ) (line word rest : List ℕ) → n ≡ length word → line ≡ word ++ rest → ◌≡◌ {A = Option (List ℕ × List ℕ)} (Some (take n line, drop n line)) (Some (word, rest))
parted n line word rest size is =
    let front : take n line ≡ word = (λ i. take (size i) (is i)) ∙ take-append_seam word rest in
    let back : drop n line ≡ rest = (λ i. drop (size i) (is i)) ∙ drop-append_seam word rest in
    λ i. Some (front i, back i)

-- a word in front of a space
pub first_word : (word rest : List ℕ) → word ≢ [] → list_all is_part word ≡ true → next_word (word ++ 32 ∷ rest) ≡ Some (word, 32 ∷ rest)
first_word [] rest some all = absurd (some refl)
first_word (b ∷ word) rest some all =
    let here : is_part b ≡ true = first_true (is_part b) (list_all is_part word) all in
    let line : List ℕ = b ∷ (word ++ 32 ∷ rest) in
    ap word_at_front (at_word b (word ++ 32 ∷ rest) here)
    ∙ parted (prefix_len is_part line) line (b ∷ word) (32 ∷ rest) (run is_part (b ∷ word) rest 32 all refl) refl

-- a word at the end
pub last_word : (word : List ℕ) → word ≢ [] → list_all is_part word ≡ true → next_word word ≡ Some (word, [])
last_word [] some all = absurd (some refl)
last_word (b ∷ word) some all =
    let here : is_part b ≡ true = first_true (is_part b) (list_all is_part word) all in
    ap word_at_front (at_word b word here)
    ∙ parted (prefix_len is_part (b ∷ word)) (b ∷ word) (b ∷ word) [] (whole is_part (b ∷ word) all) (sym (append-nil (b ∷ word)))

-- a space in front counts nothing
pub spaced : (line : List ℕ) → unspaced (32 ∷ line) ≡ unspaced line
spaced line =
    let n = prefix_len is_space line in
    let more : 1 + n ≡ suc n = omega arith in
    rw more refl

pub spaced_word : (line : List ℕ) → next_word (32 ∷ line) ≡ next_word line
spaced_word line = ap word_at_front (spaced line)

-- ---- numbers

digits_visible : (ds : List ℕ) → AllDigits 10 ds → list_all is_visible ds ≡ true
digits_visible [] all = refl
digits_visible (d ∷ ds) all =
    let within = digit_from_value d all.0 in
    both_true (is_visible d) (list_all is_visible ds) (grind (arith, nat_tests)) (digits_visible ds all.1)

pub decimal_visible : (n : ℕ) → n < 2 ^ 64 → list_all is_visible (decimal n) ≡ true
decimal_visible n small = digits_visible (decimal n) (decimal_is_IsNumeral n small).0.1

pub decimal_some : (n : ℕ) → n < 2 ^ 64 → decimal n ≢ []
decimal_some n small none = let long : 0 < length (decimal n) = (decimal_is_IsNumeral n small).0.0 in let no : length (decimal n) ≡ 0 = ap length none in omega arith
