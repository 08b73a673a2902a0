-- Bytes that are laid out as tokens are read as these.
use Rattle.std.proofs.Common.{◌≡◌, ℕ, ◌≤◌, ◌⊎◌, inl, inr, Bool, true, false, List, [], ◌∷◌, ◌++◌, length, refl, sym, ap, ◌∙◌, arith, append_assoc}
use Rattle.std.specs.Prelude.{◌==◌, not, ◌&&◌}
use Rattle.std.specs.List.{prefix_len, flat_map, AllByRecursion}
use Rattle.std.proofs.lemmas.List.{append-nil}
use Rattle.std.proofs.lemmas.Bool.{and_parts}
use Rattle.std.proofs.lemmas.Bool.Decides.{nat_tests}
use Rattle.std.proofs.lemmas.List.Concat.{flat_map-cons}
use Rattle.micheline_text.specs.declared.gap.Gap.TheVariants as gap
use Rattle.micheline_text.specs.declared.gap.Mode.TheVariants as mode
use Rattle.micheline_text.specs.Kinds.{is_digit, is_letter, begins_note, is_blank}
use Rattle.micheline_text.specs.Gaps.{gap_from}
use Rattle.micheline_text.specs.Layout.{AllAre, Stops, begins_slash, has_no_end, IsPart, IsGap, IsLast}

-- ---- gaps

blank_part : (b : ℕ) (rest : List ℕ) → is_blank b ≡ true → gap_from mode.Between (b ∷ rest) ≡ gap_from mode.Between rest
blank_part b rest e = rw e refl

is_true : (b : Bool) → not b ≡ true → b ≡ false
is_true true e = absurd cc
is_true false e = refl

line_part : (line rest : List ℕ) → AllAre (λ b. not (b == 10)) line → gap_from mode.Line (line ++ 10 ∷ rest) ≡ gap_from mode.Between rest
line_part [] rest h = refl
line_part (b ∷ line) rest h = rw (is_true (b == 10) h.0) (line_part line rest h.1)

last_line : (line : List ℕ) → AllAre (λ b. not (b == 10)) line → gap_from mode.Line line ≡ gap.End
last_line [] h = refl
last_line (b ∷ line) h = rw (is_true (b == 10) h.0) (last_line line h.1)

-- in a comment, and behind a `*` in it
abbrev Ends : ℕ → List ℕ → List ℕ → Type 0
Ends from inner rest = (gap_from (mode.Block from) (inner ++ 42 ∷ 47 ∷ rest) ≡ gap_from mode.Between rest) ×
    (begins_slash inner ≡ false → gap_from (mode.Star from) (inner ++ 42 ∷ 47 ∷ rest) ≡ gap_from mode.Between rest)

no_slash : (star slash : Bool) → star ≡ true → not (star && slash) ≡ true → slash ≡ false
no_slash true slash s e = is_true slash e
no_slash false slash s e = absurd cc

comment_byte : (from b : ℕ) (inner rest : List ℕ) (star : Bool) → (b == 42) ≡ star → not ((b == 42) && begins_slash inner) ≡ true → Ends from inner rest → Ends from (b ∷ inner) rest
comment_byte from b inner rest true is e h =
    let star = h.1 (no_slash (b == 42) (begins_slash inner) is e) in
    (rw is star, λ f. rw (f, is) star)
comment_byte from b inner rest false is e h = (rw is h.0, λ f. rw (f, is) h.0)

comment_part : (from : ℕ) (inner rest : List ℕ) → has_no_end inner ≡ true → Ends from inner rest
comment_part from [] rest e = (refl, λ f. refl)
comment_part from (b ∷ inner) rest e =
    let p = and_parts (not ((b == 42) && begins_slash inner)) (has_no_end inner) e in
    comment_byte from b inner rest (b == 42) refl p.0 (comment_part from inner rest p.1)

-- a part takes a byte at least
pub part_some : (part : List ℕ) → IsPart part → 1 ≤ length part
part_some part (inl p) = omega (arith, ap length p.1)
part_some part (inr (inl p)) = omega (arith, ap length p.1)
part_some part (inr (inr p)) = omega (arith, ap length p.1)

-- a comment without an end, and behind a `*` in it
abbrev StaysOpen : ℕ → List ℕ → Type 0
StaysOpen from inner = (gap_from (mode.Block from) inner ≡ gap.Comment from) × (begins_slash inner ≡ false → gap_from (mode.Star from) inner ≡ gap.Comment from)

open_byte : (from b : ℕ) (inner : List ℕ) (star : Bool) → (b == 42) ≡ star → not ((b == 42) && begins_slash inner) ≡ true → StaysOpen from inner → StaysOpen from (b ∷ inner)
open_byte from b inner true is e h =
    let star = h.1 (no_slash (b == 42) (begins_slash inner) is e) in
    (rw is star, λ f. rw (f, is) star)
open_byte from b inner false is e h = (rw is h.0, λ f. rw (f, is) h.0)

pub stays_open : (from : ℕ) (inner : List ℕ) → has_no_end inner ≡ true → StaysOpen from inner
stays_open from [] e = (refl, λ f. refl)
stays_open from (b ∷ inner) e =
    let p = and_parts (not ((b == 42) && begins_slash inner)) (has_no_end inner) e in
    open_byte from b inner (b == 42) refl p.0 (stays_open from inner p.1)

pub part_passes : (part rest : List ℕ) → IsPart part → gap_from mode.Between (part ++ rest) ≡ gap_from mode.Between rest
part_passes part rest (inl p) = ap (λ (x : List ℕ). gap_from mode.Between (x ++ rest)) p.1 ∙ blank_part p.0 rest p.2
part_passes part rest (inr (inl p)) =
    ap (λ (x : List ℕ). gap_from mode.Between (x ++ rest)) p.1 ∙ ap (gap_from mode.Line) (append_assoc p.0 (10 ∷ []) rest) ∙ line_part p.0 rest p.2
part_passes part rest (inr (inr p)) =
    ap (λ (x : List ℕ). gap_from mode.Between (x ++ rest)) p.1
    ∙ ap (gap_from (mode.Block (length (47 ∷ 42 ∷ ((p.0 ++ 42 ∷ 47 ∷ []) ++ rest))))) (append_assoc p.0 (42 ∷ 47 ∷ []) rest)
    ∙ (comment_part (length (47 ∷ 42 ∷ ((p.0 ++ 42 ∷ 47 ∷ []) ++ rest))) p.0 rest p.2).0

parts_pass : (parts : List (List ℕ)) (rest : List ℕ) → AllByRecursion IsPart parts → gap_from mode.Between (flat_map (λ part. part) parts ++ rest) ≡ gap_from mode.Between rest
parts_pass [] rest h = refl
parts_pass (part ∷ parts) rest h =
    ap (λ (x : List ℕ). gap_from mode.Between (x ++ rest)) (flat_map-cons (λ (x : List ℕ). x) part parts)
    ∙ ap (gap_from mode.Between) (append_assoc part (flat_map (λ x. x) parts) rest) ∙ part_passes part (flat_map (λ x. x) parts ++ rest) h.0 ∙ parts_pass parts rest h.1

pub gap_passes : (blank rest : List ℕ) → IsGap blank → gap_from mode.Between (blank ++ rest) ≡ gap_from mode.Between rest
gap_passes blank rest p = ap (λ (x : List ℕ). gap_from mode.Between (x ++ rest)) p.1 ∙ parts_pass p.0 rest p.2

pub last_ends : (bytes : List ℕ) → IsLast bytes → gap_from mode.Between bytes ≡ gap.End
last_ends bytes p = ends p.4
  where
    ends : (bytes ≡ p.0) ⊎ (bytes ≡ p.0 ++ 35 ∷ p.1) → gap_from mode.Between bytes ≡ gap.End
    ends (inl e) = ap (gap_from mode.Between) (e ∙ sym (append-nil p.0)) ∙ gap_passes p.0 [] p.2
    ends (inr e) = ap (gap_from mode.Between) e ∙ gap_passes p.0 (35 ∷ p.1) p.2 ∙ last_line p.1 p.3

-- ---- runs

pub run_stops : (test : ℕ → Bool) (xs rest : List ℕ) → AllAre test xs → Stops test rest → prefix_len test (xs ++ rest) ≡ length xs
run_stops test [] [] h s = refl
run_stops test [] (b ∷ rest) h s = rw s refl
run_stops test (x ∷ xs) rest h s = rw (h.0, run_stops test xs rest h.1 s) (omega arith)

-- ---- first bytes

pub letter_is : (b : ℕ) → is_letter b ≡ true → ((b == 34) ≡ false) × ((b == 45) ≡ false) × (is_digit b ≡ false) × (is_blank b ≡ false) × ((b == 35) ≡ false) × ((b == 47) ≡ false)
letter_is b e = (grind (arith, nat_tests), grind (arith, nat_tests), grind (arith, nat_tests), grind (arith, nat_tests), grind (arith, nat_tests), grind (arith, nat_tests))

pub note_is : (b : ℕ) → begins_note b ≡ true → ((b == 34) ≡ false) × ((b == 45) ≡ false) × (is_digit b ≡ false) × (is_letter b ≡ false) × (is_blank b ≡ false) × ((b == 35) ≡ false) × ((b == 47) ≡ false)
note_is b e = (grind (arith, nat_tests), grind (arith, nat_tests), grind (arith, nat_tests), grind (arith, nat_tests), grind (arith, nat_tests), grind (arith, nat_tests), grind (arith, nat_tests))

pub digit_is : (b : ℕ) → is_digit b ≡ true → ((b == 34) ≡ false) × ((b == 45) ≡ false) × (is_blank b ≡ false) × ((b == 35) ≡ false) × ((b == 47) ≡ false)
digit_is b e = (grind (arith, nat_tests), grind (arith, nat_tests), grind (arith, nat_tests), grind (arith, nat_tests), grind (arith, nat_tests))
