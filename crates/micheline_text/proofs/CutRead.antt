-- Bytes that are cut into tokens and what is none are read as these.
use Rattle.std.proofs.Common.{◌≡◌, ◌≢◌, ℕ, ◌+◌, ◌-◌, ◌≤◌, ◌⊎◌, inl, inr, Bool, true, false, cond, List, [], ◌∷◌, ◌++◌, length, drop, refl, sym, ap, subst, ◌∙◌, arith, append_assoc}
use Rattle.std.specs.Prelude.{◌==◌, ◌||◌}
use Rattle.std.specs.List.{flat_map, list_all}
use Rattle.std.proofs.lemmas.List.{append-nil, length-append, drop_at}
use Rattle.std.proofs.lemmas.Bool.{le-leb, leb-true}
use Rattle.std.proofs.lemmas.List.Concat.{flat_map-cons}
use Rattle.value_core.specs.Leaves.{is_text, is_blob, is_printable}
use Rattle.micheline_text.specs.declared.gap.Gap.{Gap}
use Rattle.micheline_text.specs.declared.gap.Gap.TheVariants as gap
use Rattle.micheline_text.specs.declared.gap.Mode.TheVariants as mode
use Rattle.micheline_text.specs.declared.text.Ending.TheVariants as ending
use Rattle.micheline_text.specs.declared.token.Token.{Token}
use Rattle.micheline_text.specs.declared.token.Token.TheVariants as token
use Rattle.micheline_text.specs.Gaps.{gap_from}
use Rattle.micheline_text.specs.Literals.{decimal_value, quoted, Quoted}
use Rattle.micheline_text.specs.Lexing.{front_token, is_faulty, token_at, tokens_of, text_by}
use Rattle.micheline_text.specs.Layout.{IsGap, IsSpelled, IsLaidOut}
use Rattle.micheline_text.specs.Cuts.{IsUnfit, IsOpenText, BeginsNothing, Stands, IsCutInto}
use Rattle.micheline_text.specs.Printed.{escaped}
use Rattle.micheline_text.proofs.Laid.{gap_passes, last_ends, stays_open}
use Rattle.micheline_text.proofs.GapFound.{IsSkipped, skipped}
use Rattle.micheline_text.proofs.TokenFound.{Begins, token_found}
use Rattle.micheline_text.proofs.Tokens.{IsRead, Reads, both, escaped_read, numeral_read, wide_is, spelled_read}
use Rattle.micheline_text.proofs.TokensLemmas.{no_token, open_comment, one_token}

-- ---- strings without an end

-- it is read to its end, and says no more than the string would
abbrev pub OpensWith : List ℕ → List ℕ → Type 0
OpensWith t bytes = (u : List ℕ) × (quoted false bytes ≡ (u, length bytes, ending.Open)) × (list_all is_printable u ≡ true) × (length u ≤ length t)

open_step : (b : ℕ) (t bytes : List ℕ) → is_printable b ≡ true → OpensWith t bytes → OpensWith (b ∷ t) (escaped b ++ bytes)
open_step b t bytes shown r =
    let read : Reads b (escaped b) bytes = escaped_read b bytes shown in
    let count : length (escaped b) + length bytes ≡ length (escaped b ++ bytes) = sym (length-append (escaped b) bytes) in
    let all : list_all is_printable (b ∷ r.0) ≡ true = rw (shown, r.2) refl in
    (b ∷ r.0, read ∙ ap (λ (q : Quoted). (b ∷ q.0, length (escaped b) + q.1, q.2)) r.1 ∙ (λ i. (b ∷ r.0, count i, ending.Open)), all, omega (arith, r.3))

-- a byte of a string is spelled as it is, or behind a `\`
abbrev pub EscapeShape : ℕ → Type 0
EscapeShape b = (escaped b ≡ b ∷ []) ⊎ ((c : ℕ) × (escaped b ≡ 92 ∷ c ∷ []))

escape_shape : (b : ℕ) → EscapeShape b
escape_shape b = at (b == 10) refl ((b == 34) || (b == 92)) refl
  where
    at : (n : Bool) → (b == 10) ≡ n → (m : Bool) → ((b == 34) || (b == 92)) ≡ m → EscapeShape b
    at true e m f = inr (110, rw e refl)
    at false e true f = inr (b, rw (e, f) refl)
    at false e false f = inl (rw (e, f) refl)

nothing_behind : (xs ys : List ℕ) → xs ++ ys ≡ [] → ys ≡ []
nothing_behind [] ys e = e
nothing_behind (x ∷ xs) ys e = absurd cc

-- one byte of the string, of which all or a part stands there
module _ (b : ℕ) (t more tail : List ℕ) (shown : is_printable b ≡ true) (on : (bytes : List ℕ) → bytes ++ more ≡ tail → OpensWith t bytes) where
  shaped : EscapeShape b → (bytes : List ℕ) → bytes ++ more ≡ escaped b ++ tail → OpensWith (b ∷ t) bytes
  shaped shape [] f = ([], refl, refl, omega arith)
  shaped (inl one) (x ∷ bytes) f =
      let whole : x ∷ (bytes ++ more) ≡ b ∷ tail = f ∙ ap (λ (l : List ℕ). l ++ tail) one in
      let head : x ≡ b = cc in
      let behind : bytes ++ more ≡ tail = cc in
      subst (OpensWith (b ∷ t)) (ap (λ (l : List ℕ). l ++ bytes) one ∙ ap (λ (n : ℕ). n ∷ bytes) (sym head)) (open_step b t bytes shown (on bytes behind))
  shaped (inr (c, two)) (x ∷ []) f =
      let whole : x ∷ more ≡ 92 ∷ c ∷ tail = f ∙ ap (λ (l : List ℕ). l ++ tail) two in
      let head : x ≡ 92 = cc in
      subst (λ (n : ℕ). OpensWith (b ∷ t) (n ∷ [])) (sym head) (10 ∷ [], refl, refl, omega arith)
  shaped (inr (c, two)) (x ∷ y ∷ bytes) f =
      let whole : x ∷ y ∷ (bytes ++ more) ≡ 92 ∷ c ∷ tail = f ∙ ap (λ (l : List ℕ). l ++ tail) two in
      let first : x ≡ 92 = cc in
      let second : y ≡ c = cc in
      let behind : bytes ++ more ≡ tail = cc in
      subst (OpensWith (b ∷ t)) (ap (λ (l : List ℕ). l ++ bytes) two ∙ (λ i. sym first i ∷ sym second i ∷ bytes)) (open_step b t bytes shown (on bytes behind))

open_read : (t bytes more : List ℕ) → list_all is_printable t ≡ true → more ≢ [] → bytes ++ more ≡ flat_map escaped t ++ 34 ∷ [] → OpensWith t bytes
open_read [] [] more all some e = ([], refl, refl, omega arith)
open_read [] (x ∷ bytes) more all some e =
    let behind : bytes ++ more ≡ [] = cc in
    absurd (some (nothing_behind bytes more behind))
open_read (b ∷ t) bytes more all some e =
    let p = both (is_printable b) (list_all is_printable t) all in
    let tail : List ℕ = flat_map escaped t ++ 34 ∷ [] in
    let split : bytes ++ more ≡ escaped b ++ tail = e ∙ ap (λ (l : List ℕ). l ++ 34 ∷ []) (flat_map-cons escaped b t) ∙ append_assoc (escaped b) (flat_map escaped t) (34 ∷ []) in
    shaped b t more tail p.0 (λ rest f. open_read t rest more p.1 some f) (escape_shape b) bytes split

shorter_text : (t u : List ℕ) → is_text t ≡ true → list_all is_printable u ≡ true → length u ≤ length t → is_text u ≡ true
shorter_text t u whole all less =
    let small : length t ≤ 131071 = leb-true (length t) 131071 (both (is_blob t) (list_all is_printable t) whole).0 in
    let blob : is_blob u ≡ true = le-leb (length u) 131071 (omega arith) in
    rw (blob, all) refl

read_alone : (t : Token) (s : List ℕ) → gap_from mode.Between s ≡ gap.Token (length s) → front_token s ≡ (t, length s) → IsRead t s []
read_alone t s begins token = record {
  begins = subst (λ (x : List ℕ). gap_from mode.Between x ≡ gap.Token (length x)) (sym (append-nil s)) begins;
  token = ap front_token (append-nil s) ∙ token;
}

open_text_read : (s : List ℕ) → IsOpenText s → IsRead token.OpenText s []
open_text_read s (said, more, t, is, some, whole, ok) =
    let r = open_read t said more (both (is_blob t) (list_all is_printable t) ok).1 some whole in
    let fits : text_by ending.Open r.0 ≡ token.OpenText = rw (shorter_text t r.0 ok r.2 r.3) refl in
    let size : 1 + length said ≡ length (34 ∷ said) = omega arith in
    let is_read : front_token (34 ∷ said) ≡ (token.OpenText, length (34 ∷ said)) = ap (λ (q : Quoted). (text_by q.2 q.0, 1 + q.1)) r.1 ∙ (λ i. (fits i, size i)) in
    read_alone token.OpenText s (ap (gap_from mode.Between) is ∙ ap (λ (x : List ℕ). gap.Token (length x)) (sym is))
    (ap front_token is ∙ is_read ∙ ap (λ (x : List ℕ). (token.OpenText, length x)) (sym is))

-- ---- what has a spelling, and what has only no end

-- a comment that goes on to the end
abbrev pub IsOpenGap : Token → List ℕ → List ℕ → Type 0
IsOpenGap t s rest = (t ≡ token.OpenComment) × (rest ≡ []) × (gap_from mode.Between s ≡ gap.Comment (length s))

pub spelling_read : (t : Token) (s rest : List ℕ) → IsSpelled t s rest ⊎ IsUnfit t s rest → IsRead t s rest ⊎ IsOpenGap t s rest
spelling_read t s rest (inl p) = inl (spelled_read t s rest p)
spelling_read token.Wide s rest (inr p) = inl (numeral_read token.Wide p.0 p.1 s rest p.2 (wide_is p.0 (decimal_value p.1) p.3))
spelling_read token.OpenText s rest (inr p) = inl (subst (IsRead token.OpenText s) (sym p.0) (open_text_read s p.1))
spelling_read token.OpenComment s rest (inr (e, (inner, is, goes_on))) =
    let goes_open : gap_from mode.Between (47 ∷ 42 ∷ inner) ≡ gap.Comment (length (47 ∷ 42 ∷ inner)) = (stays_open (length (47 ∷ 42 ∷ inner)) inner goes_on).0 in
    inr (refl, e, ap (gap_from mode.Between) is ∙ goes_open ∙ ap (λ (x : List ℕ). gap.Comment (length x)) (sym is))
spelling_read t s rest (inr p) = absurd p

pub spelling_sound : (t : Token) (s rest : List ℕ) → IsSpelled t s rest ⊎ IsUnfit t s rest → is_faulty t ≡ false
spelling_sound token.Faulty s rest (inl p) = absurd p
spelling_sound token.Faulty s rest (inr p) = absurd p
spelling_sound t s rest p = refl

pub whole_token : (bytes : List ℕ) (t : Token) (k : ℕ) → front_token bytes ≡ (t, k) → is_faulty t ≡ false → token_at bytes ≡ (t, k)
whole_token bytes t k is sound = ap (λ (x : Token × ℕ). (x.0, cond (is_faulty x.0) (length bytes) x.1)) is ∙ rw sound refl

-- ---- what begins nothing

-- no gap stands in front of it
no_blank : (s blank rest : List ℕ) → BeginsNothing s → s ≡ blank ++ rest → IsGap blank → blank ≡ []
no_blank s blank rest n e ([], is, all) = is
no_blank s blank rest n e (part ∷ parts, is, all) =
    let split : blank ++ rest ≡ part ++ (flat_map (λ x. x) parts ++ rest) = ap (λ (x : List ℕ). x ++ rest) (is ∙ flat_map-cons (λ (x : List ℕ). x) part parts) ∙ append_assoc part (flat_map (λ x. x) parts) rest in
    absurd (n.no_part part (flat_map (λ x. x) parts ++ rest) (e ∙ split) all.0)

abbrev pub IsNothing : List ℕ → Type 0
IsNothing s = (gap_from mode.Between s ≡ gap.Token (length s)) × (token_at s ≡ (token.Faulty, length s))

nothing_there : (s : List ℕ) → BeginsNothing s → Begins s (front_token s) → token_at s ≡ (token.Faulty, length s)
nothing_there s n (inl is) = ap (λ (t : Token). (t, cond (is_faulty t) (length s) (front_token s).1)) is
nothing_there s n (inr (front, rest, parts, size, spelled)) = absurd (n.no_token (front_token s).0 front rest parts spelled)

nothing_begins : (s : List ℕ) → BeginsNothing s → Begins s (front_token s)
nothing_begins [] n = absurd (n.no_end ([], [], ([], refl, tt), tt, inl refl))
nothing_begins (b ∷ rest) n = token_found b rest

nothing_gap : (s : List ℕ) (g : Gap) → BeginsNothing s → IsSkipped s g → g ≡ gap.Token (length s)
nothing_gap s gap.End n last = absurd (n.no_end last)
nothing_gap s (gap.Comment left) n (blank, inner, is, is_gap, goes_on, size) =
    let whole : s ≡ 47 ∷ 42 ∷ inner = is ∙ ap (λ (x : List ℕ). x ++ 47 ∷ 42 ∷ inner) (no_blank s blank (47 ∷ 42 ∷ inner) n is is_gap) in
    absurd (n.no_token token.OpenComment s [] (sym (append-nil s)) (inr (refl, (inner, whole, goes_on))))
nothing_gap s (gap.Token left) n (blank, rest, is, is_gap, size) =
    let whole : s ≡ rest = is ∙ ap (λ (x : List ℕ). x ++ rest) (no_blank s blank rest n is is_gap) in
    ap gap.Token (sym size ∙ ap length (sym whole))

nothing_read : (s : List ℕ) → BeginsNothing s → IsNothing s
nothing_read s n = (nothing_gap s (gap_from mode.Between s) n (skipped s), nothing_there s n (nothing_begins s n))

-- ---- all bytes

abbrev Onward : ℕ → List ℕ → List (ℕ × Token) → Type 0
Onward to rest ts = tokens_of to rest ≡ ts

-- one of them, and those behind it
one_read : (at place : ℕ) (bytes blank s rest : List ℕ) (t : Token) (ts : List (ℕ × Token)) → bytes ≡ blank ++ (s ++ rest) → IsGap blank → place ≡ at + length blank →
    gap_from mode.Between (s ++ rest) ≡ gap.Token (length (s ++ rest)) → token_at (s ++ rest) ≡ (t, length s) → tokens_of (place + length s) rest ≡ ts → tokens_of at bytes ≡ (place, t) ∷ ts
one_read at place bytes blank s rest t ts parts is_gap place_is begins token on =
    let there : List ℕ = s ++ rest in
    let passed : gap_from mode.Between bytes ≡ gap.Token (length there) = ap (gap_from mode.Between) parts ∙ gap_passes blank there is_gap ∙ begins in
    let total : length bytes ≡ length blank + length there = ap length parts ∙ length-append blank there in
    let from : length bytes - length there ≡ length blank = omega arith in
    let found : drop (length bytes - length there) bytes ≡ there = ap (λ (k : ℕ). drop k bytes) from ∙ ap (drop (length blank)) parts ∙ drop_at blank there (length blank) refl in
    let here : at + (length bytes - length there) ≡ place = ap (λ (k : ℕ). at + k) from ∙ sym place_is in
    let read : token_at (drop (length bytes - length there) bytes) ≡ (t, length s) = ap token_at found ∙ token in
    let behind : drop (length s) (drop (length bytes - length there) bytes) ≡ rest = ap (drop (length s)) found ∙ drop_at s rest (length s) refl in
    let rest_of : Token × ℕ → List (ℕ × Token) = λ x. (at + (length bytes - length there), x.0) ∷ tokens_of (at + (length bytes - length there) + x.1) (drop x.1 (drop (length bytes - length there) bytes)) in
    one_token at bytes (length there) passed ∙ ap rest_of read ∙ (λ i. (here i, t) ∷ tokens_of (here i + length s) (behind i)) ∙ ap (λ (x : List (ℕ × Token)). (place, t) ∷ x) on

comment_read : (at place : ℕ) (bytes blank s rest : List ℕ) (t : Token) (ts : List (ℕ × Token)) → bytes ≡ blank ++ (s ++ rest) → IsGap blank → place ≡ at + length blank →
    IsOpenGap t s rest → tokens_of (place + length s) rest ≡ ts → tokens_of at bytes ≡ (place, t) ∷ ts
comment_read at place bytes blank s rest t ts parts is_gap place_is (is, none, goes_open) on =
    let alone : bytes ≡ blank ++ s = parts ∙ ap (λ (x : List ℕ). blank ++ (s ++ x)) none ∙ ap (λ (x : List ℕ). blank ++ x) (append-nil s) in
    let passed : gap_from mode.Between bytes ≡ gap.Comment (length s) = ap (gap_from mode.Between) alone ∙ gap_passes blank s is_gap ∙ goes_open in
    let total : length bytes ≡ length blank + length s = ap length alone ∙ length-append blank s in
    let here : at + (length bytes - length s) ≡ place = omega arith in
    let behind : ts ≡ [] = sym on ∙ ap (tokens_of (place + length s)) none ∙ no_token (place + length s) [] refl in
    open_comment at bytes (length s) passed ∙ (λ i. (here i, sym is i) ∷ sym behind i)

stands_read : (at place : ℕ) (bytes blank s rest : List ℕ) (t : Token) (ts : List (ℕ × Token)) → bytes ≡ blank ++ (s ++ rest) → IsGap blank → place ≡ at + length blank →
    Stands t s rest → tokens_of (place + length s) rest ≡ ts → tokens_of at bytes ≡ (place, t) ∷ ts
stands_read at place bytes blank s rest t ts parts is_gap place_is (inl p) on =
    let r = spelled_read t s rest p in
    one_read at place bytes blank s rest t ts parts is_gap place_is r.begins (whole_token (s ++ rest) t (length s) r.token (spelling_sound t s rest (inl p))) on
stands_read at place bytes blank s rest t ts parts is_gap place_is (inr (inl p)) on = unfit (spelling_read t s rest (inr p))
  where
    unfit : IsRead t s rest ⊎ IsOpenGap t s rest → tokens_of at bytes ≡ (place, t) ∷ ts
    unfit (inl r) = one_read at place bytes blank s rest t ts parts is_gap place_is r.begins (whole_token (s ++ rest) t (length s) r.token (spelling_sound t s rest (inr p))) on
    unfit (inr c) = comment_read at place bytes blank s rest t ts parts is_gap place_is c on
stands_read at place bytes blank s rest t ts parts is_gap place_is (inr (inr (is, none, n))) on =
    let alone : s ++ rest ≡ s = ap (λ (x : List ℕ). s ++ x) none ∙ append-nil s in
    let r = nothing_read s n in
    let begins : gap_from mode.Between (s ++ rest) ≡ gap.Token (length (s ++ rest)) = ap (gap_from mode.Between) alone ∙ r.0 ∙ ap (λ (x : List ℕ). gap.Token (length x)) (sym alone) in
    one_read at place bytes blank s rest t ts parts is_gap place_is begins (ap token_at alone ∙ r.1 ∙ ap (λ (x : Token). (x, length s)) (sym is)) on

-- bytes are read as what they are cut into
pub cut_is_read : (ts : List (ℕ × Token)) (at : ℕ) (bytes : List ℕ) → IsCutInto at bytes ts → tokens_of at bytes ≡ ts
cut_is_read [] at bytes p = no_token at bytes (last_ends bytes p)
cut_is_read (t ∷ ts) at bytes p = stands_read at t.0 bytes p.0 p.1 p.2 t.1 ts p.3 p.4 p.5 p.6 (cut_is_read ts (t.0 + length p.1) p.2 p.7)

-- bytes that are laid out as tokens are cut into these
pub laid_is_cut : (ts : List (ℕ × Token)) (at : ℕ) (bytes : List ℕ) → IsLaidOut at bytes ts → IsCutInto at bytes ts
laid_is_cut [] at bytes p = p
laid_is_cut (t ∷ ts) at bytes p = (p.0, p.1, p.2, p.3, p.4, p.5, inl p.6, laid_is_cut ts (t.0 + length p.1) p.2 p.7)
