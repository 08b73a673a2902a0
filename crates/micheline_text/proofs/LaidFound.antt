-- Any bytes are cut into what is read of them.
use Rattle.std.proofs.Common.{◌≡◌, ℕ, zero, suc, ◌+◌, ◌-◌, ◌≤◌, ◌<◌, ◌⊎◌, inl, inr, true, false, cond, List, [], ◌∷◌, ◌++◌, length, drop, Ok, refl, sym, ap, subst, ◌∙◌, arith}
use Rattle.std.specs.List.{AllByRecursion}
use Rattle.std.proofs.lemmas.List.{append-nil, length-append, drop_at}
use Rattle.micheline_text.specs.declared.node.Node.{Node}
use Rattle.micheline_text.specs.declared.level.Level.{Level}
use Rattle.micheline_text.specs.declared.level.Open.{Open}
use Rattle.micheline_text.specs.declared.gap.Gap.{Gap}
use Rattle.micheline_text.specs.declared.gap.Gap.TheVariants as gap
use Rattle.micheline_text.specs.declared.gap.Mode.TheVariants as mode
use Rattle.micheline_text.specs.declared.token.Token.{Token}
use Rattle.micheline_text.specs.declared.token.Token.TheVariants as token
use Rattle.micheline_text.specs.Gaps.{gap_from, GapWithin}
use Rattle.micheline_text.specs.Lexing.{front_token, is_faulty, token_at, tokens_of, after_gap}
use Rattle.micheline_text.specs.Layout.{IsGap, IsLast, IsPart, IsSpelled, IsLaidOut}
use Rattle.micheline_text.specs.Cuts.{IsUnfit, BeginsNothing, Stands, IsCutInto}
use Rattle.micheline_text.specs.Reading.{State, step, run}
use Rattle.micheline_text.proofs.Held.{after_ok}
use Rattle.micheline_text.proofs.Laid.{gap_passes, last_ends, part_passes, part_some}
use Rattle.micheline_text.proofs.GapFound.{IsSkipped, skipped}
use Rattle.micheline_text.proofs.TokenFound.{Begins, token_found}
use Rattle.micheline_text.proofs.Tokens.{IsRead}
use Rattle.micheline_text.proofs.CutRead.{IsOpenGap, spelling_read, spelling_sound, whole_token}
use Rattle.micheline_text.proofs.TokensLemmas.{tokens_step, gap_within, token_takes}

-- ---- what begins nothing

-- no gap stands in front of the bytes
abbrev pub IsFront : List ℕ → Type 0
IsFront bytes = gap_from mode.Between bytes ≡ gap.Token (length bytes)

no_last : (bytes : List ℕ) → IsFront bytes → IsLast bytes → ⊥
no_last bytes front last = let ends : gap_from mode.Between bytes ≡ gap.End = last_ends bytes last in cc

no_part : (bytes part rest : List ℕ) → IsFront bytes → bytes ≡ part ++ rest → IsPart part → ⊥
no_part bytes part rest front parts is =
    let passed : gap_from mode.Between rest ≡ gap.Token (length bytes) = sym (part_passes part rest is) ∙ ap (gap_from mode.Between) (sym parts) ∙ front in
    let within : GapWithin (length rest) (gap.Token (length bytes)) = subst (GapWithin (length rest)) passed (gap_within mode.Between rest (length rest) (omega arith) tt) in
    let total : length bytes ≡ length part + length rest = ap length parts ∙ length-append part rest in
    let some : 1 ≤ length part = part_some part is in
    let less : length bytes ≤ length rest = within.1 in
    absurd (omega arith)

no_spelling : (bytes s rest : List ℕ) (t : Token) → IsFront bytes → (front_token bytes).0 ≡ token.Faulty → bytes ≡ s ++ rest → IsSpelled t s rest ⊎ IsUnfit t s rest → ⊥
no_spelling bytes s rest t front faulty parts spelled = at (spelling_read t s rest spelled)
  where
    at : IsRead t s rest ⊎ IsOpenGap t s rest → ⊥
    at (inl r) =
        let is : t ≡ token.Faulty = sym (ap (λ (x : Token × ℕ). x.0) r.token) ∙ ap (λ (x : List ℕ). (front_token x).0) (sym parts) ∙ faulty in
        let sound : is_faulty t ≡ false = spelling_sound t s rest spelled in
        let both : true ≡ false = sym (ap is_faulty is) ∙ sound in
        absurd cc
    at (inr c) =
        let alone : bytes ≡ s = parts ∙ ap (λ (x : List ℕ). s ++ x) c.1 ∙ append-nil s in
        let goes_open : gap_from mode.Between bytes ≡ gap.Comment (length s) = ap (gap_from mode.Between) alone ∙ c.2 in
        absurd cc

nothing_found : (bytes : List ℕ) → IsFront bytes → (front_token bytes).0 ≡ token.Faulty → BeginsNothing bytes
nothing_found bytes front faulty = record {
  no_end = no_last bytes front;
  no_part = λ part rest parts is. no_part bytes part rest front parts is;
  no_token = λ t s rest parts spelled. no_spelling bytes s rest t front faulty parts spelled;
}

-- ---- what stands behind a gap

-- the token that is read stands there
abbrev pub IsThere : List ℕ → Token × ℕ → Type 0
IsThere bytes x = (s rest : List ℕ) × (bytes ≡ s ++ rest) × (length s ≡ x.1) × Stands x.0 s rest

front_there : (bytes : List ℕ) → IsFront bytes → Begins bytes (front_token bytes) → IsThere bytes (token_at bytes)
front_there bytes front (inl faulty) =
    let is : token_at bytes ≡ (token.Faulty, length bytes) = ap (λ (t : Token). (t, cond (is_faulty t) (length bytes) (front_token bytes).1)) faulty in
    subst (IsThere bytes) (sym is) (bytes, [], sym (append-nil bytes), refl, inr (inr (refl, refl, nothing_found bytes front faulty)))
front_there bytes front (inr (s, rest, parts, size, spelled)) =
    let t = (front_token bytes).0 in
    subst (IsThere bytes) (sym (whole_token bytes t (front_token bytes).1 refl (spelling_sound t s rest spelled))) (s, rest, parts, size, stands spelled)
  where
    stands : IsSpelled (front_token bytes).0 s rest ⊎ IsUnfit (front_token bytes).0 s rest → Stands (front_token bytes).0 s rest
    stands (inl p) = inl p
    stands (inr p) = inr (inl p)

token_there : (bytes : List ℕ) → 1 ≤ length bytes → IsFront bytes → IsThere bytes (token_at bytes)
token_there [] some front = absurd (omega arith)
token_there (b ∷ rest) some front = front_there (b ∷ rest) front (token_found b rest)

abbrev Later : ℕ → Type 0
Later total = (to : ℕ) (rest : List ℕ) → length rest < total → IsCutInto to rest (tokens_of to rest)

-- a token, and those behind it
cut_token : (at : ℕ) (bytes blank there : List ℕ) → bytes ≡ blank ++ there → IsGap blank → 1 ≤ length there → IsFront there → Later (length bytes) →
    IsCutInto at bytes ((at + length blank, (token_at there).0) ∷ tokens_of (at + length blank + (token_at there).1) (drop (token_at there).1 there))
cut_token at bytes blank there parts is_gap some front on =
    let b = token_there there some front in
    let k = (token_at there).1 in
    let takes : 1 ≤ k = token_takes there some in
    let behind : drop k there ≡ b.1 = ap (λ (n : ℕ). drop n there) (sym b.3) ∙ ap (drop (length b.0)) b.2 ∙ drop_at b.0 b.1 (length b.0) refl in
    let total : length bytes ≡ length blank + length there = ap length parts ∙ length-append blank there in
    let size : length there ≡ length b.0 + length b.1 = ap length b.2 ∙ length-append b.0 b.1 in
    let shorter : length b.1 < length bytes = omega (arith, b.3) in
    let later : IsCutInto (at + length blank + k) b.1 (tokens_of (at + length blank + k) (drop k there)) =
    subst (λ (x : List ℕ). IsCutInto (at + length blank + k) b.1 (tokens_of (at + length blank + k) x)) (sym behind) (on (at + length blank + k) b.1 shorter) in (
      blank,
      b.0,
      b.1,
      parts ∙ ap (λ (x : List ℕ). blank ++ x) b.2,
      is_gap,
      refl,
      b.4,
      subst (λ (n : ℕ). IsCutInto (at + length blank + n) b.1 (tokens_of (at + length blank + k) (drop k there))) (sym b.3) later,
    )

cut_after : (at : ℕ) (bytes : List ℕ) (g : Gap) → gap_from mode.Between bytes ≡ g → IsSkipped bytes g → GapWithin (length bytes) g → Later (length bytes) → IsCutInto at bytes (after_gap at bytes g tokens_of)
cut_after at bytes gap.End is s w on = s
cut_after at bytes (gap.Comment left) is s w on =
    let there : List ℕ = 47 ∷ 42 ∷ s.1 in
    let total : length bytes ≡ length s.0 + length there = ap length s.2 ∙ length-append s.0 there in
    let place : at + (length bytes - left) ≡ at + length s.0 = omega (arith, s.5) in
    (s.0, there, [], s.2 ∙ ap (λ (x : List ℕ). s.0 ++ x) (sym (append-nil there)), s.3, place, inr (inl (refl, (s.1, refl, s.4))), ([], [], ([], refl, tt), tt, inl refl))
cut_after at bytes (gap.Token left) is s w on =
    let blank = s.0 in
    let there = s.1 in
    let total : length bytes ≡ length blank + length there = ap length s.2 ∙ length-append blank there in
    let from : length bytes - left ≡ length blank = omega (arith, s.4) in
    let found : drop (length bytes - left) bytes ≡ there = ap (λ (k : ℕ). drop k bytes) from ∙ ap (drop (length blank)) s.2 ∙ drop_at blank there (length blank) refl in
    let some : 1 ≤ length there = omega (arith, s.4, w.0) in
    let front : IsFront there = sym (gap_passes blank there s.3) ∙ ap (gap_from mode.Between) (sym s.2) ∙ is ∙ ap gap.Token (sym s.4) in
    let tail : ℕ → List ℕ → List (ℕ × Token) = λ k x. (at + k, (token_at x).0) ∷ tokens_of (at + k + (token_at x).1) (drop (token_at x).1 x) in
    let same : tail (length bytes - left) (drop (length bytes - left) bytes) ≡ tail (length blank) there = (λ i. tail (from i) (found i)) in
    subst (IsCutInto at bytes) (sym same) (cut_token at bytes blank there s.2 s.3 some front on)

cut_found : (n at : ℕ) (bytes : List ℕ) → length bytes < n → IsCutInto at bytes (tokens_of at bytes)
cut_found zero at bytes short = absurd (omega arith)
cut_found (suc n) at bytes short =
    subst (IsCutInto at bytes) (sym (tokens_step at bytes))
    (cut_after at bytes (gap_from mode.Between bytes) refl (skipped bytes) (gap_within mode.Between bytes (length bytes) (omega arith) tt) (λ to rest shorter. cut_found n to rest (omega arith)))

-- any bytes are cut into the tokens that are read of them
pub tokens_are_cut : (bytes : List ℕ) → IsCutInto 0 bytes (tokens_of 0 bytes)
tokens_are_cut bytes = cut_found (suc (length bytes)) 0 bytes (omega arith)

-- ---- a text that is read has proper tokens

-- what has a spelling
abbrev pub IsProper : Token → Type 0
IsProper token.Wide = ⊥
IsProper token.OpenText = ⊥
IsProper token.OpenComment = ⊥
IsProper token.Faulty = ⊥
IsProper t = Unit {0}

abbrev pub AreProper : List (ℕ × Token) → Type 0
AreProper = AllByRecursion (λ t. IsProper t.1)

unfit_never : (t : Token) (s rest : List ℕ) → IsProper t → IsUnfit t s rest → ⊥
unfit_never token.Wide s rest proper p = absurd proper
unfit_never token.OpenText s rest proper p = absurd proper
unfit_never token.OpenComment s rest proper p = absurd proper
unfit_never t s rest proper p = absurd p

proper_stands : (t : Token) (s rest : List ℕ) → IsProper t → Stands t s rest → IsSpelled t s rest
proper_stands t s rest proper (inl p) = p
proper_stands t s rest proper (inr (inl p)) = absurd (unfit_never t s rest proper p)
proper_stands t s rest proper (inr (inr p)) = absurd (subst IsProper p.0 proper)

-- proper tokens are laid out in the bytes
pub cut_is_laid : (ts : List (ℕ × Token)) (at : ℕ) (bytes : List ℕ) → AreProper ts → IsCutInto at bytes ts → IsLaidOut at bytes ts
cut_is_laid [] at bytes proper p = p
cut_is_laid (t ∷ ts) at bytes proper p = (p.0, p.1, p.2, p.3, p.4, p.5, proper_stands t.1 p.1 p.2 proper.0 p.6, cut_is_laid ts (t.0 + length p.1) p.2 proper.1 p.7)

step_proper : (at : ℕ) (t : Token) (l : Level) (os : List Open) (s : State) → step at t l os ≡ Ok s → IsProper t
step_proper at (token.Number z) l os s e = tt
step_proper at (token.Text t) l os s e = tt
step_proper at (token.Bytes t) l os s e = tt
step_proper at (token.Word w) l os s e = tt
step_proper at (token.Note w) l os s e = tt
step_proper at token.OpenBrace l os s e = tt
step_proper at token.CloseBrace l os s e = tt
step_proper at token.OpenParen l os s e = tt
step_proper at token.CloseParen l os s e = tt
step_proper at token.Semicolon l os s e = tt
step_proper at token.Wide l os s e = absurd cc
step_proper at token.OpenText l os s e = absurd cc
step_proper at token.OpenComment l os s e = absurd cc
step_proper at token.Faulty l os s e = absurd cc

pub run_proper : (end : ℕ) (ts : List (ℕ × Token)) (s : State) (ns : List Node) → run end s ts ≡ Ok ns → AreProper ts
run_proper end [] s ns e = tt
run_proper end (t ∷ ts) s ns e =
    let a = after_ok (step t.0 t.1 s.0 s.1) (λ next. run end next ts) ns e in
    (step_proper t.0 t.1 s.0 s.1 a.value a.was, run_proper end ts a.value ns a.then_is)
