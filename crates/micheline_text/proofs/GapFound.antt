-- What is skipped is a gap.
use Rattle.std.proofs.Common.{◌≡◌, ℕ, suc, ◌+◌, ◌⊎◌, inl, inr, Bool, true, false, cond, List, [], ◌∷◌, ◌++◌, length, refl, sym, ap, subst, ◌∙◌, arith, append_assoc}
use Rattle.std.specs.Prelude.{◌==◌, not, ◌&&◌}
use Rattle.std.proofs.lemmas.List.{append-nil, length-append}
use Rattle.std.proofs.lemmas.Bool.{eqb-true}
use Rattle.std.proofs.lemmas.List.Concat.{flat_map-cons}
use Rattle.micheline_text.specs.declared.gap.Gap.{Gap}
use Rattle.micheline_text.specs.declared.gap.Gap.TheVariants as gap
use Rattle.micheline_text.specs.declared.gap.Mode.{Mode}
use Rattle.micheline_text.specs.declared.gap.Mode.TheVariants as mode
use Rattle.micheline_text.specs.declared.gap.Move.{Move}
use Rattle.micheline_text.specs.declared.gap.Move.TheVariants as move
use Rattle.micheline_text.specs.Kinds.{is_blank}
use Rattle.micheline_text.specs.Gaps.{gap_from, gap_end, move_at, after_move}
use Rattle.micheline_text.specs.Layout.{AllAre, begins_slash, has_no_end, IsPart, IsGap, IsLast}

-- ---- comments that go on

both : (a b : Bool) → (a && b) ≡ true → (a ≡ true) × (b ≡ true)
both true b e = (refl, e)
both false b e = absurd cc

two : (a b : Bool) → a ≡ true → b ≡ true → (a && b) ≡ true
two a b e f = rw (e, f) refl

slash_before : (xs : List ℕ) (b x : ℕ) → begins_slash ((xs ++ b ∷ []) ++ x ∷ []) ≡ begins_slash (xs ++ b ∷ [])
slash_before [] b x = refl
slash_before (y ∷ xs) b x = refl

-- one more byte, which ends nothing
longer : (xs : List ℕ) (b x : ℕ) → ((b == 42) && (x == 47)) ≡ false → has_no_end (xs ++ b ∷ []) ≡ true → has_no_end ((xs ++ b ∷ []) ++ x ∷ []) ≡ true
longer [] b x apart e = rw apart (ap (λ (v : Bool). not v && true) (never (x == 42)))
  where
    never : (v : Bool) → (v && false) ≡ false
    never true = refl
    never false = refl
longer (y ∷ xs) b x apart e =
    let p = both (not ((y == 42) && begins_slash (xs ++ b ∷ []))) (has_no_end (xs ++ b ∷ [])) e in
    two (not ((y == 42) && begins_slash ((xs ++ b ∷ []) ++ x ∷ []))) (has_no_end ((xs ++ b ∷ []) ++ x ∷ []))
    (ap (λ (v : Bool). not ((y == 42) && v)) (slash_before xs b x) ∙ p.0) (longer xs b x apart p.1)

one_byte : (x : ℕ) → has_no_end (x ∷ []) ≡ true
one_byte x = ap (λ (v : Bool). not v && true) (never (x == 42))
  where
    never : (v : Bool) → (v && false) ≡ false
    never true = refl
    never false = refl

not_and : (a b : Bool) → not a ≡ true → not (a && b) ≡ true
not_and true b e = absurd cc
not_and false b e = refl

-- one byte less
shorter : (xs : List ℕ) (b : ℕ) → has_no_end (xs ++ b ∷ []) ≡ true → has_no_end xs ≡ true
shorter [] b e = refl
shorter (y ∷ []) b e = one_byte y
shorter (y ∷ z ∷ xs) b e =
    let p = both (not ((y == 42) && (z == 47))) (has_no_end ((z ∷ xs) ++ b ∷ [])) e in
    two (not ((y == 42) && (z == 47))) (has_no_end (z ∷ xs)) p.0 (shorter (z ∷ xs) b p.1)

-- ---- what was seen since the last whole part

abbrev pub Seen : Mode → List ℕ → List ℕ → Type 0
Seen mode.Between p bytes = p ≡ []
Seen mode.Line p bytes = (line : List ℕ) × (p ≡ 35 ∷ line) × AllAre (λ b. not (b == 10)) line
Seen (mode.Slash from) p bytes = (p ≡ 47 ∷ []) × (from ≡ 1 + length bytes)
Seen (mode.Block from) p bytes = (inner : List ℕ) × (p ≡ 47 ∷ 42 ∷ inner) × ((x : ℕ) → has_no_end (inner ++ x ∷ []) ≡ true) × (from ≡ length p + length bytes)
Seen (mode.Star from) p bytes = (inner : List ℕ) × (p ≡ 47 ∷ 42 ∷ (inner ++ 42 ∷ [])) × (has_no_end (inner ++ 42 ∷ []) ≡ true) × (from ≡ length p + length bytes)

-- after a gap so many bytes are left, which a token or a comment without an end begins
abbrev pub IsSkipped : List ℕ → Gap → Type 0
IsSkipped bytes gap.End = IsLast bytes
IsSkipped bytes (gap.Token left) = (blank rest : List ℕ) × (bytes ≡ blank ++ rest) × IsGap blank × (length rest ≡ left)
IsSkipped bytes (gap.Comment left) = (blank inner : List ℕ) × (bytes ≡ blank ++ 47 ∷ 42 ∷ inner) × IsGap blank × (has_no_end inner ≡ true) × (length (47 ∷ 42 ∷ inner) ≡ left)

part_first : (part blank : List ℕ) → IsPart part → IsGap blank → IsGap (part ++ blank)
part_first part blank p g = (part ∷ g.0, ap (λ (x : List ℕ). part ++ x) g.1 ∙ sym (flat_map-cons (λ (x : List ℕ). x) part g.0), (p, g.2))

skipped_more : (part bytes : List ℕ) (g : Gap) → IsPart part → IsSkipped bytes g → IsSkipped (part ++ bytes) g
skipped_more part bytes gap.End p s =
    (part ++ s.0, s.1, part_first part s.0 p s.2, s.3, grown s.4)
  where
    grown : (bytes ≡ s.0) ⊎ (bytes ≡ s.0 ++ 35 ∷ s.1) → (part ++ bytes ≡ part ++ s.0) ⊎ (part ++ bytes ≡ (part ++ s.0) ++ 35 ∷ s.1)
    grown (inl e) = inl (ap (λ (x : List ℕ). part ++ x) e)
    grown (inr e) = inr (ap (λ (x : List ℕ). part ++ x) e ∙ sym (append_assoc part s.0 (35 ∷ s.1)))
skipped_more part bytes (gap.Token left) p s =
    (part ++ s.0, s.1, ap (λ (x : List ℕ). part ++ x) s.2 ∙ sym (append_assoc part s.0 s.1), part_first part s.0 p s.3, s.4)
skipped_more part bytes (gap.Comment left) p s =
    (part ++ s.0, s.1, ap (λ (x : List ℕ). part ++ x) s.2 ∙ sym (append_assoc part s.0 (47 ∷ 42 ∷ s.1)), part_first part s.0 p s.3, s.4, s.5)

no_gap_here : (bytes : List ℕ) → IsSkipped bytes (gap.Token (length bytes))
no_gap_here bytes = ([], bytes, refl, ([], refl, tt), refl)

-- one byte more was seen, and one is left fewer
one_on : (p bytes : List ℕ) (b from : ℕ) → from ≡ length p + length (b ∷ bytes) → from ≡ length (p ++ b ∷ []) + length bytes
one_on p bytes b from e = omega (arith, length-append p (b ∷ []))

all_push : (test : ℕ → Bool) (xs : List ℕ) (b : ℕ) → AllAre test xs → test b ≡ true → AllAre test (xs ++ b ∷ [])
all_push test [] b h e = (e, tt)
all_push test (x ∷ xs) b h e = (h.0, all_push test xs b h.1 e)

-- one byte: either the next mode was seen too, or a part is whole
abbrev pub Goes : Mode → List ℕ → List ℕ → ℕ → Move → Type 0
Goes m p bytes b (move.On n) = Seen n (p ++ b ∷ []) bytes ⊎ ((n ≡ mode.Between) × IsPart (p ++ b ∷ []))
Goes m p bytes b (move.Stop left) = IsSkipped (p ++ b ∷ bytes) (gap.Token left)

pick : (m : Mode) (p bytes : List ℕ) (b : ℕ) (v : Bool) (x y : Move) → (v ≡ true → Goes m p bytes b x) → (v ≡ false → Goes m p bytes b y) → Goes m p bytes b (cond v x y)
pick m p bytes b true x y f g = f refl
pick m p bytes b false x y f g = g refl

goes : (m : Mode) (p bytes : List ℕ) (b : ℕ) → Seen m p (b ∷ bytes) → Goes m p bytes b (move_at m (length (b ∷ bytes)) b)
goes mode.Between p bytes b s =
    let behind : p ++ b ∷ [] ≡ b ∷ [] = ap (λ (x : List ℕ). x ++ b ∷ []) s in
    pick mode.Between p bytes b (is_blank b) (move.On mode.Between)
    (cond (b == 35) (move.On mode.Line) (cond (b == 47) (move.On (mode.Slash (suc (length bytes)))) (move.Stop (suc (length bytes)))))
    (λ e. inr (refl, inl (b, behind, e)))
    (λ e. pick mode.Between p bytes b (b == 35) (move.On mode.Line) (cond (b == 47) (move.On (mode.Slash (suc (length bytes)))) (move.Stop (suc (length bytes))))
    (λ f. inl ([], behind ∙ ap (λ (x : ℕ). x ∷ []) (eqb-true b 35 f), tt))
    (λ f. pick mode.Between p bytes b (b == 47) (move.On (mode.Slash (suc (length bytes)))) (move.Stop (suc (length bytes)))
    (λ g. inl (behind ∙ ap (λ (x : ℕ). x ∷ []) (eqb-true b 47 g), omega arith))
    (λ g. subst (λ (x : List ℕ). IsSkipped (x ++ b ∷ bytes) (gap.Token (suc (length bytes)))) (sym s) (no_gap_here (b ∷ bytes)))))
goes mode.Line p bytes b s =
    let behind : p ++ b ∷ [] ≡ 35 ∷ (s.0 ++ b ∷ []) = ap (λ (x : List ℕ). x ++ b ∷ []) s.1 in
    pick mode.Line p bytes b (b == 10) (move.On mode.Between) (move.On mode.Line)
    (λ e. inr (refl, inr (inl (s.0, behind ∙ ap (λ (x : ℕ). 35 ∷ (s.0 ++ x ∷ [])) (eqb-true b 10 e), s.2))))
    (λ e. inl (s.0 ++ b ∷ [], behind, all_push (λ (x : ℕ). not (x == 10)) s.0 b s.2 (ap not e)))
goes (mode.Slash from) p bytes b s =
    let behind : p ++ b ∷ [] ≡ 47 ∷ b ∷ [] = ap (λ (x : List ℕ). x ++ b ∷ []) s.0 in
    pick (mode.Slash from) p bytes b (b == 42) (move.On (mode.Block from)) (move.Stop from)
    (λ e. inl ([], behind ∙ ap (λ (x : ℕ). 47 ∷ x ∷ []) (eqb-true b 42 e), (λ x. one_byte x), one_on p bytes b from (omega (arith, ap length s.0, s.1))))
    (λ e. let size : length (47 ∷ b ∷ bytes) ≡ from = omega (arith, s.1) in
    subst (λ (x : List ℕ). IsSkipped (x ++ b ∷ bytes) (gap.Token from)) (sym s.0) (subst (λ (k : ℕ). IsSkipped (47 ∷ b ∷ bytes) (gap.Token k)) size (no_gap_here (47 ∷ b ∷ bytes))))
goes (mode.Block from) p bytes b s =
    let behind : p ++ b ∷ [] ≡ 47 ∷ 42 ∷ (s.0 ++ b ∷ []) = ap (λ (x : List ℕ). x ++ b ∷ []) s.1 in
    pick (mode.Block from) p bytes b (b == 42) (move.On (mode.Star from)) (move.On (mode.Block from))
    (λ e. inl (s.0, behind ∙ ap (λ (x : ℕ). 47 ∷ 42 ∷ (s.0 ++ x ∷ [])) (eqb-true b 42 e), s.2 42, one_on p bytes b from s.3))
    (λ e. inl (s.0 ++ b ∷ [], behind, (λ x. longer s.0 b x (rw e refl) (s.2 b)), one_on p bytes b from s.3))
goes (mode.Star from) p bytes b s =
    let behind : p ++ b ∷ [] ≡ 47 ∷ 42 ∷ ((s.0 ++ 42 ∷ []) ++ b ∷ []) = ap (λ (x : List ℕ). x ++ b ∷ []) s.1 in
    pick (mode.Star from) p bytes b (b == 47) (move.On mode.Between) (cond (b == 42) (move.On (mode.Star from)) (move.On (mode.Block from)))
    (λ e. inr (refl, inr (inr (s.0, behind ∙ ap (λ (x : List ℕ). 47 ∷ 42 ∷ x) (append_assoc s.0 (42 ∷ []) (b ∷ []) ∙ ap (λ (x : ℕ). s.0 ++ 42 ∷ x ∷ []) (eqb-true b 47 e)), shorter s.0 42 s.2))))
    (λ e. pick (mode.Star from) p bytes b (b == 42) (move.On (mode.Star from)) (move.On (mode.Block from))
    (λ f. inl (s.0 ++ 42 ∷ [], behind ∙ ap (λ (x : ℕ). 47 ∷ 42 ∷ ((s.0 ++ 42 ∷ []) ++ x ∷ [])) (eqb-true b 42 f), longer s.0 42 42 refl s.2, one_on p bytes b from s.3))
    (λ f. inl ((s.0 ++ 42 ∷ []) ++ b ∷ [], behind, (λ x. longer (s.0 ++ 42 ∷ []) b x (rw f refl) (longer s.0 42 b e s.2)), one_on p bytes b from s.3)))

found_end : (m : Mode) (p : List ℕ) → Seen m p [] → IsSkipped p (gap_end m)
found_end mode.Between p s = (p, [], ([], s, tt), tt, inl refl)
found_end mode.Line p s = ([], s.0, ([], refl, tt), s.2, inr s.1)
found_end (mode.Slash from) p s = subst (λ (k : ℕ). IsSkipped p (gap.Token k)) (ap length s.0 ∙ sym s.1) (no_gap_here p)
found_end (mode.Block from) p s = ([], s.0, s.1, ([], refl, tt), shorter s.0 0 (s.2 0), omega (arith, ap length s.1, s.3))
found_end (mode.Star from) p s = ([], s.0 ++ 42 ∷ [], s.1, ([], refl, tt), s.2, omega (arith, ap length s.1, s.3))

pub gap_found : (bytes : List ℕ) (m : Mode) (p : List ℕ) → Seen m p bytes → IsSkipped (p ++ bytes) (gap_from m bytes)
gap_found [] m p s = subst (λ (x : List ℕ). IsSkipped x (gap_end m)) (sym (append-nil p)) (found_end m p s)
gap_found (b ∷ bytes) m p s = moved (λ n q t. gap_found bytes n q t) (move_at m (length (b ∷ bytes)) b) (goes m p bytes b s)
  where
    moved : ((n : Mode) (q : List ℕ) → Seen n q bytes → IsSkipped (q ++ bytes) (gap_from n bytes)) → (v : Move) → Goes m p bytes b v → IsSkipped (p ++ b ∷ bytes) (after_move v (λ n. gap_from n bytes))
    moved on (move.On n) (inl t) = subst (λ (x : List ℕ). IsSkipped x (gap_from n bytes)) (append_assoc p (b ∷ []) bytes) (on n (p ++ b ∷ []) t)
    moved on (move.On n) (inr t) =
        subst (λ (x : List ℕ). IsSkipped x (gap_from n bytes)) (append_assoc p (b ∷ []) bytes)
        (skipped_more (p ++ b ∷ []) bytes (gap_from n bytes) t.1 (subst (λ (k : Mode). IsSkipped bytes (gap_from k bytes)) (sym t.0) (on mode.Between [] refl)))
    moved on (move.Stop left) t = t

-- what stands before the next token, or the end, is a gap
pub skipped : (bytes : List ℕ) → IsSkipped bytes (gap_from mode.Between bytes)
skipped bytes = gap_found bytes mode.Between [] refl
