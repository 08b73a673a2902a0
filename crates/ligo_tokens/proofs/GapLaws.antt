-- What the bytes of a gap are, and what is skipped of them: the same.
use Rattle.std.proofs.Common.{◌≡◌, ℕ, zero, suc, ◌+◌, ◌-◌, ◌≤◌, ◌<◌, ◌⊎◌, inl, inr, Bool, true, false, not, ◌==◌, ◌&&◌, IsTrue, List, [], ◌∷◌, ◌++◌, length, drop, refl, sym, ap, subst, ◌∙◌, arith, Option, Some, None, append_assoc, length-append}
use Rattle.micheline_text.specs.Kinds.{is_blank}
use Rattle.ligo_tokens.specs.Gaps.{gap_from, closed}
use Rattle.ligo_tokens.specs.Layout.{at_end, behind_comment, HasNoNewline, PartBefore, PartsBefore, GapBefore, IsEnd, IsUnclosedComment, first_is, begins_token}
use Rattle.micheline_text.specs.declared.gap.Gap.{Gap}
use Rattle.micheline_text.specs.declared.gap.Gap.TheVariants as gap
use Rattle.ligo_tokens.specs.declared.gap.Mode.TheVariants as mode

pub by_case : {P : Type 0} (b : Bool) → (b ≡ true → P) → (b ≡ false → P) → P
by_case true f g = f refl
by_case false f g = g refl

is_it : (a b : ℕ) → (a == b) ≡ true → a ≡ b
is_it a b h = grind arith

-- ---- comments

-- what follows a comment of which so many bytes were left at its first
abbrev behind : ℕ → Option (List ℕ) → Gap
behind from None = gap.Comment from
behind from (Some rest) = gap_from mode.Between rest

plain : (k c : ℕ) (bytes : List ℕ) → (c == 40) ≡ false → (c == 42) ≡ false → behind_comment k (c ∷ bytes) ≡ behind_comment k bytes
plain k c [] h i = refl
plain k c (b ∷ bytes) h i = rw (h, i) refl

mutual_ends : (from k : ℕ) (bytes : List ℕ) → ((j : ℕ) → gap_from (mode.Block from j) bytes ≡ behind from (behind_comment j bytes)) →
    gap_from (closed from k) bytes ≡ behind from (at_end k bytes (λ n. behind_comment n bytes))
mutual_ends from zero bytes ih = refl
mutual_ends from (suc k) bytes ih = ih k

pub record Comments (from : ℕ) (bytes : List ℕ) : Type 0 where
  pub block : (k : ℕ) → gap_from (mode.Block from k) bytes ≡ behind from (behind_comment k bytes)
  pub star : (k : ℕ) → gap_from (mode.Star from k) bytes ≡ behind from (behind_comment k (42 ∷ bytes))
  pub inner : (k : ℕ) → gap_from (mode.Inner from k) bytes ≡ behind from (behind_comment k (40 ∷ bytes))

block_step : (from k c : ℕ) (bytes : List ℕ) → Comments from bytes → gap_from (mode.Block from k) (c ∷ bytes) ≡ behind from (behind_comment k (c ∷ bytes))
block_step from k c bytes ih = by_case (c == 42)
    (λ is. subst (λ x. gap_from (mode.Block from k) (x ∷ bytes) ≡ behind from (behind_comment k (x ∷ bytes))) (sym (is_it c 42 is)) (ih.star k))
    (λ other. by_case (c == 40) (λ is. subst (λ x. gap_from (mode.Block from k) (x ∷ bytes) ≡ behind from (behind_comment k (x ∷ bytes))) (sym (is_it c 40 is)) (ih.inner k))
    (λ not_open. rw (other, not_open, plain k c bytes not_open other) (ih.block k)))

star_step : (from k c : ℕ) (bytes : List ℕ) → Comments from bytes → gap_from (mode.Star from k) (c ∷ bytes) ≡ behind from (behind_comment k (42 ∷ c ∷ bytes))
star_step from k c bytes ih = by_case (c == 41)
    (λ is. subst (λ x. gap_from (mode.Star from k) (x ∷ bytes) ≡ behind from (behind_comment k (42 ∷ x ∷ bytes))) (sym (is_it c 41 is)) (mutual_ends from k bytes ih.block))
    (λ other. by_case (c == 42) (λ is. subst (λ x. gap_from (mode.Star from k) (x ∷ bytes) ≡ behind from (behind_comment k (42 ∷ x ∷ bytes))) (sym (is_it c 42 is)) (ih.star k))
    (λ no_star. by_case (c == 40) (λ is. subst (λ x. gap_from (mode.Star from k) (x ∷ bytes) ≡ behind from (behind_comment k (42 ∷ x ∷ bytes))) (sym (is_it c 40 is)) (ih.inner k))
    (λ no_open. rw (other, no_star, no_open, plain k c bytes no_open no_star) (ih.block k))))

inner_step : (from k c : ℕ) (bytes : List ℕ) → Comments from bytes → gap_from (mode.Inner from k) (c ∷ bytes) ≡ behind from (behind_comment k (40 ∷ c ∷ bytes))
inner_step from k c bytes ih = by_case (c == 42)
    (λ is. subst (λ x. gap_from (mode.Inner from k) (x ∷ bytes) ≡ behind from (behind_comment k (40 ∷ x ∷ bytes))) (sym (is_it c 42 is)) (ih.block (k + 1)))
    (λ other. by_case (c == 40) (λ is. subst (λ x. gap_from (mode.Inner from k) (x ∷ bytes) ≡ behind from (behind_comment k (40 ∷ x ∷ bytes))) (sym (is_it c 40 is)) (ih.inner k))
    (λ no_open. rw (other, no_open, plain k c bytes no_open other) (ih.block k)))

pub comments : (from : ℕ) (bytes : List ℕ) → Comments from bytes
comments from [] = record { block = λ k. refl; star = λ k. refl; inner = λ k. refl }
comments from (c ∷ bytes) = let ih = comments from bytes in record {
  block = λ k. block_step from k c bytes ih;
  star = λ k. star_step from k c bytes ih;
  inner = λ k. inner_step from k c bytes ih;
}

-- ---- lines

pub line_ends : (line rest : List ℕ) → HasNoNewline line → gap_from mode.Line (line ++ 10 ∷ rest) ≡ gap_from mode.Between rest
line_ends [] rest l = refl
line_ends (b ∷ line) rest l = let other = l.0 in let f : (b == 10) ≡ false = negated (b == 10) other in rw f (line_ends line rest (l.1)) where
  negated : (c : Bool) → not c ≡ true → c ≡ false
  negated true n = absurd cc
  negated false n = refl

pub line_open : (line : List ℕ) → HasNoNewline line → gap_from mode.Line line ≡ gap.End
line_open [] l = refl
line_open (b ∷ line) l = let f : (b == 10) ≡ false = negated (b == 10) (l.0) in rw f (line_open line (l.1)) where
  negated : (c : Bool) → not c ≡ true → c ≡ false
  negated true n = absurd cc
  negated false n = refl

-- ---- what is left is the end of the bytes

abbrev pub Behind : List ℕ → List ℕ → Type 0
Behind bytes rest = (front : List ℕ) × (bytes ≡ front ++ rest)

further : (a : ℕ) (bytes rest : List ℕ) → Behind bytes rest → Behind (a ∷ bytes) rest
further a bytes rest b = (a ∷ b.0, ap (λ l. a ∷ l) (b.1))

behind_at_end : (k : ℕ) (bytes rest : List ℕ) (inside : ℕ → Option (List ℕ)) → ((j : ℕ) → inside j ≡ Some rest → Behind bytes rest) → at_end k bytes inside ≡ Some rest → Behind bytes rest
behind_at_end zero bytes rest inside ih h = let e : bytes ≡ rest = cc in ([], e)
behind_at_end (suc k) bytes rest inside ih h = ih k h

behind_inner : (bytes rest : List ℕ) (k : ℕ) → behind_comment k bytes ≡ Some rest → Behind bytes rest
behind_inner [] rest k h = absurd cc
behind_inner (a ∷ []) rest k h = absurd cc
behind_inner (a ∷ b ∷ bytes) rest k h = by_case ((a == 40) && (b == 42))
    (λ is. let e : behind_comment (k + 1) bytes ≡ Some rest = sym (opens is) ∙ h in further a (b ∷ bytes) rest (further b bytes rest (behind_inner bytes rest (k + 1) e)))
    (λ other. by_case ((a == 42) && (b == 41))
    (λ is. further a (b ∷ bytes) rest (further b bytes rest (behind_at_end k bytes rest (λ n. behind_comment n bytes) (λ j. behind_inner bytes rest j) (sym (ends other is) ∙ h))))
    (λ not_end. further a (b ∷ bytes) rest (behind_inner (b ∷ bytes) rest k (sym (goes other not_end) ∙ h)))) where
      opens : ((a == 40) && (b == 42)) ≡ true → behind_comment k (a ∷ b ∷ bytes) ≡ behind_comment (k + 1) bytes
      opens is = rw is refl

      ends : ((a == 40) && (b == 42)) ≡ false → ((a == 42) && (b == 41)) ≡ true → behind_comment k (a ∷ b ∷ bytes) ≡ at_end k bytes (λ n. behind_comment n bytes)
      ends other is = rw (other, is) refl

      goes : ((a == 40) && (b == 42)) ≡ false → ((a == 42) && (b == 41)) ≡ false → behind_comment k (a ∷ b ∷ bytes) ≡ behind_comment k (b ∷ bytes)
      goes other not_end = rw (other, not_end) refl

part_behind : (bytes rest : List ℕ) → PartBefore bytes rest → Behind bytes rest
part_behind bytes rest (inl p) = (p.0 ∷ [], p.1)
part_behind bytes rest (inr (inl p)) = (47 ∷ 47 ∷ (p.0 ++ 10 ∷ []), p.1 ∙ ap (λ l. 47 ∷ 47 ∷ l) (sym (append_assoc (p.0) (10 ∷ []) rest)))
part_behind bytes rest (inr (inr p)) = let b = behind_inner (p.0) rest 0 (p.2) in (40 ∷ 42 ∷ b.0, p.1 ∙ ap (λ l. 40 ∷ 42 ∷ l) (b.1))

pub gap_behind : (n : ℕ) (bytes rest : List ℕ) → PartsBefore n bytes rest → Behind bytes rest
gap_behind zero bytes rest g = ([], g)
gap_behind (suc n) bytes rest g =
    let b = part_behind bytes g.0 g.1 in
    let c = gap_behind n g.0 rest g.2 in
    (b.0 ++ c.0, b.1 ∙ ap (λ l. b.0 ++ l) (c.1) ∙ sym (append_assoc b.0 c.0 rest))

drop_front : (front rest : List ℕ) → drop (length front) (front ++ rest) ≡ rest
drop_front [] rest = refl
drop_front (a ∷ front) rest = drop_front front rest

pub behind_drop : (bytes rest : List ℕ) → Behind bytes rest → drop (length bytes - length rest) bytes ≡ rest
behind_drop bytes rest b =
    let l = length-append b.0 rest in
    let n : length (b.0 ++ rest) - length rest ≡ length b.0 = omega (arith, l) in
    rw (b.1) (ap (λ k. drop k (b.0 ++ rest)) n ∙ drop_front b.0 rest)

-- ---- what is skipped of a gap

part_skipped : (bytes rest : List ℕ) → PartBefore bytes rest → gap_from mode.Between bytes ≡ gap_from mode.Between rest
part_skipped bytes rest (inl p) = let h : is_blank p.0 ≡ true = p.2 in rw (p.1, h) refl
part_skipped bytes rest (inr (inl p)) = rw (p.1) (line_ends (p.0) rest (p.2))
part_skipped bytes rest (inr (inr p)) = let c = (comments (length (40 ∷ 42 ∷ p.0)) (p.0)).block 0 in rw (p.1) (c ∙ ap (behind (length (40 ∷ 42 ∷ p.0))) (p.2))

pub gap_skipped : (n : ℕ) (bytes rest : List ℕ) → PartsBefore n bytes rest → gap_from mode.Between bytes ≡ gap_from mode.Between rest
gap_skipped zero bytes rest g = ap (gap_from mode.Between) g
gap_skipped (suc n) bytes rest g = part_skipped bytes g.0 g.1 ∙ gap_skipped n g.0 rest g.2

pub end_told : (rest : List ℕ) → IsEnd rest → gap_from mode.Between rest ≡ gap.End
end_told rest (inl e) = rw e refl
end_told rest (inr e) = rw (e.1) (line_open (e.0) (e.2))

pub open_told : (rest : List ℕ) → IsUnclosedComment rest → gap_from mode.Between rest ≡ gap.Comment (length rest)
open_told rest o = let c = (comments (length (40 ∷ 42 ∷ o.0)) (o.0)).block 0 in rw (o.1) (c ∙ ap (behind (length (40 ∷ 42 ∷ o.0))) (o.2))

not_true : (c : Bool) → not c ≡ true → c ≡ false
not_true true n = absurd cc
not_true false n = refl

split_and : (a b : Bool) → (a && b) ≡ true → (a ≡ true) × (b ≡ true)
split_and true true h = (refl, refl)
split_and true false h = absurd cc
split_and false b h = absurd cc

slash_token : (bytes : List ℕ) (n : ℕ) → first_is 47 bytes ≡ false → gap_from (mode.Slash n) bytes ≡ gap.Token n
slash_token [] n h = refl
slash_token (b ∷ bytes) n h = rw h refl

paren_token : (bytes : List ℕ) (n : ℕ) → first_is 42 bytes ≡ false → gap_from (mode.Paren n) bytes ≡ gap.Token n
paren_token [] n h = refl
paren_token (b ∷ bytes) n h = rw h refl

and_false : (a b : Bool) → a ≡ true → (a && b) ≡ false → b ≡ false
and_false a b e h = ap (λ c. c && b) (sym e) ∙ h

pub token_told : (rest : List ℕ) → begins_token rest ≡ true → gap_from mode.Between rest ≡ gap.Token (length rest)
token_told [] h = absurd cc
token_told (a ∷ bytes) h =
    let parts = split_and (not (is_blank a)) (not ((a == 47) && first_is 47 bytes) && not ((a == 40) && first_is 42 bytes)) h in
    let more = split_and (not ((a == 47) && first_is 47 bytes)) (not ((a == 40) && first_is 42 bytes)) (parts.1) in
    let blank = not_true (is_blank a) (parts.0) in
    by_case (a == 47)
    (λ is. rw (blank, is) (slash_token bytes (length (a ∷ bytes)) (and_false (a == 47) (first_is 47 bytes) is (not_true ((a == 47) && first_is 47 bytes) (more.0)))))
    (λ other. by_case (a == 40)
    (λ is. rw (blank, other, is) (paren_token bytes (length (a ∷ bytes)) (and_false (a == 40) (first_is 42 bytes) is (not_true ((a == 40) && first_is 42 bytes) (more.1)))))
    (λ no_paren. rw (blank, other, no_paren) refl))

-- ---- some gap stands in front of any bytes, and then the end, a comment without one, or a token

abbrev pub Ahead : List ℕ → Type 0
Ahead bytes = (rest : List ℕ) × GapBefore bytes rest × (IsEnd rest ⊎ (IsUnclosedComment rest ⊎ IsTrue (begins_token rest)))

one_more : (bytes between : List ℕ) → PartBefore bytes between → Ahead between → Ahead bytes
one_more bytes between p a = (a.0, (suc a.1.0, (between, p, a.1.1)), a.2)

here : (bytes : List ℕ) → IsEnd bytes ⊎ (IsUnclosedComment bytes ⊎ IsTrue (begins_token bytes)) → Ahead bytes
here bytes w = (bytes, (0, refl), w)

-- a line ends, or goes on to the end of the bytes
abbrev Lined : List ℕ → Type 0
Lined bytes = ((line rest : List ℕ) × (bytes ≡ line ++ 10 ∷ rest) × HasNoNewline line × (length rest < length bytes)) ⊎ HasNoNewline bytes

lined : (bytes : List ℕ) → Lined bytes
lined [] = inr tt
lined (b ∷ bytes) = by_case (b == 10)
    (λ is. let e : b ≡ 10 = is_it b 10 is in inl ([], bytes, ap (λ x. x ∷ bytes) e, tt, omega arith))
    (λ other. more other (lined bytes)) where
      more : (b == 10) ≡ false → Lined bytes → Lined (b ∷ bytes)
      more other (inl l) = let n : not (b == 10) ≡ true = ap not other in inl (b ∷ l.0, l.1, ap (λ x. b ∷ x) (l.2), (n, l.3), omega (arith, l.4))
      more other (inr l) = let n : not (b == 10) ≡ true = ap not other in inr (n, l)

pub shorter_behind : (bytes rest : List ℕ) → Behind bytes rest → length rest ≤ length bytes
shorter_behind bytes rest b = let l = length-append b.0 rest in rw (b.1) (omega (arith, l))

token_here : (a : ℕ) (bytes : List ℕ) → is_blank a ≡ false → ((a == 47) && first_is 47 bytes) ≡ false → ((a == 40) && first_is 42 bytes) ≡ false → begins_token (a ∷ bytes) ≡ true
token_here a bytes h i j = rw (h, i, j) refl

module _ (n : ℕ) (ih : (bytes : List ℕ) → length bytes ≤ n → Ahead bytes) where
  at_line : (bytes : List ℕ) → length bytes ≤ n → Ahead (47 ∷ 47 ∷ bytes)
  at_line bytes le = at (lined bytes) where
    at : Lined bytes → Ahead (47 ∷ 47 ∷ bytes)
    at (inl l) = one_more (47 ∷ 47 ∷ bytes) l.1 (inr (inl (l.0, ap (λ x. 47 ∷ 47 ∷ x) (l.2), l.3))) (ih l.1 (omega (arith, l.4, le)))
    at (inr l) = here (47 ∷ 47 ∷ bytes) (inl (inr (bytes, refl, l)))

  at_comment : (bytes : List ℕ) (o : Option (List ℕ)) → behind_comment 0 bytes ≡ o → length bytes ≤ n → Ahead (40 ∷ 42 ∷ bytes)
  at_comment bytes None h le = here (40 ∷ 42 ∷ bytes) (inr (inl (bytes, refl, h)))
  at_comment bytes (Some rest) h le =
      let s = shorter_behind bytes rest (behind_inner bytes rest 0 h) in
      one_more (40 ∷ 42 ∷ bytes) rest (inr (inr (bytes, refl, h))) (ih rest (omega (arith, s, le)))

  at_slash : (bytes : List ℕ) → length bytes ≤ n → is_blank 47 ≡ false → Ahead (47 ∷ bytes)
  at_slash [] le h = here (47 ∷ []) (inr (inr refl))
  at_slash (b ∷ bytes) le h = by_case (b == 47)
      (λ is. subst (λ x. Ahead (47 ∷ x ∷ bytes)) (sym (is_it b 47 is)) (at_line bytes (omega (arith, le))))
      (λ other. here (47 ∷ b ∷ bytes) (inr (inr (token_here 47 (b ∷ bytes) h other refl))))

  at_paren : (bytes : List ℕ) → length bytes ≤ n → is_blank 40 ≡ false → Ahead (40 ∷ bytes)
  at_paren [] le h = here (40 ∷ []) (inr (inr refl))
  at_paren (b ∷ bytes) le h = by_case (b == 42)
      (λ is. subst (λ x. Ahead (40 ∷ x ∷ bytes)) (sym (is_it b 42 is)) (at_comment bytes (behind_comment 0 bytes) refl (omega (arith, le))))
      (λ other. here (40 ∷ b ∷ bytes) (inr (inr (token_here 40 (b ∷ bytes) h refl other))))

  at_byte : (a : ℕ) (bytes : List ℕ) → length bytes ≤ n → Ahead (a ∷ bytes)
  at_byte a bytes le = by_case (is_blank a)
      (λ is. one_more (a ∷ bytes) bytes (inl (a, refl, is)) (ih bytes le))
      (λ no_blank. by_case (a == 47)
      (λ is. subst (λ x. Ahead (x ∷ bytes)) (sym (is_it a 47 is)) (at_slash bytes le refl))
      (λ no_slash. by_case (a == 40)
      (λ is. subst (λ x. Ahead (x ∷ bytes)) (sym (is_it a 40 is)) (at_paren bytes le refl))
      (λ no_paren. here (a ∷ bytes) (inr (inr (token_here a bytes no_blank (none (a == 47) (first_is 47 bytes) no_slash) (none (a == 40) (first_is 42 bytes) no_paren))))))) where
        none : (b c : Bool) → b ≡ false → (b && c) ≡ false
        none b c e = rw e refl

ahead_of : (n : ℕ) (bytes : List ℕ) → length bytes ≤ n → Ahead bytes
ahead_of n [] le = here [] (inl (inl refl))
ahead_of zero (a ∷ bytes) le = absurd (omega arith)
ahead_of (suc n) (a ∷ bytes) le = at_byte n (ahead_of n) a bytes (omega arith)

pub ahead : (bytes : List ℕ) → Ahead bytes
ahead bytes = ahead_of (length bytes) bytes (omega arith)
