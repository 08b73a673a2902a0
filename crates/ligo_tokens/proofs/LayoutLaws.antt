-- Any bytes are laid out as the tokens that are read of them, and as no others.
use Rattle.std.proofs.Common.{◌≡◌, ℕ, zero, suc, ◌+◌, ◌-◌, ◌≤◌, ◌<◌, ◌⊎◌, inl, inr, true, IsTrue, List, [], ◌∷◌, length, drop, refl, sym, ap, subst, ◌∙◌, arith, None}
use Rattle.std.proofs.lemmas.List.{length-drop}
use Rattle.ligo_tokens.specs.Gaps.{gap_from}
use Rattle.ligo_tokens.specs.Lexing.{front, front_of_kind, placed, tokens_of}
use Rattle.ligo_tokens.specs.Layout.{GapBefore, IsEnd, IsUnclosedComment, begins_token, AreLaid}
use Rattle.ligo_tokens.specs.declared.gap.Mode.TheVariants as mode
use Rattle.ligo_tokens.specs.declared.token.Kind.TheVariants as kind
use Rattle.ligo_tokens.specs.declared.token.Token.{Token}
use Rattle.ligo_tokens.proofs.GapLaws.{ahead, gap_behind, behind_drop, gap_skipped, end_told, open_told, token_told, shorter_behind}
use Rattle.ligo_tokens.proofs.TokensLemmas.{no_token, open_comment, one_token, front_takes}

module _ (at : ℕ) (bytes rest : List ℕ) (g : GapBefore bytes rest) where
  skipped : gap_from mode.Between bytes ≡ gap_from mode.Between rest
  skipped = gap_skipped g.0 bytes rest g.1

  there : drop (length bytes - length rest) bytes ≡ rest
  there = behind_drop bytes rest (gap_behind g.0 bytes rest g.1)

  read_end : IsEnd rest → tokens_of at bytes ≡ []
  read_end e = no_token at bytes (skipped ∙ end_told rest e)

  read_open : IsUnclosedComment rest → tokens_of at bytes ≡ placed (at + (length bytes - length rest)) (front_of_kind kind.Faulty None (length rest)) ∷ []
  read_open o = open_comment at bytes (length rest) (skipped ∙ open_told rest o)

  read_token : begins_token rest ≡ true → tokens_of at bytes ≡
      placed (at + (length bytes - length rest)) (front rest) ∷ tokens_of (at + (length bytes - length rest) + (front rest).taken) (drop (front rest).taken rest)
  read_token t = one_token at bytes (length rest) (skipped ∙ token_told rest t) ∙ rw there refl

some_left : (rest : List ℕ) → begins_token rest ≡ true → 1 ≤ length rest
some_left [] h = absurd cc
some_left (a ∷ rest) h = omega arith

pub laid_as_read : (n at : ℕ) (bytes : List ℕ) → length bytes < n → AreLaid at bytes (tokens_of at bytes)
laid_as_read zero at bytes lt = absurd (omega arith)
laid_as_read (suc n) at bytes lt = let a = ahead bytes in look a.0 a.1 a.2 (λ to more less. laid_as_read n to more less) where
  look : (rest : List ℕ) (g : GapBefore bytes rest) → IsEnd rest ⊎ (IsUnclosedComment rest ⊎ IsTrue (begins_token rest)) →
      ((to : ℕ) (more : List ℕ) → length more < n → AreLaid to more (tokens_of to more)) → AreLaid at bytes (tokens_of at bytes)
  look rest g (inl e) ih = subst (AreLaid at bytes) (sym (read_end at bytes rest g e)) (rest, g, e)
  look rest g (inr (inl o)) ih = subst (AreLaid at bytes) (sym (read_open at bytes rest g o)) (rest, g, inl (o, refl, refl))
  look rest g (inr (inr t)) ih =
      let s = shorter_behind bytes rest (gap_behind g.0 bytes rest g.1) in
      let some = some_left rest t in
      let takes = front_takes rest some in
      let less : length (drop (front rest).taken rest) < n = omega (arith, length-drop (front rest).taken rest, s, some, takes, lt) in
      subst (AreLaid at bytes) (sym (read_token at bytes rest g t))
      (rest, g, inr (t, refl, ih (at + (length bytes - length rest) + (front rest).taken) (drop (front rest).taken rest) less))

pub read_as_laid : (ts : List Token) (at : ℕ) (bytes : List ℕ) → AreLaid at bytes ts → tokens_of at bytes ≡ ts
read_as_laid [] at bytes l = read_end at bytes l.0 l.1 l.2
read_as_laid (t ∷ ts) at bytes (rest, g, inl o) = read_open at bytes rest g (o.0) ∙ rw (o.1, o.2) refl
read_as_laid (t ∷ ts) at bytes (rest, g, inr o) =
    read_token at bytes rest g (o.0) ∙ ap (λ x. placed (at + (length bytes - length rest)) (front rest) ∷ x) (read_as_laid ts _ _ (o.2)) ∙ ap (λ x. x ∷ ts) (sym (o.1))
