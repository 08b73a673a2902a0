-- Where two ways to part a list of tokens stand to each other.
use Rattle.std.proofs.Common.{◌≡◌, ℕ, ◌-◌, [], ◌∷◌, ◌++◌, length, take, drop, refl, sym, ap, ◌∙◌, arith, inl, inr, ◌⊎◌, length-append}
use Rattle.std.proofs.Math.Seq.{take-append_seam, drop-append_seam}
use Rattle.ligo_tokens.specs.declared.token.Token.{Token}
use Rattle.ligo_syntax.specs.Kinds.{Tokens}

not_nil : (f : Tokens) (t : Token) (more : Tokens) → Path Tokens [] (f ++ t ∷ more) → ⊥
not_nil [] t more h = absurd cc
not_nil (x ∷ f) t more h = absurd cc

head_is : (a b : Token) (x y : Tokens) → Path Tokens (a ∷ x) (b ∷ y) → a ≡ b
head_is a b x y h = cc

tail_is : (a b : Token) (x y : Tokens) → Path Tokens (a ∷ x) (b ∷ y) → x ≡ y
tail_is a b x y h = cc

-- the last token, and a token with more behind it
pub last_or_before : (front front' : Tokens) (s t : Token) (more : Tokens) → front ++ s ∷ [] ≡ front' ++ t ∷ more → ((more ≡ []) × (front ≡ front') × (s ≡ t)) ⊎ ((m : Tokens) × (front ≡ front' ++ t ∷ m))
last_or_before [] [] s t more h = inl (sym (tail_is s t [] more h), refl, head_is s t [] more h)
last_or_before [] (x ∷ f') s t more h = absurd (not_nil f' t more (tail_is s x [] (f' ++ t ∷ more) h))
last_or_before (x ∷ f) [] s t more h = inr (f, ap (λ y. y ∷ f) (head_is x t (f ++ s ∷ []) more h))
last_or_before (x ∷ f) (x' ∷ f') s t more h = one (last_or_before f f' s t more (tail_is x x' (f ++ s ∷ []) (f' ++ t ∷ more) h)) where
  e : x ≡ x'
  e = head_is x x' (f ++ s ∷ []) (f' ++ t ∷ more) h

  one : ((more ≡ []) × (f ≡ f') × (s ≡ t)) ⊎ ((m : Tokens) × (f ≡ f' ++ t ∷ m)) → ((more ≡ []) × (x ∷ f ≡ x' ∷ f') × (s ≡ t)) ⊎ ((m : Tokens) × (x ∷ f ≡ x' ∷ (f' ++ t ∷ m)))
  one (inl i) = inl (i.0, ap (λ y. y ∷ f) e ∙ ap (λ l. x' ∷ l) (i.1), i.2)
  one (inr i) = inr (i.0, ap (λ y. y ∷ f) e ∙ ap (λ l. x' ∷ l) (i.1))

-- one front goes further than the other
abbrev pub Further : Tokens → Tokens → Tokens → Type 0
Further front after front' = (t : Token) × (m : Tokens) × (k : Tokens) × (after ≡ t ∷ m) × (front' ≡ front ++ t ∷ k)

pub compare : (front after front' after' : Tokens) → front ++ after ≡ front' ++ after' → ((front ≡ front') × (after ≡ after')) ⊎ (Further front after front' ⊎ Further front' after' front)
compare [] after [] after' h = inl (refl, h)
compare [] [] (x ∷ f') after' h = absurd cc
compare [] (t ∷ m) (x ∷ f') after' h = inr (inl (t, m, f', refl, ap (λ y. y ∷ f') (sym (head_is t x m (f' ++ after') h))))
compare (x ∷ f) after [] [] h = absurd cc
compare (x ∷ f) after [] (t ∷ m) h = inr (inr (t, m, f, refl, ap (λ y. y ∷ f) (head_is x t (f ++ after) m h)))
compare (x ∷ f) after (x' ∷ f') after' h = one (compare f after f' after' (tail_is x x' (f ++ after) (f' ++ after') h)) where
  e : x ≡ x'
  e = head_is x x' (f ++ after) (f' ++ after') h

  one : ((f ≡ f') × (after ≡ after')) ⊎ (Further f after f' ⊎ Further f' after' f) → ((x ∷ f ≡ x' ∷ f') × (after ≡ after')) ⊎ (Further (x ∷ f) after (x' ∷ f') ⊎ Further (x' ∷ f') after' (x ∷ f))
  one (inl i) = inl (ap (λ y. y ∷ f) e ∙ ap (λ l. x' ∷ l) (i.0), i.1)
  one (inr (inl i)) = inr (inl (i.0, i.1, i.2, i.3, ap (λ y. y ∷ f') (sym e) ∙ ap (λ l. x ∷ l) (i.4)))
  one (inr (inr i)) = inr (inr (i.0, i.1, i.2, i.3, ap (λ y. y ∷ f) e ∙ ap (λ l. x' ∷ l) (i.4)))

-- what stands before so many, and they
pub front_is : (ts front after : Tokens) (n : ℕ) → ts ≡ front ++ after → n ≡ length after → take (length ts - n) ts ≡ front
front_is ts front after n whole left =
    let l = ap length whole in
    let i = length-append front after in
    let e : length ts - n ≡ length front = omega (arith, l, i, left) in
    ap (λ k. take k ts) e ∙ ap (take (length front)) whole ∙ take-append_seam front after

pub after_is : (ts front after : Tokens) (n : ℕ) → ts ≡ front ++ after → n ≡ length after → drop (length ts - n) ts ≡ after
after_is ts front after n whole left =
    let l = ap length whole in
    let i = length-append front after in
    let e : length ts - n ≡ length front = omega (arith, l, i, left) in
    ap (λ k. drop k ts) e ∙ ap (drop (length front)) whole ∙ drop-append_seam front after
