-- Sets of kinds.
use Rattle.std.proofs.Common.{◌≡◌, ℕ, ◌==◌, Bool, true, false, not, ◌&&◌, ◌||◌, [], ◌∷◌, ◌++◌, refl, sym, ap, ◌∙◌, arith}
use Rattle.ligo_syntax.specs.Kinds.{Tokens, Kinds, code, next, has, Ends}

-- none is in both
abbrev pub apart : Kinds → Kinds → Bool
apart [] ys = true
apart (x ∷ xs) ys = not (has ys (code x)) && apart xs ys

-- each is in the other
abbrev pub within : Kinds → Kinds → Bool
within [] ys = true
within (x ∷ xs) ys = has ys (code x) && within xs ys

-- the second only if
abbrev pub when : Bool → Kinds → Kinds
when true xs = xs
when false xs = []

pub by_case : {P : Type 0} (b : Bool) → (b ≡ true → P) → (b ≡ false → P) → P
by_case true f g = f refl
by_case false f g = g refl

negated : (c : Bool) → not c ≡ true → c ≡ false
negated true n = absurd cc
negated false n = refl

pub split_and : (a b : Bool) → (a && b) ≡ true → (a ≡ true) × (b ≡ true)
split_and true true h = (refl, refl)
split_and true false h = absurd cc
split_and false b h = absurd cc

pub split_or : (a b : Bool) → (a || b) ≡ false → (a ≡ false) × (b ≡ false)
split_or false false h = (refl, refl)
split_or false true h = absurd cc
split_or true b h = absurd cc

same_code : (x k : ℕ) → (x == k) ≡ true → x ≡ k
same_code x k h = grind arith

pub apart_has : (xs ys : Kinds) (k : ℕ) → apart xs ys ≡ true → has xs k ≡ true → has ys k ≡ false
apart_has [] ys k h e = absurd cc
apart_has (x ∷ xs) ys k h e =
    let parts = split_and (not (has ys (code x))) (apart xs ys) h in
    by_case (code x == k)
    (λ is. negated (has ys k) (ap (λ z. not (has ys z)) (sym (same_code (code x) k is)) ∙ parts.0))
    (λ is. apart_has xs ys k parts.1 (ap (λ b. b || has xs k) (sym is) ∙ e))

pub within_has : (xs ys : Kinds) (k : ℕ) → within xs ys ≡ true → has ys k ≡ false → has xs k ≡ false
within_has [] ys k h e = refl
within_has (x ∷ xs) ys k h e =
    let parts = split_and (has ys (code x)) (within xs ys) h in
    by_case (code x == k)
    (λ is. let u : has ys k ≡ true = ap (has ys) (sym (same_code (code x) k is)) ∙ parts.0 in absurd cc)
    (λ is. ap (λ b. b || has xs k) is ∙ within_has xs ys k parts.1 e)

pub within_holds : (xs ys : Kinds) (k : ℕ) → within xs ys ≡ true → has xs k ≡ true → has ys k ≡ true
within_holds xs ys k h e = by_case (has ys k) (λ is. is) (λ is. let f : has xs k ≡ false = within_has xs ys k h is in absurd cc)

pub has_append : (xs ys : Kinds) (k : ℕ) → has (xs ++ ys) k ≡ (has xs k || has ys k)
has_append [] ys k = refl
has_append (x ∷ xs) ys k = ap (λ b. (code x == k) || b) (has_append xs ys k) ∙ regroup (code x == k) (has xs k) (has ys k) where
  regroup : (a b c : Bool) → (a || (b || c)) ≡ ((a || b) || c)
  regroup true b c = refl
  regroup false b c = refl

pub ends_first : (xs ys : Kinds) (ts : Tokens) → Ends (xs ++ ys) ts → Ends xs ts
ends_first xs ys ts h = (split_or (has xs (next ts)) (has ys (next ts)) (sym (has_append xs ys (next ts)) ∙ h)).0

pub ends_second : (xs ys : Kinds) (ts : Tokens) → Ends (xs ++ ys) ts → Ends ys ts
ends_second xs ys ts h = (split_or (has xs (next ts)) (has ys (next ts)) (sym (has_append xs ys (next ts)) ∙ h)).1

pub in_first : (xs ys : Kinds) (k : ℕ) → has xs k ≡ true → has (xs ++ ys) k ≡ true
in_first xs ys k h = has_append xs ys k ∙ ap (λ b. b || has ys k) h

pub in_second : (xs ys : Kinds) (k : ℕ) → has ys k ≡ true → has (xs ++ ys) k ≡ true
in_second xs ys k h = has_append xs ys k ∙ ap (λ b. has xs k || b) h ∙ always (has xs k) where
  always : (b : Bool) → (b || true) ≡ true
  always true = refl
  always false = refl

pub not_both : (xs ys : Kinds) (k : ℕ) → has xs k ≡ false → has ys k ≡ false → has (xs ++ ys) k ≡ false
not_both xs ys k f g = has_append xs ys k ∙ ap (λ b. b || has ys k) f ∙ g
