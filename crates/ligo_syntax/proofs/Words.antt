-- The laws of what is made of the signs: words, options.
use Rattle.std.proofs.Common.{◌≡◌, ℕ, ◌==◌, Bool, true, false, ◌&&◌, ◌||◌, [], ◌∷◌, ◌++◌, refl, ap, arith, Option, Some, None}
use Rattle.ligo_tokens.specs.declared.token.Token.{Token}
use Rattle.ligo_tokens.specs.declared.token.Kind.{Kind}
use Rattle.ligo_tokens.specs.declared.token.Kind.TheVariants as kind
use Rattle.ligo_syntax.specs.declared.fault.Expected.TheVariants as expected
use Rattle.ligo_syntax.specs.Kinds.{Tokens, Kinds, code, has}
use Rattle.ligo_syntax.specs.Depth.{if_there}
use Rattle.ligo_syntax.specs.Rules.{OneOf, Key, From, Closed, Optional, IfItCan}
use Rattle.ligo_syntax.specs.Readers.{Reader, one_of, made}
use Rattle.ligo_syntax.specs.Phrases.{key, from, closed, optional}
use Rattle.ligo_syntax.proofs.Sets.{apart, when}
use Rattle.ligo_syntax.proofs.RuleLaws.{Standing, Rules, Pair, Law, Least, flat, steady, token_law, token_least, nothing_law, nothing_least, made_law, made_least}
use Rattle.ligo_syntax.proofs.Sequences.{both_law, both_least}
use Rattle.ligo_syntax.proofs.Choices.{either_law, rather_law, either_least}

apart_nothing : (xs : Kinds) → apart xs [] ≡ true
apart_nothing [] = refl
apart_nothing (x ∷ xs) = apart_nothing xs

pub apart_either : (b : Bool) (xs : Kinds) → (b || apart xs []) ≡ true
apart_either true xs = refl
apart_either false xs = apart_nothing xs

-- the end is of no kind
not_end : (k : Kind) → has (k ∷ []) 0 ≡ false
not_end kind.Name = refl
not_end kind.List = refl
not_end kind.Option = refl
not_end kind.Contract = refl
not_end kind.Map = refl
not_end kind.BigMap = refl
not_end kind.Upper = refl
not_end kind.Int = refl
not_end kind.Nat = refl
not_end kind.Tez = refl
not_end kind.Bytes = refl
not_end kind.Text = refl
not_end kind.Type = refl
not_end kind.Let = refl
not_end kind.Rec = refl
not_end kind.In = refl
not_end kind.Match = refl
not_end kind.With = refl
not_end kind.If = refl
not_end kind.Then = refl
not_end kind.Else = refl
not_end kind.Of = refl
not_end kind.Mod = refl
not_end kind.Underscore = refl
not_end kind.Entry = refl
not_end kind.Inline = refl
not_end kind.OpenParen = refl
not_end kind.CloseParen = refl
not_end kind.OpenSquare = refl
not_end kind.CloseSquare = refl
not_end kind.OpenBrace = refl
not_end kind.CloseBrace = refl
not_end kind.Colon = refl
not_end kind.Semicolon = refl
not_end kind.Comma = refl
not_end kind.Dot = refl
not_end kind.Bar = refl
not_end kind.Arrow = refl
not_end kind.Or = refl
not_end kind.And = refl
not_end kind.Equals = refl
not_end kind.Differs = refl
not_end kind.Less = refl
not_end kind.Greater = refl
not_end kind.AtMost = refl
not_end kind.AtLeast = refl
not_end kind.Caret = refl
not_end kind.Cons = refl
not_end kind.Plus = refl
not_end kind.Minus = refl
not_end kind.Star = refl
not_end kind.Slash = refl
not_end kind.Faulty = refl

itself : (n : ℕ) → (n == n) ≡ true
itself n = grind arith

-- a token of a kind
abbrev pub of_kind : Kind → Token
of_kind k = record { at = 0; kind = k; says = None }

pub has_itself : (k : Kind) → has (k ∷ []) (code k) ≡ true
has_itself k = ap (λ b. b || false) (itself (code k))

abbrev pub key_pair : {A : Type 0} → Kind → Pair A → Pair A
key_pair k w i = key k (w i)

abbrev pub from_pair : {A : Type 0} → Kind → Pair A → Pair (ℕ × A)
from_pair k w i = from k (w i)

abbrev pub closed_pair : {A : Type 0} → Pair A → Kind → Pair A
closed_pair w k i = closed (w i) k

abbrev pub optional_pair : {A : Type 0} → Kinds → Pair A → Pair (Option A)
optional_pair F w i = optional F (w i)

module _ (S : Standing) (any : (t : Token) (r : Tokens) → S expected.Token (t ∷ r)) (d : ℕ) where
  pub word_law : (k : Kind) → Law S (λ n. OneOf (k ∷ [])) flat d (steady (one_of expected.Token (k ∷ []))) (k ∷ []) false [] []
  word_law k = token_law S d expected.Token (k ∷ []) (of_kind k) (has_itself k) (not_end k) (any (of_kind k))

  pub key_law : {A : Type 0} {R : Rules A} {depth : A → ℕ} {w : Pair A} {F : Kinds} {N : Bool} {X Y : Kinds} (k : Kind) →
      Law S R depth d w F N X Y → Least (w true) F N Y → Law S (λ n. Key k (R n)) depth d (key_pair k w) (k ∷ []) false (X ++ when N []) (Y ++ when N [])
  key_law {depth = depth} {F = F} {N = N} k l least = made_law (λ (p : Token × _). p.1) depth d (omega arith) (λ p le. omega (arith, le)) (λ p le. omega (arith, le))
      (both_law (word_law k) l least (apart_nothing F) (apart_either N F))

  -- with the offset of the word
  pub from_law : {A : Type 0} {R : Rules A} {depth : A → ℕ} {w : Pair A} {F : Kinds} {N : Bool} {X Y : Kinds} (k : Kind) →
      Law S R depth d w F N X Y → Least (w true) F N Y → Law S (λ n. From k (R n)) (λ (p : ℕ × A). depth p.1) d (from_pair k w) (k ∷ []) false (X ++ when N []) (Y ++ when N [])
  from_law {A} {depth = depth} {F = F} {N = N} k l least = made_law (λ (p : Token × A). (p.0.at, p.1)) (λ (p : ℕ × A). depth p.1) d (omega arith) (λ p le. omega (arith, le)) (λ p le. omega (arith, le))
      (both_law (word_law k) l least (apart_nothing F) (apart_either N F))

  pub closed_law : {A : Type 0} {R : Rules A} {depth : A → ℕ} {w : Pair A} {F : Kinds} {N : Bool} {X Y : Kinds} (k : Kind) →
      Law S R depth d w F N X Y → apart (k ∷ []) X ≡ true → apart (k ∷ []) Y ≡ true → Law S (λ n. Closed (R n) k) depth d (closed_pair w k) (F ++ when N (k ∷ [])) (N && false) [] []
  closed_law {depth = depth} k l c c' = made_law (λ (p : _ × Token). p.0) depth d (omega arith) (λ p le. omega (arith, le)) (λ p le. omega (arith, le))
      (both_law l (word_law k) (token_least expected.Token (k ∷ []) (of_kind k) (has_itself k)) c c')

abbrev pub key_least : {A : Type 0} {q : Reader A} {F : Kinds} {N : Bool} {Y : Kinds} (k : Kind) → Least q F N Y → Least (key k q) (k ∷ []) false (Y ++ when N [])
key_least {F = F} {N = N} k l = made_least (λ (p : Token × _). p.1) (both_least (token_least expected.Token (k ∷ []) (of_kind k) (has_itself k)) l (apart_either N F))

abbrev pub closed_least : {A : Type 0} {q : Reader A} {F : Kinds} {N : Bool} {Y : Kinds} (k : Kind) → Least q F N Y → apart (k ∷ []) Y ≡ true → Least (closed q k) (F ++ when N (k ∷ [])) (N && false) []
closed_least k l c = made_least (λ (p : _ × Token). p.0) (both_least l (token_least expected.Token (k ∷ []) (of_kind k) (has_itself k)) c)

pub optional_law : {A : Type 0} {S : Standing} {R : Rules A} {depth : A → ℕ} {d : ℕ} {w : Pair A} {F : Kinds} {X Y : Kinds} → Law S R depth d w F false X Y → apart F [] ≡ true →
    Law S (λ n. Optional (R n)) (if_there depth) d (optional_pair F w) (F ++ []) true (X ++ ([] ++ when true F)) (Y ++ ([] ++ when true F))
optional_law {S = S} {depth = depth} {d = d} l c = either_law (made_law Some (if_there depth) d (omega arith) (λ a le. le) (λ a le. le) l) (nothing_law S d (if_there depth) None (omega arith)) c

pub if_it_can_law : {A : Type 0} {S : Standing} {R : Rules A} {depth : A → ℕ} {d : ℕ} {w : Pair A} {F : Kinds} {X Y : Kinds} → Law S R depth d w F false X Y → apart F [] ≡ true →
    Law S (λ n. IfItCan F (R n)) (if_there depth) d (optional_pair F w) (F ++ []) true (X ++ []) (Y ++ ([] ++ when true F))
if_it_can_law {S = S} {depth = depth} {d = d} l c = rather_law (made_law Some (if_there depth) d (omega arith) (λ a le. le) (λ a le. le) l) (nothing_law S d (if_there depth) None (omega arith)) c

abbrev pub optional_least : {A : Type 0} (q : Reader A) (F : Kinds) (Y : Kinds) → apart F [] ≡ true → Least (optional F q) (F ++ []) true (Y ++ ([] ++ when true F))
optional_least q F Y c = either_least (made Some q) F Y (nothing_least None) c
