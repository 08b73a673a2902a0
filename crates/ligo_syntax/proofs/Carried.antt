-- What is read by one rule is read by another with more depth than there are tokens: sign by sign of a grammar.
use Rattle.std.proofs.Common.{◌≡◌, ℕ, suc, ◌<◌, ◌≤◌, true, List, [], ◌∷◌, length, Option, Some, None, refl, sym, ap, subst, arith, inl, inr, fold}
use Rattle.ligo_tokens.specs.declared.token.Token.{Token}
use Rattle.ligo_tokens.specs.declared.token.Kind.{Kind}
use Rattle.ligo_tokens.specs.declared.token.Kind.TheVariants as kind
use Rattle.ligo_syntax.specs.Kinds.{Tokens, Kinds, sort, next, Ends}
use Rattle.ligo_syntax.specs.Rules.{Rule, OneOf, Both, Made, Either, Repeated, Key, From, Closed, Optional, Chain, Parted, Listed}
use Rattle.ligo_syntax.proofs.Sets.{apart, within, apart_has, within_has}

-- what a rule may go on with, if it must take as much as it can
abbrev pub closers : Kinds
closers = kind.Comma ∷ kind.Bar ∷ kind.Else ∷ kind.Dot ∷ []

-- something is read
pub record Carry {A : Type 0} (G : Rule A) (before after : Tokens) : Type 0 where
  pub tree : A
  pub reads : G before tree after
  pub shrinks : length after ≤ length before

-- what is so by the one, before what begins with none of X, is so by the other
pub record Carried {A : Type 0} (m : ℕ) (X : Kinds) (P G : Rule A) : Type 0 where
  pub carries : (before : Tokens) (a : A) (after : Tokens) → length before < m → P before a after → Ends X after → Carry G before after

-- it begins with nothing that a rule before it may go on with
pub record Opens {A : Type 0} (P : Rule A) : Type 0 where
  pub opens : (before : Tokens) (a : A) (after : Tokens) → P before a after → Ends closers before

-- before what begins with none of X, it begins with none of Y
pub record Before {A : Type 0} (X Y : Kinds) (P : Rule A) : Type 0 where
  pub ends : (before : Tokens) (a : A) (after : Tokens) → P before a after → Ends X after → Ends Y before

-- ---- what begins how

pub token_opens : (K : Kinds) → apart K closers ≡ true → Opens (OneOf K)
token_opens K h = record { opens = λ before t after r. subst (λ ts. Ends closers ts) (sym (r.0)) (apart_has K closers (sort t) h (r.1)) }

pub both_opens : {A B : Type 0} {P : Rule A} (Q : Rule B) → Opens P → Opens (Both P Q)
both_opens Q p = record { opens = λ before t after r. p.opens before t.0 r.0 (r.1) }

pub made_opens : {A B : Type 0} {P : Rule A} (f : A → B) → Opens P → Opens (Made f P)
made_opens f p = record { opens = λ before t after r. p.opens before r.0 after (r.1) }

pub either_opens : {A : Type 0} {P Q : Rule A} → Opens P → Opens Q → Opens (Either P Q)
either_opens {A} {P} {Q} p q = record { opens = by_side } where
  by_side : (before : Tokens) (a : A) (after : Tokens) → Either P Q before a after → Ends closers before
  by_side before a after (inl r) = p.opens before a after r
  by_side before a after (inr r) = q.opens before a after r

pub key_opens : {A : Type 0} (k : Kind) (P : Rule A) → apart (k ∷ []) closers ≡ true → Opens (Key k P)
key_opens k P h = record { opens = λ before t after r. (token_opens (k ∷ []) h).opens before (r.0).0 (r.1).0 ((r.1).1) }

pub from_opens : {A : Type 0} (k : Kind) (P : Rule A) → apart (k ∷ []) closers ≡ true → Opens (From k P)
from_opens k P h = record { opens = λ before t after r. (token_opens (k ∷ []) h).opens before (r.0).0 (r.1).0 ((r.1).1) }

pub chain_opens : {A B : Type 0} (f : B → A → B) {P : Rule B} (Link : Rule A) → Opens P → Opens (Chain f P Link)
chain_opens f Link p = record { opens = λ before t after r. p.opens before (r.0).0 (r.1).0 ((r.1).1) }

pub never_before : {A : Type 0} {X : Kinds} (P : Rule A) → Before X [] P
never_before P = record { ends = λ before a after r e. refl }

pub opens_before : {A : Type 0} {X Y : Kinds} {P : Rule A} → Opens P → within Y closers ≡ true → Before X Y P
opens_before {Y = Y} p h = record { ends = λ before a after r e. within_has Y closers (next before) h (p.opens before a after r) }

pub optional_before : {A : Type 0} {X : Kinds} {P : Rule A} → Opens P → within X closers ≡ true → Before X X (Optional P)
optional_before {A} {X} {P} p h = record { ends = by_side } where
  by_side : (before : Tokens) (a : Option A) (after : Tokens) → Optional P before a after → Ends X after → Ends X before
  by_side before a after (inl r) e = within_has X closers (next before) h (p.opens before r.0 after (r.1))
  by_side before a after (inr r) e = subst (λ ts. Ends X ts) (sym (r.0)) e

pub repeated_before : {A : Type 0} {X : Kinds} {P : Rule A} → Opens P → within X closers ≡ true → Before X X (Repeated P)
repeated_before {A} {X} {P} p h = record { ends = by_length } where
  by_length : (before : Tokens) (all : List A) (after : Tokens) → Repeated P before all after → Ends X after → Ends X before
  by_length before [] after r e = subst (λ ts. Ends X ts) (sym r) e
  by_length before (a ∷ more) after r e = within_has X closers (next before) h (p.opens before a r.0 (r.1))

pub both_before : {A B : Type 0} {X Y Z : Kinds} {P : Rule A} {Q : Rule B} → Before Y Z P → Before X Y Q → Before X Z (Both P Q)
both_before p q = record { ends = λ before t after r e. p.ends before t.0 r.0 (r.1) (q.ends r.0 t.1 after (r.2) e) }

-- ---- the signs

pub deeper_carried : {A : Type 0} {m : ℕ} {X : Kinds} {P G : Rule A} → Carried (suc m) X P G → Carried m X P G
deeper_carried p = record { carries = λ before a after lt r e. p.carries before a after (omega (arith, lt)) r e }

pub anywhere : {A : Type 0} {m : ℕ} {X : Kinds} {P G : Rule A} → Carried m [] P G → Carried m X P G
anywhere p = record { carries = λ before a after lt r e. p.carries before a after lt r refl }

pub token_carried : {m : ℕ} {X : Kinds} (K : Kinds) → Carried m X (OneOf K) (OneOf K)
token_carried K = record { carries = λ before t after lt r e. record { tree = t; reads = r; shrinks = let l = ap length (r.0) in omega (arith, l) } }

pub made_carried : {A B : Type 0} {m : ℕ} {X : Kinds} {P G : Rule A} (f : A → B) → Carried m X P G → Carried m X (Made f P) (Made f G)
made_carried f p = record { carries = λ before b after lt r e. let c = p.carries before r.0 after lt (r.1) e in record { tree = f c.tree; reads = (c.tree, c.reads, refl); shrinks = c.shrinks } }

pub both_carried : {A B : Type 0} {m : ℕ} {X Y : Kinds} {P G : Rule A} {Q H : Rule B} → Carried m Y P G → Carried m X Q H → Before X Y Q → Carried m X (Both P Q) (Both G H)
both_carried p q b = record {
  carries = λ before t after lt r e.
      let c = p.carries before t.0 r.0 lt (r.1) (b.ends r.0 t.1 after (r.2) e) in
      let le = c.shrinks in
      let d = q.carries r.0 t.1 after (omega (arith, lt, le)) (r.2) e in
      let le' = d.shrinks in
      record { tree = (c.tree, d.tree); reads = (r.0, c.reads, d.reads); shrinks = omega (arith, le, le') };
}

pub either_carried : {A : Type 0} {m : ℕ} {X : Kinds} {P G Q H : Rule A} → Carried m X P G → Carried m X Q H → Carried m X (Either P Q) (Either G H)
either_carried {A} {m} {X} {P} {G} {Q} {H} p q = record { carries = by_side } where
  by_side : (before : Tokens) (a : A) (after : Tokens) → length before < m → Either P Q before a after → Ends X after → Carry (Either G H) before after
  by_side before a after lt (inl r) e = let c = p.carries before a after lt r e in record { tree = c.tree; reads = inl c.reads; shrinks = c.shrinks }
  by_side before a after lt (inr r) e = let c = q.carries before a after lt r e in record { tree = c.tree; reads = inr c.reads; shrinks = c.shrinks }

pub optional_carried : {A : Type 0} {m : ℕ} {X : Kinds} {P G : Rule A} → Carried m X P G → Carried m X (Optional P) (Optional G)
optional_carried {A} {m} {X} {P} {G} p = record { carries = by_side } where
  by_side : (before : Tokens) (a : Option A) (after : Tokens) → length before < m → Optional P before a after → Ends X after → Carry (Optional G) before after
  by_side before a after lt (inl r) e = let c = p.carries before r.0 after lt (r.1) e in record { tree = Some c.tree; reads = inl (c.tree, c.reads, refl); shrinks = c.shrinks }
  by_side before a after lt (inr r) e = record { tree = None; reads = inr (r.0, refl); shrinks = let l = ap length (r.0) in omega (arith, l) }

pub repeated_carried : {A : Type 0} {m : ℕ} {X : Kinds} {P G : Rule A} → Carried m X P G → Before X X (Repeated P) → Carried m X (Repeated P) (Repeated G)
repeated_carried {A} {m} {X} {P} {G} p b = record { carries = by_length } where
  by_length : (before : Tokens) (all : List A) (after : Tokens) → length before < m → Repeated P before all after → Ends X after → Carry (Repeated G) before after
  by_length before [] after lt r e = record { tree = []; reads = r; shrinks = let l = ap length r in omega (arith, l) }
  by_length before (a ∷ more) after lt r e =
      let c = p.carries before a r.0 lt (r.1) (b.ends r.0 more after (r.2) e) in
      let le = c.shrinks in
      let d = by_length r.0 more after (omega (arith, lt, le)) (r.2) e in
      let le' = d.shrinks in
      record { tree = c.tree ∷ d.tree; reads = (r.0, c.reads, d.reads); shrinks = omega (arith, le, le') }

-- ---- what is made of these

-- a word takes a token away
pub key_within : {A : Type 0} {m : ℕ} {X : Kinds} {P G : Rule A} (k : Kind) → Carried m X P G → Carried (suc m) X (Key k P) (Key k G)
key_within k p = record {
  carries = λ before a after lt r e.
      let b = r.1 in
      let l = ap length ((b.1).0) in
      let c = p.carries b.0 (r.0).1 after (omega (arith, lt, l)) (b.2) e in
      let le = c.shrinks in
      record { tree = c.tree; reads = (((r.0).0, c.tree), (b.0, b.1, c.reads), refl); shrinks = omega (arith, l, le) };
}

pub from_carried : {A : Type 0} {m : ℕ} {X : Kinds} {P G : Rule A} (k : Kind) → Carried m X P G → Carried (suc m) X (From k P) (From k G)
from_carried k p = record {
  carries = λ before a after lt r e.
      let b = r.1 in
      let l = ap length ((b.1).0) in
      let c = p.carries b.0 (r.0).1 after (omega (arith, lt, l)) (b.2) e in
      let le = c.shrinks in
      record { tree = ((r.0).0.at, c.tree); reads = (((r.0).0, c.tree), (b.0, b.1, c.reads), refl); shrinks = omega (arith, l, le) };
}

pub key_carried : {A : Type 0} {m : ℕ} {X : Kinds} {P G : Rule A} (k : Kind) → Carried m X P G → Carried m X (Key k P) (Key k G)
key_carried k p = deeper_carried (key_within k p)

pub closed_carried : {A : Type 0} {m : ℕ} {X Y : Kinds} {P G : Rule A} (k : Kind) → Carried m Y P G → apart (k ∷ []) Y ≡ true → Carried m X (Closed P k) (Closed G k)
closed_carried {Y = Y} k p h = record {
  carries = λ before a after lt r e.
      let b = r.1 in
      let l = ap length ((b.2).0) in
      let c = p.carries before (r.0).0 b.0 lt (b.1) (subst (λ ts. Ends Y ts) (sym ((b.2).0)) (apart_has (k ∷ []) Y (sort (r.0).1) h ((b.2).1))) in
      let le = c.shrinks in
      record { tree = c.tree; reads = ((c.tree, (r.0).1), (b.0, c.reads, b.2), refl); shrinks = omega (arith, l, le) };
}

pub parted_carried : {A : Type 0} {m : ℕ} {X : Kinds} {P G : Rule A} (k : Kind) → Carried m X P G → Before X X (Repeated (Key k P)) → Carried m X (Parted k P) (Parted k G)
parted_carried k p b = both_carried p (repeated_carried (key_carried k p) b) b

pub chain_carried : {A B : Type 0} {m : ℕ} {X : Kinds} {P G : Rule B} {L M : Rule A} (f : B → A → B) → Carried m X P G → Carried m X L M → Before X X (Repeated L) → Carried m X (Chain f P L) (Chain f G M)
chain_carried {A} {B} f p l b = made_carried (λ (x : B × List A). fold f x.0 x.1) (both_carried p (repeated_carried l b) b)

pub listed_carried : {A : Type 0} {m : ℕ} {P G : Rule A} → Carried m closers P G → Carried m closers (Listed P) (Listed G)
listed_carried {A} {P = P} p =
    let first = repeated_before (key_opens kind.Semicolon P refl) refl in
    let last = optional_before (token_opens (kind.Semicolon ∷ []) refl) refl in
    made_carried (λ (x : A × (List A × Option Token)). x.0 ∷ x.1.0)
    (both_carried p (both_carried (repeated_carried (key_carried kind.Semicolon p) first) (optional_carried (token_carried (kind.Semicolon ∷ []))) last) (both_before first last))
