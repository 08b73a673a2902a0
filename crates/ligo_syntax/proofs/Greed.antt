-- What is read without greed is read with it: what an outer rule would take is taken by the innermost that can.
use Rattle.std.proofs.Common.{ℕ, zero, suc, ◌<◌, List, [], ◌∷◌, length, Option, Some, None, refl, sym, ap, subst, arith, inl, inr}
use Rattle.ligo_tokens.specs.declared.token.Token.{Token}
use Rattle.ligo_tokens.specs.declared.token.Kind.{Kind}
use Rattle.ligo_tokens.specs.declared.token.Kind.TheVariants as kind
use Rattle.ligo_syntax.specs.Kinds.{Tokens, Kinds, Ends}
use Rattle.ligo_syntax.specs.Rules.{Rule, OneOf, Both, Made, Either, Repeated, AsMany, Key, From, IfItCan, free}
use Rattle.ligo_syntax.proofs.Moves.{under}
use Rattle.ligo_syntax.proofs.Carried.{closers, Carried, Before}
use Rattle.ligo_syntax.proofs.Continued.{Reads, Reading, Parts, Slot, Branch, Rest, Follows, rest_shrinks, one_more, no_dot}

-- something is read, and the rest is what may follow
pub record Grown {A : Type 0} (R : ℕ → Rule A) (slots : List Slot) (before end : Tokens) : Type 0 where
  pub mid : Tokens
  pub reads : Reads R before mid
  pub follows : Follows slots mid end

-- what is so by the one is so by the other, which may take more of what follows
pub record Grows {A : Type 0} (P : Rule A) (R : ℕ → Rule A) : Type 0 where
  pub grows : (before : Tokens) (a : A) (after : Tokens) → P before a after → (slots : List Slot) (end : Tokens) → Follows slots after end → Ends closers end → Grown R slots before end

-- ---- one in terms of the other

pub carried_grows : {A : Type 0} {P : Rule A} {R : ℕ → Rule A} → ((m : ℕ) → Carried m (kind.Dot ∷ []) P (R m)) → Grows P R
carried_grows c = record {
  grows = λ before a after r slots end f e.
      let d = no_dot slots after end f e in
      record {
        mid = after;
        reads = record {
          shrinks = ((c (suc (length before))).carries before a after (omega arith) r d).shrinks;
          at = λ m lt. let x = (c m).carries before a after lt r d in (x.tree, x.reads);
        };
        follows = f;
      };
}

pub grows_carried : {A : Type 0} {P : Rule A} {R : ℕ → Rule A} → Grows P R → (m : ℕ) → Carried m closers P (R m)
grows_carried {R = R} g m = record {
  carries = λ before a after lt r e.
      let x = g.grows before a after r [] after refl e in
      let y = x.reads.at m lt in
      let i = x.reads.shrinks in
      let l = ap length x.follows in
      record { tree = y.0; reads = subst (λ ts. R m before y.0 ts) x.follows (y.1); shrinks = omega (arith, i, l) };
}

-- the other only where some depth is left
pub resized : {A : Type 0} {P : Rule A} {R R' : ℕ → Rule A} → ((m : ℕ) (before : Tokens) (a : A) (after : Tokens) → R (suc m) before a after → R' (suc m) before a after) → Grows P R → Grows P R'
resized {A} {P} {R} {R'} to g = record {
  grows = λ before a after r slots end f e.
      let x = g.grows before a after r slots end f e in
      record { mid = x.mid; reads = record { shrinks = x.reads.shrinks; at = by_depth before x.mid (x.reads.at) }; follows = x.follows };
} where
  by_depth : (before mid : Tokens) → ((m : ℕ) → length before < m → (a : A) × R m before a mid) → (m : ℕ) → length before < m → (a : A) × R' m before a mid
  by_depth before mid at zero lt = absurd (omega (arith, lt))
  by_depth before mid at (suc m) lt = let y = at (suc m) lt in (y.0, to m before y.0 mid (y.1))

-- ---- the signs

pub made_grows : {A B : Type 0} {P : Rule A} {R : ℕ → Rule A} (f : A → B) → Grows P R → Grows (Made f P) (λ m. Made f (R m))
made_grows f g = record {
  grows = λ before b after r slots end h e.
      let x = g.grows before r.0 after (r.1) slots end h e in
      record { mid = x.mid; reads = record { shrinks = x.reads.shrinks; at = λ m lt. let y = x.reads.at m lt in (f y.0, (y.0, y.1, refl)) }; follows = x.follows };
}

pub either_grows : {A : Type 0} {P Q : Rule A} {R S : ℕ → Rule A} → Grows P R → Grows Q S → Grows (Either P Q) (λ m. Either (R m) (S m))
either_grows {A} {P} {Q} {R} {S} p q = record { grows = by_side } where
  by_side : (before : Tokens) (a : A) (after : Tokens) → Either P Q before a after → (slots : List Slot) (end : Tokens) → Follows slots after end → Ends closers end → Grown (λ m. Either (R m) (S m)) slots before end
  by_side before a after (inl r) slots end f e =
      let x = p.grows before a after r slots end f e in
      record { mid = x.mid; reads = record { shrinks = x.reads.shrinks; at = λ m lt. let y = x.reads.at m lt in (y.0, inl (y.1)) }; follows = x.follows }
  by_side before a after (inr r) slots end f e =
      let x = q.grows before a after r slots end f e in
      record { mid = x.mid; reads = record { shrinks = x.reads.shrinks; at = λ m lt. let y = x.reads.at m lt in (y.0, inr (y.1)) }; follows = x.follows }

pub both_grows : {A B : Type 0} {Y : Kinds} {P : Rule A} {Q : Rule B} {R : ℕ → Rule A} {S : ℕ → Rule B} → ((m : ℕ) → Carried m Y P (R m)) → Before [] Y Q → Grows Q S → Grows (Both P Q) (λ m. Both (R m) (S m))
both_grows c b g = record {
  grows = λ before t after r slots end f e.
      let d = b.ends r.0 t.1 after (r.2) refl in
      let i = ((c (suc (length before))).carries before t.0 r.0 (omega arith) (r.1) d).shrinks in
      let x = g.grows r.0 t.1 after (r.2) slots end f e in
      let j = x.reads.shrinks in
      record {
        mid = x.mid;
        reads = record {
          shrinks = omega (arith, i, j);
          at = λ m lt. let y = (c m).carries before t.0 r.0 lt (r.1) d in let z = x.reads.at m (omega (arith, i, lt)) in ((y.tree, z.0), (r.0, y.reads, z.1));
        };
        follows = x.follows;
      };
}

pub key_grows : {A : Type 0} {P : Rule A} {R : ℕ → Rule A} (k : Kind) → Grows P R → Grows (Key k P) (λ m. Key k (R m))
key_grows k g = record {
  grows = λ before a after r slots end f e.
      let b = r.1 in
      let l = ap length ((b.1).0) in
      let x = g.grows b.0 (r.0).1 after (b.2) slots end f e in
      let j = x.reads.shrinks in
      record {
        mid = x.mid;
        reads = record {
          shrinks = omega (arith, l, j);
          at = λ m lt. let y = x.reads.at m (omega (arith, l, lt)) in (y.0, (((r.0).0, y.0), (b.0, b.1, y.1), refl));
        };
        follows = x.follows;
      };
}

pub from_grows : {A : Type 0} {P : Rule A} {R : ℕ → Rule A} (k : Kind) → Grows P R → Grows (From k P) (under (λ m. From k (R m)))
from_grows {A} {P} {R} k g = record {
  grows = λ before a after r slots end f e.
      let b = r.1 in
      let l = ap length ((b.1).0) in
      let x = g.grows b.0 (r.0).1 after (b.2) slots end f e in
      let j = x.reads.shrinks in
      record { mid = x.mid; reads = record { shrinks = omega (arith, l, j); at = by_depth before b.0 x.mid (r.0).0 (b.1) (x.reads.at) }; follows = x.follows };
} where
  by_depth : (before between mid : Tokens) (t : Token) → OneOf (k ∷ []) before t between → ((m : ℕ) → length between < m → (a : A) × R m between a mid) →
      (m : ℕ) → length before < m → (a : ℕ × A) × under (λ m. From k (R m)) m before a mid
  by_depth before between mid t one at zero lt = absurd (omega (arith, lt))
  by_depth before between mid t one at (suc m) lt =
      let l = ap length (one.0) in
      let y = at m (omega (arith, l, lt)) in
      ((t.at, y.0), ((t, y.0), (between, one, y.1), refl))

-- ---- as many as it can

-- what one slot takes, as some rule has it
module _ {A : Type 0} (s : Slot) (k : Kind) (C : ℕ → Rule A)
    (rest_of : (before : Tokens) (all : List (Unit {0})) (after : Tokens) → AsMany (k ∷ []) (Key k (Reading C)) before all after → Rest s before after)
    (many_of : (before after : Tokens) → Rest s before after → (all : List (Unit {0})) × AsMany (k ∷ []) (Key k (Reading C)) before all after) where
  more : {P : Rule A} → Grows P C → (before : Tokens) (all : List A) (after : Tokens) → Repeated (Key k P) before all after →
      (slots : List Slot) (end : Tokens) → Follows slots after end → Ends closers end → Follows (s ∷ slots) before end
  more g before [] after r slots end f e = subst (λ ts. Follows (s ∷ slots) ts end) (sym r) (one_more s slots after end f e)
  more g before (a ∷ all) after r slots end f e =
      let b = (r.1).1 in
      let x = g.grows b.0 ((r.1).0).1 r.0 (b.2) (s ∷ slots) end (more g r.0 all after (r.2) slots end f e) e in
      let y = x.follows in
      let z = many_of x.mid (y.0) (y.1) in
      (y.0, rest_of before (tt ∷ z.0) (y.0) ((x.mid, ((((r.1).0).0, tt), (b.0, b.1, x.reads), refl), (z.1).0), (z.1).1), y.2)

  many_at : (before : Tokens) (all : List (Unit {0})) (after : Tokens) → Repeated (Key k (Reading C)) before all after → (m : ℕ) → length before < m → (l : List A) × Repeated (Key k (C m)) before l after
  many_at before [] after r m lt = ([], r)
  many_at before (u ∷ all) after r m lt =
      let b = (r.1).1 in
      let l = ap length ((b.1).0) in
      let i = (b.2).shrinks in
      let y = (b.2).at m (omega (arith, l, lt)) in
      let z = many_at r.0 all after (r.2) m (omega (arith, l, i, lt)) in
      (y.0 ∷ z.0, (r.0, ((((r.1).0).0, y.0), (b.0, b.1, y.1), refl), z.1))

  pub many_grows : {P : Rule A} → Grows P C → Grows (Both P (AsMany (free (k ∷ [])) (Key k P))) (λ m. Both (C m) (AsMany (k ∷ []) (Key k (C m))))
  many_grows g = record {
    grows = λ before t after r slots end f e.
        let x = g.grows before t.0 r.0 (r.1) (s ∷ slots) end (more g r.0 t.1 after ((r.2).0) slots end f e) e in
        let i = x.reads.shrinks in
        let y = x.follows in
        let j = rest_shrinks s x.mid (y.0) (y.1) in
        let z = many_of x.mid (y.0) (y.1) in
        record {
          mid = y.0;
          reads = record {
            shrinks = omega (arith, i, j);
            at = λ m lt. let p = x.reads.at m lt in let q = many_at x.mid z.0 (y.0) ((z.1).0) m (omega (arith, i, lt)) in ((p.0, q.0), (x.mid, p.1, (q.1, (z.1).1)));
          };
          follows = y.2;
        };
  }

-- ---- `else`

-- whether it stands there or not, it may
branch : {P : Rule _} → Grows P Parts → (before : Tokens) (o : Option _) (after : Tokens) → IfItCan (free (kind.Else ∷ [])) (Key kind.Else P) before o after →
    (slots : List Slot) (end : Tokens) → Follows slots after end → Ends closers end → Follows (Branch ∷ slots) before end
branch g before o after (inl r) slots end f e =
    let k = r.1 in
    let b = k.1 in
    let x = g.grows b.0 (k.0).1 after (b.2) slots end f e in
    (x.mid, (Some tt, inl (tt, (((k.0).0, tt), (b.0, b.1, x.reads), refl), refl)), x.follows)
branch g before o after (inr r) slots end f e = subst (λ ts. Follows (Branch ∷ slots) ts end) (sym ((r.0).0)) (one_more Branch slots after end f e)

branch_at : (before : Tokens) (o : Option (Unit {0})) (after : Tokens) → IfItCan (kind.Else ∷ []) (Key kind.Else (Reading Parts)) before o after → (m : ℕ) → length before < m →
    (other : Option _) × IfItCan (kind.Else ∷ []) (Key kind.Else (Parts m)) before other after
branch_at before o after (inl r) m lt =
    let k = r.1 in
    let b = k.1 in
    let l = ap length ((b.1).0) in
    let y = (b.2).at m (omega (arith, l, lt)) in
    (Some y.0, inl (y.0, (((k.0).0, y.0), (b.0, b.1, y.1), refl), refl))
branch_at before o after (inr r) m lt = (None, inr (((r.0).0, refl), r.1))

pub branch_grows : {P : Rule _} → Grows P Parts → Grows (Both (Key kind.Then P) (IfItCan (free (kind.Else ∷ [])) (Key kind.Else P))) (λ m. Both (Key kind.Then (Parts m)) (IfItCan (kind.Else ∷ []) (Key kind.Else (Parts m))))
branch_grows {P} g = record {
  grows = λ before t after r slots end f e.
      let x = (key_grows kind.Then g).grows before t.0 r.0 (r.1) (Branch ∷ slots) end (branch g r.0 t.1 after (r.2) slots end f e) e in
      let i = x.reads.shrinks in
      let y = x.follows in
      let j = rest_shrinks Branch x.mid (y.0) (y.1) in
      record {
        mid = y.0;
        reads = record {
          shrinks = omega (arith, i, j);
          at = λ m lt. let p = x.reads.at m lt in let q = branch_at x.mid (y.1).0 (y.0) ((y.1).1) m (omega (arith, i, lt)) in ((p.0, q.0), (x.mid, p.1, q.1));
        };
        follows = y.2;
      };
}
