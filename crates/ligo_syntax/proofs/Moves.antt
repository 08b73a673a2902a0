-- The law of the same reader by another rule, or of readers that read the same.
use Rattle.std.proofs.Common.{◌≡◌, ℕ, zero, suc, ◌≤◌, Bool, false, sym, ap, subst, ◌∙◌, arith, Ok}
use Rattle.ligo_syntax.specs.Kinds.{Tokens, Kinds}
use Rattle.ligo_syntax.specs.Rules.{Never}
use Rattle.ligo_syntax.proofs.RuleLaws.{Standing, Rules, Pair, Goes, Law, made_pair, made_goes, made_is, then_inv, unwrap}
use Rattle.ligo_syntax.proofs.Loops.{goes_alike}

pub alike_law : {A : Type 0} {S : Standing} {R : Rules A} {depth : A → ℕ} {d : ℕ} {w : Pair A} {F : Kinds} {N : Bool} {X Y : Kinds} (w' : Pair A) →
    ((i : Bool) (ts : Tokens) → w i ts ≡ w' i ts) → Law S R depth d w F N X Y → Law S R depth d w' F N X Y
alike_law {S = S} {w = w} {F = F} {N = N} {Y = Y} w' h l = record {
  found = λ n ts a rest m e. l.found n ts a rest m (h false ts ∙ e);
  within = λ ts a rest e. l.within ts a rest (h false ts ∙ e);
  only = λ n ts a rest r deep m. sym (h false ts) ∙ l.only n ts a rest r deep m;
  starts = l.starts;
  goes = λ ts. subst (Goes S w' F N Y ts) (h false ts) (goes_alike S w w' F N Y ts (w false ts) h (l.goes ts));
}

-- what is read is so by another rule, and what is so by it is by the first
pub refit : {A : Type 0} {S : Standing} {R : Rules A} {depth : A → ℕ} {d : ℕ} {w : Pair A} {F : Kinds} {N : Bool} {X Y : Kinds} (R' : Rules A) (deep : A → ℕ) (e : ℕ) →
    ((n : ℕ) (ts : Tokens) (a : A) (rest : Tokens) → e ≤ n → w false ts ≡ Ok (a, rest) → R' n ts a rest) →
    ((ts : Tokens) (a : A) (rest : Tokens) → w false ts ≡ Ok (a, rest) → deep a ≤ e) →
    ((n : ℕ) (ts : Tokens) (a : A) (rest : Tokens) → R' n ts a rest → deep a ≤ e → (m : ℕ) × R m ts a rest × (depth a ≤ d)) →
    Law S R depth d w F N X Y → Law S R' deep e w F N X Y
refit R' deep e found within back l = record {
  found = found;
  within = within;
  only = λ n ts a rest r le m. let b = back n ts a rest r le in l.only b.0 ts a rest (b.1) (b.2) m;
  starts = λ n ts a rest r le. let b = back n ts a rest r le in l.starts b.0 ts a rest (b.1) (b.2);
  goes = l.goes;
}

-- the same, where a tree is made
pub refit_made : {A B : Type 0} {S : Standing} {R : Rules A} {depth : A → ℕ} {d : ℕ} {w : Pair A} {F : Kinds} {N : Bool} {X Y : Kinds} (g : A → B) (R' : Rules B) (deep : B → ℕ) (e : ℕ) →
    ((n : ℕ) (ts : Tokens) (a : A) (rest : Tokens) → e ≤ n → w false ts ≡ Ok (a, rest) → R' n ts (g a) rest) →
    ((ts : Tokens) (a : A) (rest : Tokens) → w false ts ≡ Ok (a, rest) → deep (g a) ≤ e) →
    ((n : ℕ) (ts : Tokens) (b : B) (rest : Tokens) → R' n ts b rest → deep b ≤ e → (m : ℕ) × (a : A) × R m ts a rest × (depth a ≤ d) × (b ≡ g a)) →
    Law S R depth d w F N X Y → Law S R' deep e (made_pair g w) F N X Y
refit_made {A} {B} {S} {R} {depth} {d} {w} {F} {N} {X} {Y} g R' deep e found within back l = record {
  found = λ n ts b rest m h.
      let i = then_inv (w false ts) (λ a rest. Ok (g a, rest)) (b, rest) h in
      let j : (g i.0.0, i.0.1) ≡ (b, rest) = unwrap (g i.0.0, i.0.1) (b, rest) (i.2) in
      subst (λ (p : B × Tokens). R' n ts p.0 p.1) j (found n ts i.0.0 i.0.1 m i.1);
  within = λ ts b rest h.
      let i = then_inv (w false ts) (λ a rest. Ok (g a, rest)) (b, rest) h in
      let j : (g i.0.0, i.0.1) ≡ (b, rest) = unwrap (g i.0.0, i.0.1) (b, rest) (i.2) in
      subst (λ (p : B × Tokens). deep p.0 ≤ e) j (within ts i.0.0 i.0.1 i.1);
  only = λ n ts b rest r le m.
      let k = back n ts b rest r le in
      made_is g (w false) ts (k.1) rest (l.only k.0 ts (k.1) rest (k.2) (k.3) m) ∙ ap (λ c. Ok (c, rest)) (sym (k.4));
  starts = λ n ts b rest r le. let k = back n ts b rest r le in l.starts k.0 ts (k.1) rest (k.2) (k.3);
  goes = λ ts. made_goes S g w F N Y ts (w false ts) (l.goes ts);
}

-- another measure of what is read, that keeps within the bound together with the first
pub measured : {A : Type 0} {S : Standing} {R : Rules A} {depth : A → ℕ} {d : ℕ} {w : Pair A} {F : Kinds} {N : Bool} {X Y : Kinds} (deep : A → ℕ) (e : ℕ) → d ≤ e →
    ((a : A) → depth a ≤ d → deep a ≤ e) → ((a : A) → deep a ≤ e → depth a ≤ d) → Law S R depth d w F N X Y → Law S R deep e w F N X Y
measured {R = R} deep e le fits back l = refit R deep e (λ n ts a rest m h. l.found n ts a rest (omega (arith, le, m)) h) (λ ts a rest h. fits a (l.within ts a rest h)) (λ n ts a rest r m. (n, r, back a m)) l

-- as a part of what is one deeper
pub inner_law : {A : Type 0} {S : Standing} {R : Rules A} {depth : A → ℕ} {d : ℕ} {w : Pair A} {F : Kinds} {N : Bool} {X Y : Kinds} →
    Law S R depth d w F N X Y → Law S R (λ a. suc (depth a)) (suc d) w F N X Y
inner_law {depth = depth} {d = d} l = measured (λ a. suc (depth a)) (suc d) (omega arith) (λ a m. omega (arith, m)) (λ a m. omega (arith, m)) l

-- the rule of what stands one further inside
abbrev pub under : {A : Type 0} → Rules A → Rules A
under R zero = Never
under R (suc n) = R n

-- the same, where the part also stands one further inside
pub under_law : {A : Type 0} {S : Standing} {R : Rules A} {depth : A → ℕ} {d : ℕ} {w : Pair A} {F : Kinds} {N : Bool} {X Y : Kinds} (R' : Rules A) →
    ((ts : Tokens) (a : A) (rest : Tokens) → R' 0 ts a rest → ⊥) →
    ((n : ℕ) (ts : Tokens) (a : A) (rest : Tokens) → R (suc n) ts a rest → R' (suc n) ts a rest) →
    ((n : ℕ) (ts : Tokens) (a : A) (rest : Tokens) → R' (suc n) ts a rest → R (suc n) ts a rest) →
    ((n : ℕ) (ts : Tokens) (a : A) (rest : Tokens) → R n ts a rest → depth a ≤ 0 → ⊥) →
    Law S R depth d w F N X Y → Law S (under R') (λ a. suc (depth a)) (suc d) w F N X Y
under_law {A} {S} {R} {depth} {d} {w} {F} {N} {X} {Y} R' empty to from none l = refit (under R') (λ a. suc (depth a)) (suc d) found (λ ts a rest h. let i = l.within ts a rest h in omega (arith, i)) back l where
  found : (n : ℕ) (ts : Tokens) (a : A) (rest : Tokens) → suc d ≤ n → w false ts ≡ Ok (a, rest) → under R' n ts a rest
  found zero ts a rest le h = absurd (omega (arith, le))
  found (suc zero) ts a rest le h = let i = l.within ts a rest h in absurd (none 0 ts a rest (l.found 0 ts a rest (omega (arith, le)) h) (omega (arith, le, i)))
  found (suc (suc n)) ts a rest le h = to n ts a rest (l.found (suc n) ts a rest (omega (arith, le)) h)

  back : (n : ℕ) (ts : Tokens) (a : A) (rest : Tokens) → under R' n ts a rest → suc (depth a) ≤ suc d → (m : ℕ) × R m ts a rest × (depth a ≤ d)
  back zero ts a rest r le = absurd r
  back (suc zero) ts a rest r le = absurd (empty ts a rest r)
  back (suc (suc n)) ts a rest r le = (suc n, from n ts a rest r, omega (arith, le))

-- a rule as one that nothing is so by with none in another
pub top_law : {A : Type 0} {S : Standing} {R : Rules A} {depth : A → ℕ} {d : ℕ} {w : Pair A} {F : Kinds} {N : Bool} {X Y : Kinds} (R' : Rules A) →
    ((ts : Tokens) (a : A) (rest : Tokens) → R' 0 ts a rest → ⊥) →
    ((n : ℕ) (ts : Tokens) (a : A) (rest : Tokens) → R (suc n) ts a rest → R' (suc n) ts a rest) →
    ((n : ℕ) (ts : Tokens) (a : A) (rest : Tokens) → R' (suc n) ts a rest → R (suc n) ts a rest) →
    ((n : ℕ) (ts : Tokens) (a : A) (rest : Tokens) → R n ts a rest → depth a ≤ 0 → ⊥) →
    Law S R depth d w F N X Y → Law S R' depth d w F N X Y
top_law {A} {S} {R} {depth} {d} {w} {F} {N} {X} {Y} R' empty to from none l = refit R' depth d found l.within back l where
  found : (n : ℕ) (ts : Tokens) (a : A) (rest : Tokens) → d ≤ n → w false ts ≡ Ok (a, rest) → R' n ts a rest
  found zero ts a rest le h = let i = l.within ts a rest h in absurd (none 0 ts a rest (l.found 0 ts a rest le h) (omega (arith, le, i)))
  found (suc n) ts a rest le h = to n ts a rest (l.found (suc n) ts a rest le h)

  back : (n : ℕ) (ts : Tokens) (a : A) (rest : Tokens) → R' n ts a rest → depth a ≤ d → (m : ℕ) × R m ts a rest × (depth a ≤ d)
  back zero ts a rest r le = absurd (empty ts a rest r)
  back (suc n) ts a rest r le = (suc n, from n ts a rest r, le)
