-- The law where no depth is left; and sets may be written otherwise, and grow.
use Rattle.std.proofs.Common.{◌≡◌, ℕ, ◌≤◌, Bool, true, false, [], ◌∷◌, ◌++◌, length, refl, sym, ap, subst, ◌∙◌, inl, inr, ◌⊎◌, Ok, Err}
use Rattle.ligo_tokens.specs.declared.token.Token.{Token}
use Rattle.ligo_syntax.specs.declared.fault.Stop.TheVariants as stop
use Rattle.ligo_syntax.specs.declared.fault.Expected.{Expected}
use Rattle.ligo_syntax.specs.Kinds.{Tokens, Kinds, sort, next, has, Ends}
use Rattle.ligo_syntax.specs.Readers.{Read, Reader, one_of, both, made, either, too_deep}
use Rattle.ligo_syntax.proofs.Sets.{within, by_case, within_has, within_holds, ends_first, ends_second}
use Rattle.ligo_syntax.proofs.RuleLaws.{May, Fill, Begins, Standing, Rules, Pair, Sinks, Goes, Starts, Law, Least}

-- ---- sets

pub widened : {A : Type 0} {S : Standing} {R : Rules A} {depth : A → ℕ} {d : ℕ} {w : Pair A} {F : Kinds} {N : Bool} {X Y : Kinds} (F' X' Y' : Kinds) → Law S R depth d w F N X Y →
    within F F' ≡ true → within F' F ≡ true → within X X' ≡ true → within Y Y' ≡ true → Law S R depth d w F' N X' Y'
widened {A} {S} {R} {depth} {d} {w} {F} {N} {X} {Y} F' X' Y' l f f' x y = record {
  found = l.found;
  within = l.within;
  only = λ n ts a rest r deep m. l.only n ts a rest r deep (within_has X X' (next rest) x m);
  starts = λ n ts a rest r deep. starts ts rest (l.starts n ts a rest r deep);
  goes = λ ts. goes ts (w false ts) (l.goes ts);
} where
  starts : (ts rest : Tokens) → Starts F N ts rest → Starts F' N ts rest
  starts ts rest (inl s) = inl (within_holds F F' (next ts) f (s.0), s.1)
  starts ts rest (inr s) = inr s

  may : (rest r : Tokens) → May Y' rest r → May Y rest r
  may rest r (inl m) = inl m
  may rest r (inr m) = inr (within_has Y Y' (next r) y m)

  shape : (u ts : Tokens) → Fill u ⊎ ((u ≡ []) × (N ≡ true) × (has F (next ts) ≡ false)) → Fill u ⊎ ((u ≡ []) × (N ≡ true) × (has F' (next ts) ≡ false))
  shape u ts (inl s) = inl s
  shape u ts (inr s) = inr (s.0, s.1, within_has F' F (next ts) f' (s.2))

  shape_of : (u ts m : Tokens) → Fill u ⊎ ((u ≡ []) × (N ≡ false) × (has F (next ts) ≡ false) × Begins F m) → Fill u ⊎ ((u ≡ []) × (N ≡ false) × (has F' (next ts) ≡ false) × Begins F' m)
  shape_of u ts m (inl s) = inl s
  shape_of u ts m (inr s) = inr (s.0, s.1, within_has F' F (next ts) f' (s.2), ((s.3).0, (s.3).1, (s.3).2, within_holds F F' (sort (s.3).0) f ((s.3).3)))

  shape_at : (u : Tokens) (t : Token) → Fill u ⊎ ((u ≡ []) × (has F (sort t) ≡ true)) → Fill u ⊎ ((u ≡ []) × (has F' (sort t) ≡ true))
  shape_at u t (inl s) = inl s
  shape_at u t (inr s) = inr (s.0, within_holds F F' (sort t) f (s.1))

  goes : (ts : Tokens) (x : Read A) → Goes S w F N Y ts x → Goes S w F' N Y' ts x
  goes ts (Ok x) s = record { used = s.used; whole = s.whole; again = λ i r m. s.again i r (may x.1 r m); shape = shape s.used ts s.shape }
  goes ts (Err (stop.Unexpected k n)) s = record {
    used = s.used;
    rest = s.rest;
    whole = s.whole;
    left = s.left;
    again = s.again;
    more = s.more;
    value = s.value;
    ends = λ r m. s.ends r (within_has Y Y' (next r) y m);
    stands = s.stands;
    shape = shape_of s.used ts s.more s.shape;
  }
  goes ts (Err (stop.TooDeep n)) s = record {
    used = s.used;
    token = s.token;
    after = s.after;
    whole = s.whole;
    left = s.left;
    again = s.again;
    more = s.more;
    value = s.value;
    ends = λ r m. s.ends r (within_has Y Y' (next r) y m);
    shape = shape_at s.used s.token s.shape;
  }
  goes ts (Err stop.NoMemory) s = s

abbrev pub least_widened : {A : Type 0} {q : Reader A} {F : Kinds} {N : Bool} {Y : Kinds} (F' Y' : Kinds) → Least q F N Y → within F F' ≡ true → within Y Y' ≡ true → Least q F' N Y'
least_widened {A} {q} {F} {N} {Y} F' Y' l f y = record { word = l.word; value = l.value; reads = λ r m. l.reads r (within_has Y Y' (next r) y m); shape = shape l.shape } where
  shape : ((N ≡ true) × (l.word ≡ [])) ⊎ ((N ≡ false) × Begins F l.word) → ((N ≡ true) × (l.word ≡ [])) ⊎ ((N ≡ false) × Begins F' l.word)
  shape (inl s) = inl s
  shape (inr s) = inr (s.0, ((s.1).0, (s.1).1, (s.1).2, within_holds F F' (sort (s.1).0) f ((s.1).3)))

-- ---- where no depth is left

-- what begins with none of its kinds is refused as this
pub record Refuses {A : Type 0} (q : Reader A) (k : Expected) (F : Kinds) : Type 0 where
  pub each : (ts : Tokens) → has F (next ts) ≡ false → q ts ≡ Err (stop.Unexpected k (length ts))

-- with each token that it begins with, something is read
pub record Completes {A : Type 0} (q : Reader A) (F : Kinds) (Y : Kinds) : Type 0 where
  pub more : Token → Tokens
  pub value : Token → A
  pub reads : (t : Token) → has F (sort t) ≡ true → (r : Tokens) → Ends Y r → q (t ∷ (more t ++ r)) ≡ Ok (value t, r)

abbrev pub sunk_pair : {A : Type 0} → Expected → Kinds → Reader A → Pair A
sunk_pair k F q false = too_deep k F
sunk_pair k F q true = q

-- no tree has the depth 0
pub deep_law : {A : Type 0} (S : Standing) (R : Rules A) (depth : A → ℕ) (q : Reader A) (k : Expected) (F X Y : Kinds) →
    ((n : ℕ) (ts : Tokens) (a : A) (rest : Tokens) → R n ts a rest → depth a ≤ 0 → ⊥) → has F 0 ≡ false →
    (l : Least q F false Y) → Refuses q k F → Completes q F Y → ((r : Tokens) → S k (l.word ++ r)) → Law S R depth 0 (sunk_pair k F q) F false X Y
deep_law {A} S R depth q k F X Y none z l refuses completes stands = record {
  found = λ n ts a rest _ h. absurd (read_none ts a rest h);
  within = λ ts a rest h. absurd (read_none ts a rest h);
  only = λ n ts a rest r deep m. absurd (none n ts a rest r deep);
  starts = λ n ts a rest r deep. absurd (none n ts a rest r deep);
  goes = λ ts. by_case (has F (next ts))
      (λ is. subst (Goes S (sunk_pair k F q) F false Y ts) (sym (deep ts is)) (sinks ts is))
      (λ is. subst (Goes S (sunk_pair k F q) F false Y ts) (sym (faulty ts is)) record {
        used = [];
        rest = ts;
        whole = refl;
        left = refl;
        again = λ i r m. again i r (ap (has F) (sym m) ∙ is);
        more = l.word;
        value = l.value;
        ends = l.reads;
        stands = stands;
        shape = inr (refl, refl, is, begins l.shape);
      });
} where
  deep : (ts : Tokens) → has F (next ts) ≡ true → Path (Read A) (too_deep k F ts) (Err (stop.TooDeep (length ts)))
  deep ts h = rw h refl

  faulty : (ts : Tokens) → has F (next ts) ≡ false → Path (Read A) (too_deep k F ts) (Err (stop.Unexpected k (length ts)))
  faulty ts h = rw h refl

  read_none : (ts : Tokens) (a : A) (rest : Tokens) → Path (Read A) (too_deep k F ts) (Ok (a, rest)) → ⊥
  read_none ts a rest h = absurd cc

  again : (i : Bool) (r : Tokens) → has F (next r) ≡ false → sunk_pair k F q i r ≡ Err (stop.Unexpected k (length r))
  again false r is = faulty r is
  again true r is = refuses.each r is

  sinks : (ts : Tokens) → has F (next ts) ≡ true → Sinks (sunk_pair k F q) F Y ts (length ts)
  sinks [] is = absurd cc
  sinks (t ∷ ts) is = record {
    used = [];
    token = t;
    after = ts;
    whole = refl;
    left = refl;
    again = λ r m. deep r (ap (has F) (sym m) ∙ is);
    more = completes.more t;
    value = completes.value t;
    ends = completes.reads t is;
    shape = inr (refl, is);
  }

  begins : ((false ≡ true) × (l.word ≡ [])) ⊎ ((false ≡ false) × Begins F l.word) → Begins F l.word
  begins (inl h) = absurd cc
  begins (inr h) = h.1

pub token_refuses : (k : Expected) (K : Kinds) → Refuses (one_of k K) k K
token_refuses k K = record { each = each } where
  each : (ts : Tokens) → has K (next ts) ≡ false → one_of k K ts ≡ Err (stop.Unexpected k (length ts))
  each [] h = refl
  each (t ∷ ts) h = rw h refl

pub made_refuses : {A B : Type 0} {q : Reader A} {k : Expected} {F : Kinds} (f : A → B) → Refuses q k F → Refuses (made f q) k F
made_refuses f h = record { each = λ ts e. rw (h.each ts e) refl }

pub both_refuses : {A B : Type 0} {q : Reader A} {k : Expected} {F : Kinds} (q' : Reader B) → Refuses q k F → Refuses (both q q') k F
both_refuses q' h = record { each = λ ts e. rw (h.each ts e) refl }

pub either_refuses : {A : Type 0} (q : Reader A) (F : Kinds) {q' : Reader A} {k : Expected} {F' : Kinds} → Refuses q' k F' → Refuses (either F q q') k (F ++ F')
either_refuses q F {F' = F'} h = record { each = λ ts e. rw (ends_first F F' ts e) (h.each ts (ends_second F F' ts e)) }
