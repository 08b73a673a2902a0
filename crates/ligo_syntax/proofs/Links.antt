-- The law of chains: of links behind something, each of which makes it deeper.
use Rattle.std.proofs.Common.{◌≡◌, ℕ, zero, suc, max, ◌+◌, ◌-◌, ◌<◌, ◌≤◌, nat_lt, Bool, true, false, List, [], ◌∷◌, ◌++◌, length, fold, refl, sym, ap, subst, ◌∙◌, arith, inl, inr, ◌⊎◌, append_assoc, Ok, Err}
use Rattle.ligo_syntax.specs.declared.fault.Stop.{Stop}
use Rattle.ligo_syntax.specs.declared.fault.Stop.TheVariants as stop
use Rattle.ligo_syntax.specs.declared.fault.Expected.{Expected}
use Rattle.ligo_syntax.specs.Kinds.{Tokens, Kinds, sort, next, has, Ends}
use Rattle.ligo_syntax.specs.Depth.{deepest}
use Rattle.ligo_syntax.specs.Rules.{Rule, Onward, Repeated, Chain}
use Rattle.ligo_syntax.specs.Readers.{Read, Reader, then_do, links, chain}
use Rattle.ligo_syntax.proofs.Sets.{apart, by_case, ends_first, ends_second, in_first}
use Rattle.ligo_syntax.proofs.RuleLaws.{Same, May, Fill, Begins, Standing, Rules, Pair, Stays, Breaks, Sinks, Goes, Starts, Law, Least, same_filled, then_inv, unwrap, made_pair}
use Rattle.ligo_syntax.proofs.Sequences.{filled_first, from_empty, onward_pair, onward_law, deeper}
use Rattle.ligo_syntax.proofs.Loops.{more_turns, some_turns, shorter, is_filled, is_filled_found, no_front, first_begins, mid_ends, repeated_starts}
use Rattle.ligo_syntax.proofs.Choices.{no_shape}
use Rattle.ligo_syntax.proofs.Deep.{Completes}
use Rattle.ligo_syntax.proofs.Moves.{alike_law, refit_made}
use Rattle.ligo_syntax.proofs.Turns.{is_below}

-- how deep may be what is read at a depth, and at the greater one
abbrev pub limits : ℕ → ℕ → Bool → ℕ
limits d d' false = d
limits d d' true = d'

pub links_none : {A B : Type 0} (depth : B → ℕ) (d : ℕ) (f : B → A → B) (F : Kinds) (q : Reader A) (n : ℕ) (b : B) (ts : Tokens) → has F (next ts) ≡ false → links depth d f F q n b ts ≡ Ok (b, ts)
links_none depth d f F q zero b ts h = refl
links_none depth d f F q (suc n) b ts h = rw h refl

link_is : {A B : Type 0} (depth : B → ℕ) (d : ℕ) (f : B → A → B) (F : Kinds) (q : Reader A) (n : ℕ) (b : B) (ts : Tokens) (a : A) (mid : Tokens) →
    has F (next ts) ≡ true → nat_lt (depth b) d ≡ true → q ts ≡ Ok (a, mid) → links depth d f F q (suc n) b ts ≡ links depth d f F q n (f b a) mid
link_is depth d f F q n b ts a mid h i j = rw (h, i, j) refl

link_fails : {A B : Type 0} (depth : B → ℕ) (d : ℕ) (f : B → A → B) (F : Kinds) (q : Reader A) (n : ℕ) (b : B) (ts : Tokens) (e : Stop) →
    has F (next ts) ≡ true → nat_lt (depth b) d ≡ true → q ts ≡ Err e → links depth d f F q (suc n) b ts ≡ Err e
link_fails depth d f F q n b ts e h i j = rw (h, i, j) refl

link_full : {A B : Type 0} (depth : B → ℕ) (d : ℕ) (f : B → A → B) (F : Kinds) (q : Reader A) (n : ℕ) (b : B) (ts : Tokens) →
    has F (next ts) ≡ true → nat_lt (depth b) d ≡ false → links depth d f F q (suc n) b ts ≡ Err (stop.TooDeep (length ts))
link_full depth d f F q n b ts h i = rw (h, i) refl

pub turns_left : {A B : Type 0} (depth : B → ℕ) (d : ℕ) (f : B → A → B) (F : Kinds) (q : Reader A) (n : ℕ) (b : B) (ts : Tokens) → has F (next ts) ≡ true → nat_lt (depth b) d ≡ true →
    then_do (q ts) (λ a rest. links depth d f F q n (f b a) rest) ≡ links depth d f F q (suc n) b ts
turns_left depth d f F q n b ts h i = rw (h, i) refl

is_lower : (n d : ℕ) → nat_lt n d ≡ true → n < d
is_lower n d h = grind arith

-- with some more turns than tokens
abbrev pub linked_pair : {A B : Type 0} → (B → ℕ) → (Bool → ℕ) → (B → A → B) → Kinds → Pair A → ℕ → B → Pair B
linked_pair depth limit f F w e b i ts = links depth (limit i) f F (w i) (length ts + e) b ts

module _ {A B : Type 0} (S : Standing) (w : Pair A) (F : Kinds) (Y : Kinds) (z : has F 0 ≡ false) (depth : B → ℕ) (d d' : ℕ) (below : d < d') (f : B → A → B) where
  room : (i : Bool) (b : B) → depth b < d → nat_lt (depth b) (limits d d' i) ≡ true
  room false b lt = is_below (depth b) d lt
  room true b lt = is_below (depth b) d' (omega (arith, lt, below))

  alike : (ts u rest r : Tokens) → ts ≡ u ++ rest → Fill u → next (u ++ r) ≡ next ts
  alike ts u rest r is f = same_filled u r rest f ∙ rw is refl

  none_goes : (e : ℕ) (b : B) (ts : Tokens) → has F (next ts) ≡ false → Stays (linked_pair depth (limits d d') f F w e b) F true (F ++ Y) ts b ts
  none_goes e b ts h = record { used = []; whole = refl; again = λ i r m. links_none depth (limits d d' i) f F (w i) (length r + e) b r (stops r m); shape = inr (refl, refl, h) } where
    stops : (r : Tokens) → May (F ++ Y) ts r → has F (next r) ≡ false
    stops r (inl m) = ap (has F) (sym m) ∙ h
    stops r (inr m) = ends_first F Y r m

  may_first : (mid u rest r : Tokens) → mid ≡ u ++ rest → Fill u ⊎ ((u ≡ []) × (true ≡ true) × (has F (next mid) ≡ false)) → May (F ++ Y) rest r → May Y mid (u ++ r)
  may_first mid u rest r is (inl f) m = inl (rw is (same_filled u rest r f))
  may_first mid u rest r is (inr f) (inl m) = inl (rw (is, f.0) m)
  may_first mid u rest r is (inr f) (inr m) = inr (rw (f.0) (ends_second F Y r m))

  -- the first link is taken whatever stands behind
  step : (e : ℕ) (b : B) (ts : Tokens) (a : A) (mid : Tokens) → has F (next ts) ≡ true → depth b < d → (s : Stays w F false Y ts a mid) → Fill s.used → (i : Bool) (u r : Tokens) → May Y mid (u ++ r) →
      linked_pair depth (limits d d') f F w e b i ((s.used ++ u) ++ r) ≡ linked_pair depth (limits d d') f F w (length s.used - 1 + e) (f b a) i (u ++ r)
  step e b ts a mid h lt s k i u r m = ap (linked_pair depth (limits d d') f F w e b i) (append_assoc s.used u r) ∙
      ap (λ n. links depth (limits d d' i) f F (w i) n b (s.used ++ (u ++ r))) (more_turns s.used (u ++ r) e k) ∙
      link_is depth (limits d d' i) f F (w i) (length (u ++ r) + (length s.used - 1 + e)) b (s.used ++ (u ++ r)) a (u ++ r) (ap (has F) (alike ts s.used mid (u ++ r) s.whole k) ∙ h) (room i b lt) (s.again i (u ++ r) m)

  next_stays : (e : ℕ) (b : B) (ts : Tokens) (a : A) (mid : Tokens) (c : B) (rest : Tokens) → has F (next ts) ≡ true → depth b < d → (s : Stays w F false Y ts a mid) → Fill s.used →
      Stays (linked_pair depth (limits d d') f F w (length s.used - 1 + e) (f b a)) F true (F ++ Y) mid c rest → Stays (linked_pair depth (limits d d') f F w e b) F true (F ++ Y) ts c rest
  next_stays e b ts a mid c rest h lt s k t = record {
    used = s.used ++ t.used;
    whole = s.whole ∙ ap (λ l. s.used ++ l) t.whole ∙ sym (append_assoc s.used t.used rest);
    again = λ i r m. step e b ts a mid h lt s k i t.used r (may_first mid t.used rest r t.whole t.shape m) ∙ t.again i r m;
    shape = inl (filled_first s.used t.used k);
  }

  next_breaks : (e : ℕ) (b : B) (ts : Tokens) (a : A) (mid : Tokens) (x : Expected) (n : ℕ) → has F (next ts) ≡ true → depth b < d → (s : Stays w F false Y ts a mid) → Fill s.used →
      Breaks S (linked_pair depth (limits d d') f F w (length s.used - 1 + e) (f b a)) F true (F ++ Y) mid x n → Breaks S (linked_pair depth (limits d d') f F w e b) F true (F ++ Y) ts x n
  next_breaks e b ts a mid x n h lt s k t = record {
    used = s.used ++ t.used;
    rest = t.rest;
    whole = s.whole ∙ ap (λ l. s.used ++ l) t.whole ∙ sym (append_assoc s.used t.used t.rest);
    left = t.left;
    again = λ i r m. step e b ts a mid h lt s k i t.used r (inl (front r)) ∙ t.again i r m;
    more = t.more;
    value = t.value;
    ends = λ r m. step e b ts a mid h lt s k true t.used (t.more ++ r) (inl (front (t.more ++ r))) ∙ t.ends r m;
    stands = t.stands;
    shape = inl (filled_first s.used t.used k);
  } where
    filled : Fill t.used ⊎ ((t.used ≡ []) × (true ≡ false) × (has F (next mid) ≡ false) × Begins F t.more) → Fill t.used
    filled (inl g) = g
    filled (inr g) = absurd cc

    front : (r : Tokens) → next mid ≡ next (t.used ++ r)
    front r = sym (alike mid t.used t.rest r t.whole (filled t.shape))

  next_sinks : (e : ℕ) (b : B) (ts : Tokens) (a : A) (mid : Tokens) (n : ℕ) → has F (next ts) ≡ true → depth b < d → (s : Stays w F false Y ts a mid) → Fill s.used →
      Sinks (linked_pair depth (limits d d') f F w (length s.used - 1 + e) (f b a)) F (F ++ Y) mid n → Sinks (linked_pair depth (limits d d') f F w e b) F (F ++ Y) ts n
  next_sinks e b ts a mid n h lt s k t = record {
    used = s.used ++ t.used;
    token = t.token;
    after = t.after;
    whole = s.whole ∙ ap (λ l. s.used ++ l) t.whole ∙ sym (append_assoc s.used t.used (t.token ∷ t.after));
    left = t.left;
    again = λ r m. step e b ts a mid h lt s k false t.used r (inl (front r m t.shape)) ∙ t.again r m;
    more = t.more;
    value = t.value;
    ends = λ r m. step e b ts a mid h lt s k true t.used (t.token ∷ (t.more ++ r)) (inl (front (t.token ∷ (t.more ++ r)) refl t.shape)) ∙ t.ends r m;
    shape = inl (filled_first s.used t.used k);
  } where
    front : (r : Tokens) → Same (t.token ∷ t.after) r → Fill t.used ⊎ ((t.used ≡ []) × (has F (sort t.token) ≡ true)) → Same mid (t.used ++ r)
    front r m (inl g) = rw (t.whole) (same_filled t.used (t.token ∷ t.after) r g)
    front r m (inr g) = from_empty mid t.used (t.token ∷ t.after) t.whole (g.0) ∙ m ∙ rw (g.0) refl

  next_goes : (e : ℕ) (b : B) (ts : Tokens) (a : A) (mid : Tokens) (y : Read B) → has F (next ts) ≡ true → depth b < d → (s : Stays w F false Y ts a mid) → Fill s.used →
      Goes S (linked_pair depth (limits d d') f F w (length s.used - 1 + e) (f b a)) F true (F ++ Y) mid y → Goes S (linked_pair depth (limits d d') f F w e b) F true (F ++ Y) ts y
  next_goes e b ts a mid (Ok y) h lt s k t = next_stays e b ts a mid y.0 y.1 h lt s k t
  next_goes e b ts a mid (Err (stop.Unexpected x n)) h lt s k t = next_breaks e b ts a mid x n h lt s k t
  next_goes e b ts a mid (Err (stop.TooDeep n)) h lt s k t = next_sinks e b ts a mid n h lt s k t
  next_goes e b ts a mid (Err stop.NoMemory) h lt s k t = t

  -- a link that is read at last
  last : (e : ℕ) (b : B) (ts : Tokens) (a : A) (r : Tokens) → has F (next ts) ≡ true → depth b ≤ d → w true ts ≡ Ok (a, r) → Ends (F ++ Y) r → linked_pair depth (limits d d') f F w e b true ts ≡ Ok (f b a, r)
  last e b ts a r h le is m = ap (λ n. links depth d' f F (w true) n b ts) (some_turns F ts e z h) ∙
      link_is depth d' f F (w true) (length ts - 1 + e) b ts a r h (is_below (depth b) d' (omega (arith, le, below))) is ∙ links_none depth d' f F (w true) (length ts - 1 + e) (f b a) r (ends_first F Y r m)

  fails : (e : ℕ) (b : B) (ts : Tokens) (i : Bool) (x : Stop) → has F (next ts) ≡ true → depth b < d → w i ts ≡ Err x → linked_pair depth (limits d d') f F w e b i ts ≡ Err x
  fails e b ts i x h lt is = ap (λ n. links depth (limits d d' i) f F (w i) n b ts) (some_turns F ts e z h) ∙ link_fails depth (limits d d' i) f F (w i) (length ts - 1 + e) b ts x h (room i b lt) is

  first_breaks : (e : ℕ) (b : B) (ts : Tokens) (x : Expected) (n : ℕ) → has F (next ts) ≡ true → depth b < d → (s : Breaks S w F false Y ts x n) → Fill s.used → Breaks S (linked_pair depth (limits d d') f F w e b) F true (F ++ Y) ts x n
  first_breaks e b ts x n h lt s k = record {
    used = s.used;
    rest = s.rest;
    whole = s.whole;
    left = s.left;
    again = λ i r m. fails e b (s.used ++ r) i _ (ap (has F) (alike ts s.used s.rest r s.whole k) ∙ h) lt (s.again i r m);
    more = s.more;
    value = f b s.value;
    ends = λ r m. last e b (s.used ++ (s.more ++ r)) s.value r (ap (has F) (alike ts s.used s.rest (s.more ++ r) s.whole k) ∙ h) (omega (arith, lt)) (s.ends r (ends_second F Y r m)) m;
    stands = s.stands;
    shape = inl k;
  }

  first_sinks : (e : ℕ) (b : B) (ts : Tokens) (n : ℕ) → has F (next ts) ≡ true → depth b < d → Sinks w F Y ts n → Sinks (linked_pair depth (limits d d') f F w e b) F (F ++ Y) ts n
  first_sinks e b ts n h lt s = record {
    used = s.used;
    token = s.token;
    after = s.after;
    whole = s.whole;
    left = s.left;
    again = λ r m. fails e b (s.used ++ r) false _ (front r m) lt (s.again r m);
    more = s.more;
    value = f b s.value;
    ends = λ r m. last e b (s.used ++ (s.token ∷ (s.more ++ r))) s.value r (front (s.token ∷ (s.more ++ r)) refl) (omega (arith, lt)) (s.ends r (ends_second F Y r m)) m;
    shape = s.shape;
  } where
    same : (r : Tokens) → Same (s.token ∷ s.after) r → Fill s.used ⊎ ((s.used ≡ []) × (has F (sort s.token) ≡ true)) → next (s.used ++ r) ≡ next ts
    same r m (inl g) = alike ts s.used (s.token ∷ s.after) r s.whole g
    same r m (inr g) = rw (g.0) (sym m) ∙ sym (from_empty ts s.used (s.token ∷ s.after) s.whole (g.0))

    front : (r : Tokens) → Same (s.token ∷ s.after) r → has F (next (s.used ++ r)) ≡ true
    front r m = ap (has F) (same r m s.shape) ∙ h

  link_goes : (e : ℕ) (b : B) (ts : Tokens) (x : Read A) (on : A → Tokens → Read B) → has F (next ts) ≡ true → depth b < d → Goes S w F false Y ts x →
      ((a : A) (mid : Tokens) → Path (Read A) x (Ok (a, mid)) → length mid < length ts → (e : ℕ) → Goes S (linked_pair depth (limits d d') f F w e (f b a)) F true (F ++ Y) mid (on a mid)) →
      Goes S (linked_pair depth (limits d d') f F w e b) F true (F ++ Y) ts (then_do x on)
  link_goes e b ts (Ok x) on h lt s g =
      let k = is_filled_found F s.used ts s.shape in
      next_goes e b ts x.0 x.1 (on x.0 x.1) h lt s k (g x.0 x.1 refl (shorter ts s.used x.1 s.whole k) (length s.used - 1 + e))
  link_goes e b ts (Err (stop.Unexpected x n)) on h lt s g = first_breaks e b ts x n h lt s (is_filled F false (Begins F s.more) s.used ts h s.shape)
  link_goes e b ts (Err (stop.TooDeep n)) on h lt s g = first_sinks e b ts n h lt s
  link_goes e b ts (Err stop.NoMemory) on h lt s g = s

  full_goes : Completes (w true) F Y → (e : ℕ) (b : B) (ts : Tokens) → has F (next ts) ≡ true → nat_lt (depth b) d ≡ false → depth b ≤ d → Sinks (linked_pair depth (limits d d') f F w e b) F (F ++ Y) ts (length ts)
  full_goes c e b [] h full le = absurd cc
  full_goes c e b (t ∷ after) h full le = record {
    used = [];
    token = t;
    after = after;
    whole = refl;
    left = refl;
    again = λ r m. ap (λ n. links depth d f F (w false) n b r) (some_turns F r e z (ap (has F) (sym m) ∙ h)) ∙ link_full depth d f F (w false) (length r - 1 + e) b r (ap (has F) (sym m) ∙ h) full;
    more = c.more t;
    value = f b (c.value t);
    ends = λ r m. last e b (t ∷ (c.more t ++ r)) (c.value t) r h le (c.reads t h r (ends_second F Y r m)) m;
    shape = inr (refl, h);
  }

  links_goes : Completes (w true) F Y → ((ts : Tokens) → Goes S w F false Y ts (w false ts)) → ((b : B) (ts : Tokens) (a : A) (mid : Tokens) → depth b < d → w false ts ≡ Ok (a, mid) → depth (f b a) ≤ d) →
      (n : ℕ) (b : B) (ts : Tokens) → depth b ≤ d → length ts ≤ n → (e : ℕ) → Goes S (linked_pair depth (limits d d') f F w e b) F true (F ++ Y) ts (links depth d f F (w false) n b ts)
  links_goes c g fits zero b ts deep le e = none_goes e b ts (no_front F ts z le)
  links_goes c g fits (suc n) b ts deep le e = by_case (has F (next ts))
      (λ is. by_case (nat_lt (depth b) d)
      (λ lt. subst (Goes S (linked_pair depth (limits d d') f F w e b) F true (F ++ Y) ts) (turns_left depth d f F (w false) n b ts is lt)
      (link_goes e b ts (w false ts) (λ a rest. links depth d f F (w false) n (f b a) rest) is (is_lower (depth b) d lt) (g ts)
      (λ a mid h less. links_goes c g fits n (f b a) mid (fits b ts a mid (is_lower (depth b) d lt) h) (omega (arith, less, le)))))
      (λ full. subst (Goes S (linked_pair depth (limits d d') f F w e b) F true (F ++ Y) ts) (sym (link_full depth d f F (w false) n b ts is full)) (full_goes c e b ts is full deep)))
      (λ is. subst (Goes S (linked_pair depth (limits d d') f F w e b) F true (F ++ Y) ts) (sym (links_none depth d f F (w false) (suc n) b ts is)) (none_goes e b ts is))

-- ---- what is found, and what is read

abbrev pub Linked : {A B : Type 0} → (B → A → B) → Rule A → B → Rule B
Linked {A} f R b ts c rest = (all : List A) × Repeated R ts all rest × (c ≡ fold f b all)

-- a link makes it as deep as the link, and deeper than it was
abbrev pub Grows : {A B : Type 0} → (B → ℕ) → (A → ℕ) → (B → A → B) → Type 0
Grows {A} {B} depth inner f = (b : B) (a : A) → depth (f b a) ≡ max (suc (depth b)) (inner a)

fold_deep : {A B : Type 0} (depth : B → ℕ) (inner : A → ℕ) (f : B → A → B) → Grows depth inner f → (d : ℕ) (b : B) (all : List A) → depth (fold f b all) ≤ d → (depth b ≤ d) × (deepest inner all ≤ d)
fold_deep depth inner f g d b [] le = (le, omega arith)
fold_deep depth inner f g d b (a ∷ more) le =
    let i = fold_deep depth inner f g d (f b a) more le in
    let e = g b a in
    (omega (arith, e, i.0), omega (arith, e, i.0, i.1))

links_hold : {A B : Type 0} (depth : B → ℕ) (d : ℕ) (f : B → A → B) (F : Kinds) (p : Reader A) (Q : B → Tokens → B → Tokens → Type 0) →
    ((b : B) (ts : Tokens) (a : A) (mid : Tokens) → depth b < d → p ts ≡ Ok (a, mid) → depth (f b a) ≤ d) →
    ((b : B) (ts : Tokens) → depth b ≤ d → Q b ts b ts) →
    ((b : B) (ts : Tokens) (a : A) (mid : Tokens) (c : B) (rest : Tokens) → p ts ≡ Ok (a, mid) → Q (f b a) mid c rest → Q b ts c rest) →
    (n : ℕ) (b : B) (ts : Tokens) (c : B) (rest : Tokens) → depth b ≤ d → links depth d f F p n b ts ≡ Ok (c, rest) → Q b ts c rest
links_hold {A} {B} depth d f F p Q fits none some n b ts c rest le h = holds n b ts c rest le h where
  here : (b : B) (ts : Tokens) (c : B) (rest : Tokens) → depth b ≤ d → Path (Read B) (Ok (b, ts)) (Ok (c, rest)) → Q b ts c rest
  here b ts c rest le h = subst (λ (y : B × Tokens). Q b ts y.0 y.1) (unwrap (b, ts) (c, rest) h) (none b ts le)

  more : (n : ℕ) (b : B) (ts : Tokens) (c : B) (rest : Tokens) → depth b < d → ((b : B) (ts : Tokens) (c : B) (rest : Tokens) → depth b ≤ d → links depth d f F p n b ts ≡ Ok (c, rest) → Q b ts c rest) →
      then_do (p ts) (λ a mid. links depth d f F p n (f b a) mid) ≡ Ok (c, rest) → Q b ts c rest
  more n b ts c rest lt ih h =
      let i = then_inv (p ts) (λ a mid. links depth d f F p n (f b a) mid) (c, rest) h in
      some b ts i.0.0 i.0.1 c rest (i.1) (ih (f b i.0.0) i.0.1 c rest (fits b ts i.0.0 i.0.1 lt (i.1)) (i.2))

  holds : (n : ℕ) (b : B) (ts : Tokens) (c : B) (rest : Tokens) → depth b ≤ d → links depth d f F p n b ts ≡ Ok (c, rest) → Q b ts c rest
  holds zero b ts c rest le h = here b ts c rest le h
  holds (suc n) b ts c rest le h = by_case (has F (next ts))
      (λ is. by_case (nat_lt (depth b) d)
      (λ lt. more n b ts c rest (is_lower (depth b) d lt) (holds n) (turns_left depth d f F p n b ts is lt ∙ h))
      (λ full. let e : Path (Read B) (Err (stop.TooDeep (length ts))) (Ok (c, rest)) = sym (link_full depth d f F p n b ts is full) ∙ h in absurd cc))
      (λ is. here b ts c rest le (sym (links_none depth d f F p (suc n) b ts is) ∙ h))

links_only : {A B : Type 0} (depth : B → ℕ) (inner : A → ℕ) (d : ℕ) (f : B → A → B) → Grows depth inner f → (R : Rule A) (p : Reader A) (F X : Kinds) →
    ((ts : Tokens) (a : A) (rest : Tokens) → R ts a rest → inner a ≤ d → Starts F false ts rest) →
    ((ts : Tokens) (a : A) (rest : Tokens) → R ts a rest → inner a ≤ d → Ends X rest → p ts ≡ Ok (a, rest)) → apart F X ≡ true →
    (n : ℕ) (b : B) (ts : Tokens) (all : List A) (rest : Tokens) → length ts ≤ n → Repeated R ts all rest → depth (fold f b all) ≤ d → Ends F rest → Ends X rest →
    links depth d f F p n b ts ≡ Ok (fold f b all, rest)
links_only depth inner d f g R p F X s o c n b ts [] rest le r deep k m = rw r (links_none depth d f F p n b rest k)
links_only depth inner d f g R p F X s o c zero b ts (a ∷ more) rest le r deep k m =
    let i = fold_deep depth inner f g d b (a ∷ more) deep in
    let j = first_begins F ts (r.0) (s ts a (r.0) (r.1) (omega (arith, i.1))) in absurd (omega (arith, j.1, le))
links_only depth inner d f g R p F X s o c (suc n) b ts (a ∷ more) rest le r deep k m =
    let i = fold_deep depth inner f g d b (a ∷ more) deep in
    let j = first_begins F ts (r.0) (s ts a (r.0) (r.1) (omega (arith, i.1))) in
    let u = fold_deep depth inner f g d (f b a) more deep in
    let e = g b a in
    link_is depth d f F p n b ts a (r.0) (j.0) (is_below (depth b) d (omega (arith, e, u.0))) (o ts a (r.0) (r.1) (omega (arith, i.1)) (mid_ends R F X inner d s c (r.0) more rest (r.2) u.1 m)) ∙
    links_only depth inner d f g R p F X s o c n (f b a) (r.0) more rest (omega (arith, j.1, le)) (r.2) deep k m

pub links_law : {A B : Type 0} {S : Standing} {R : Rules A} {inner : A → ℕ} {d : ℕ} {w : Pair A} {F : Kinds} {X Y : Kinds} (depth : B → ℕ) (d' : ℕ) (f : B → A → B) → d < d' → Grows depth inner f →
    Law S R inner d w F false X Y → has F 0 ≡ false → apart F X ≡ true → Completes (w true) F Y → (b : B) → depth b ≤ d →
    Law S (λ n. Linked f (R n) b) depth d (linked_pair depth (limits d d') f F w 0 b) F true (F ++ X) (F ++ Y)
links_law {A} {B} {S} {R} {inner} {d} {w} {F} {X} {Y} depth d' f below g l z c complete b deep = record {
  found = λ n ts x rest m h. (holds n m b ts x rest deep (same ts ∙ h)).0;
  within = λ ts x rest h. (holds d (omega arith) b ts x rest deep (same ts ∙ h)).1;
  only = λ n ts x rest r le m.
      let e : depth (fold f b (r.0)) ≤ d = subst (λ (y : B). depth y ≤ d) (r.2) le in
      sym (same ts) ∙ links_only depth inner d f g (R n) (w false) F X (l.starts n) (l.only n) c (length ts) b ts (r.0) rest (omega arith) (r.1) e (ends_first F X rest m) (ends_second F X rest m) ∙ ap (λ y. Ok (y, rest)) (sym (r.2));
  starts = λ n ts x rest r le.
      let e : depth (fold f b (r.0)) ≤ d = subst (λ (y : B). depth y ≤ d) (r.2) le in
      repeated_starts (R n) F inner d (l.starts n) ts (r.0) rest (r.1) (fold_deep depth inner f g d b (r.0) e).1;
  goes = λ ts. subst (Goes S (linked_pair depth (limits d d') f F w 0 b) F true (F ++ Y) ts) (same ts) (links_goes S w F Y z depth d d' below f complete l.goes fits (length ts) b ts deep (omega arith) 0);
} where
  same : (ts : Tokens) → links depth d f F (w false) (length ts) b ts ≡ linked_pair depth (limits d d') f F w 0 b false ts
  same ts = let e : length ts ≡ length ts + 0 = omega arith in ap (λ n. links depth d f F (w false) n b ts) e

  fits : (b : B) (ts : Tokens) (a : A) (mid : Tokens) → depth b < d → w false ts ≡ Ok (a, mid) → depth (f b a) ≤ d
  fits b ts a mid lt h = let i = l.within ts a mid h in let e = g b a in omega (arith, e, i, lt)

  holds : (n : ℕ) → d ≤ n → (b : B) (ts : Tokens) (x : B) (rest : Tokens) → depth b ≤ d → links depth d f F (w false) (length ts) b ts ≡ Ok (x, rest) → Linked f (R n) b ts x rest × (depth x ≤ d)
  holds n m b ts x rest le h = links_hold depth d f F (w false) (λ b ts x rest. Linked f (R n) b ts x rest × (depth x ≤ d)) fits (λ b ts le. (([], refl, refl), le))
      (λ b ts a mid x rest h t. ((a ∷ (t.0).0, (mid, l.found n ts a mid m h, (t.0).1), (t.0).2), t.1)) (length ts) b ts x rest le h

abbrev pub linked_least : {A B : Type 0} (depth : B → ℕ) (d d' : ℕ) (f : B → A → B) (F : Kinds) (w : Pair A) (Y : Kinds) (b : B) → Least (linked_pair depth (limits d d') f F w 0 b true) F true (F ++ Y)
linked_least depth d d' f F w Y b = record { word = []; value = b; reads = λ r m. links_none depth d' f F (w true) (length r + 0) b r (ends_first F Y r m); shape = inl (refl, refl) }

abbrev pub chain_pair : {A B : Type 0} → (B → ℕ) → (Bool → ℕ) → (B → A → B) → Pair B → Kinds → Pair A → Pair B
chain_pair depth limit f first F w i = chain depth (limit i) f (first i) F (w i)

pub chain_law : {A B : Type 0} {S : Standing} {R : Rules B} {depth : B → ℕ} {d : ℕ} {v : Pair B} {G : Kinds} {X Y : Kinds} {L : Rules A} {inner : A → ℕ} {w : Pair A} {F : Kinds} {X' Y' : Kinds} (d' : ℕ) (f : B → A → B) → d < d' →
    Grows depth inner f → Law S R depth d v G false X Y → Law S L inner d w F false X' Y' → has F 0 ≡ false → apart F X' ≡ true → apart F X ≡ true → Completes (w true) F Y' →
    Law S (λ n. Chain f (R n) (L n)) depth d (chain_pair depth (limits d d') f v F w) (G ++ []) false ((F ++ X') ++ X) ((F ++ Y') ++ Y)
chain_law {A} {B} {S} {R} {depth} {d} {v} {G} {X} {Y} {L} {inner} {w} {F} {X'} {Y'} d' f below g l l' z c c' complete = alike_law (chain_pair depth (limits d d') f v F w) (λ i ts. same i (v i ts)) made where
  both : Law S (λ n. Onward (R n) (λ b. Linked f (L n) b)) (deeper depth depth) d (onward_pair v (linked_pair depth (limits d d') f F w 0)) (G ++ []) false ((F ++ X') ++ X) ((F ++ Y') ++ Y)
  both = onward_law l (λ b le. links_law depth d' f below g l' z c complete b le) (λ b. linked_least depth d d' f F w Y' b) c' refl

  back : (n : ℕ) (ts : Tokens) (b : B) (rest : Tokens) → Chain f (R n) (L n) ts b rest → depth b ≤ d →
      (m : ℕ) × (a : B × B) × Onward (R m) (λ b. Linked f (L m) b) ts a rest × (deeper depth depth a ≤ d) × (b ≡ a.1)
  back n ts b rest r le =
      let e : depth (fold f (r.0).0 (r.0).1) ≤ d = subst (λ (y : B). depth y ≤ d) (r.2) le in
      let i = fold_deep depth inner f g d (r.0).0 (r.0).1 e in
      (n, ((r.0).0, b), ((r.1).0, (r.1).1, ((r.0).1, (r.1).2, r.2)), omega (arith, le, i.0), refl)

  made : Law S (λ n. Chain f (R n) (L n)) depth d (made_pair (λ (p : B × B). p.1) (onward_pair v (linked_pair depth (limits d d') f F w 0))) (G ++ []) false ((F ++ X') ++ X) ((F ++ Y') ++ Y)
  made = refit_made (λ (p : B × B). p.1) (λ n. Chain f (R n) (L n)) depth d
      (λ n ts a rest m h. let r = both.found n ts a rest m h in ((a.0, (r.2).0), (r.0, r.1, (r.2).1), (r.2).2))
      (λ ts a rest h. let i = both.within ts a rest h in omega (arith, i)) back both

  peel : (b : B) (y : Read B) → then_do (then_do y (λ c end. Ok ((b, c), end))) (λ (p : B × B) rest. Ok (p.1, rest)) ≡ y
  peel b (Ok y) = refl
  peel b (Err e) = refl

  same : (i : Bool) (x : Read B) → then_do (then_do x (λ b rest. then_do (linked_pair depth (limits d d') f F w 0 b i rest) (λ c end. Ok ((b, c), end)))) (λ (p : B × B) rest. Ok (p.1, rest)) ≡
      then_do x (λ b rest. links depth (limits d d' i) f F (w i) (length rest) b rest)
  same i (Ok x) = peel x.0 (linked_pair depth (limits d d') f F w 0 x.0 i x.1) ∙ (let e : length x.1 + 0 ≡ length x.1 = omega arith in ap (λ n. links depth (limits d d' i) f F (w i) n x.0 x.1) e)
  same i (Err e) = refl

abbrev pub chain_least : {A B : Type 0} {q : Reader B} {G : Kinds} {Y : Kinds} (depth : B → ℕ) (d : ℕ) (f : B → A → B) (F : Kinds) (p : Reader A) (Y' : Kinds) → Least q G false Y → apart F Y ≡ true →
    Least (chain depth d f q F p) (G ++ []) false ((F ++ Y') ++ Y)
chain_least {A} {B} {q} {G} {Y} depth d f F p Y' l c = record {
  word = l.word;
  value = l.value;
  reads = λ r m. on r (l.reads r (ends_second (F ++ Y') Y r m)) (ends_first F Y' r (ends_first (F ++ Y') Y r m));
  shape = shape l.shape;
} where
  on : (r : Tokens) → q (l.word ++ r) ≡ Ok (l.value, r) → has F (next r) ≡ false → chain depth d f q F p (l.word ++ r) ≡ Ok (l.value, r)
  on r h k = rw h (links_none depth d f F p (length r) l.value r k)

  shape : ((false ≡ true) × (l.word ≡ [])) ⊎ ((false ≡ false) × Begins G l.word) → ((false ≡ true) × (l.word ≡ [])) ⊎ ((false ≡ false) × Begins (G ++ []) l.word)
  shape (inl h) = absurd (no_shape h.0)
  shape (inr h) = inr (refl, ((h.1).0, (h.1).1, (h.1).2, in_first G [] (sort (h.1).0) (h.1).3))
