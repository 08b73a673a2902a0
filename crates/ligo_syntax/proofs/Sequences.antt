-- The law of one and then the other.
use Rattle.std.proofs.Common.{◌≡◌, ℕ, max, ◌<◌, ◌≤◌, Bool, true, false, ◌&&◌, ◌||◌, [], ◌∷◌, ◌++◌, length, refl, sym, ap, subst, ◌∙◌, arith, inl, inr, ◌⊎◌, append_assoc, Ok, Err}
use Rattle.ligo_syntax.specs.declared.fault.Stop.{Stop}
use Rattle.ligo_syntax.specs.declared.fault.Stop.TheVariants as stop
use Rattle.ligo_syntax.specs.declared.fault.Expected.{Expected}
use Rattle.ligo_syntax.specs.Kinds.{Tokens, Kinds, sort, next, has, Ends}
use Rattle.ligo_syntax.specs.Rules.{Both, Onward}
use Rattle.ligo_syntax.specs.Readers.{Read, Reader, then_do, both, onward}
use Rattle.ligo_syntax.proofs.Sets.{apart, when, apart_has, ends_first, ends_second, in_first, in_second, not_both}
use Rattle.ligo_syntax.proofs.RuleLaws.{Same, May, Fill, Begins, Standing, Rules, Pair, Stays, Breaks, Sinks, Goes, Starts, Law, Least, same_filled, begins_next, then_inv, unwrap}

pub both_is : {A B : Type 0} (q : Reader A) (q' : Reader B) (ts : Tokens) (a : A) (mid : Tokens) (b : B) (rest : Tokens) → q ts ≡ Ok (a, mid) → q' mid ≡ Ok (b, rest) → both q q' ts ≡ Ok ((a, b), rest)
both_is q q' ts a mid b rest h h' = rw (h, h') refl

pub both_fails : {A B : Type 0} (q : Reader A) (q' : Reader B) (ts : Tokens) (e : Stop) → q ts ≡ Err e → both q q' ts ≡ Err e
both_fails q q' ts e h = rw h refl

pub both_fails_then : {A B : Type 0} (q : Reader A) (q' : Reader B) (ts : Tokens) (a : A) (mid : Tokens) (e : Stop) → q ts ≡ Ok (a, mid) → q' mid ≡ Err e → both q q' ts ≡ Err e
both_fails_then q q' ts a mid e h h' = rw (h, h') refl

pub when_is : (b : Bool) (xs : Kinds) (ts : Tokens) → b ≡ true → Ends (when b xs) ts → Ends xs ts
when_is true xs ts e h = h
when_is false xs ts e h = absurd cc

-- what stands behind the first part
behind_first : (Y Y' : Kinds) (N' : Bool) (mid u rest r : Tokens) → mid ≡ u ++ rest → Fill u ⊎ ((u ≡ []) × (N' ≡ true)) → May (Y' ++ when N' Y) rest r → May Y mid (u ++ r)
behind_first Y Y' N' mid u rest r w (inl f) m = inl (rw w (same_filled u rest r f))
behind_first Y Y' N' mid u rest r w (inr f) (inl s) = inl (rw (w, f.0) s)
behind_first Y Y' N' mid u rest r w (inr f) (inr s) = inr (rw (f.0) (when_is N' Y r (f.1) (ends_second Y' (when N' Y) r s)))

drop_shape : (F : Kinds) (N : Bool) (u ts : Tokens) → Fill u ⊎ ((u ≡ []) × (N ≡ true) × (has F (next ts) ≡ false)) → Fill u ⊎ ((u ≡ []) × (N ≡ true))
drop_shape F N u ts (inl f) = inl f
drop_shape F N u ts (inr f) = inr (f.0, f.1)

pub filled_first : (u v : Tokens) → Fill u → Fill (u ++ v)
filled_first u v f = (f.0, f.1 ++ v, rw (f.2) refl)

pub filled_second : (u v : Tokens) → u ≡ [] → Fill v → Fill (u ++ v)
filled_second u v e f = rw e f

has_when : (F F' : Kinds) (N : Bool) (k : ℕ) → N ≡ true → has F k ≡ false → has F' k ≡ false → has (F ++ when N F') k ≡ false
has_when F F' true k e f g = not_both F F' k f g
has_when F F' false k e f g = absurd cc

has_unless : (F F' : Kinds) (N : Bool) (k : ℕ) → N ≡ false → has F k ≡ false → has (F ++ when N F') k ≡ false
has_unless F F' true k e f = absurd cc
has_unless F F' false k e f = not_both F [] k f refl

has_when_in : (F F' : Kinds) (N : Bool) (k : ℕ) → N ≡ true → has F' k ≡ true → has (F ++ when N F') k ≡ true
has_when_in F F' true k e h = in_second F F' k h
has_when_in F F' false k e h = absurd cc

pub both_true : (a b : Bool) → a ≡ true → b ≡ true → (a && b) ≡ true
both_true a b e f = rw (e, f) refl

pub first_false : (a b : Bool) → a ≡ false → (a && b) ≡ false
first_false a b e = rw e refl

pub second_false : (a b : Bool) → b ≡ false → (a && b) ≡ false
second_false true b e = e
second_false false b e = refl

pub begins_more : (F F' : Kinds) (m w : Tokens) → Begins F m → Begins (F ++ F') (m ++ w)
begins_more F F' m w b = (b.0, b.1 ++ w, rw (b.2) refl, in_first F F' (sort b.0) (b.3))

pub begins_when : (F F' : Kinds) (N : Bool) (m : Tokens) → N ≡ true → Begins F' m → Begins (F ++ when N F') m
begins_when F F' N m e b = (b.0, b.1, b.2, has_when_in F F' N (sort b.0) e (b.3))

pub from_empty : (ts u rest : Tokens) → ts ≡ u ++ rest → u ≡ [] → next ts ≡ next rest
from_empty ts u rest w e = rw (w, e) refl

pub or_false : (a b : Bool) → a ≡ false → (a || b) ≡ true → b ≡ true
or_false a b e h = ap (λ c. c || b) (sym e) ∙ h

abbrev pub both_pair : {A B : Type 0} → Pair A → Pair B → Pair (A × B)
both_pair w w' i = both (w i) (w' i)

onward_is : {A B : Type 0} (q : Reader A) (k : A → Reader B) (ts : Tokens) (a : A) (mid : Tokens) (b : B) (rest : Tokens) → q ts ≡ Ok (a, mid) → k a mid ≡ Ok (b, rest) → onward q k ts ≡ Ok ((a, b), rest)
onward_is q k ts a mid b rest h h' = rw (h, h') refl

onward_fails : {A B : Type 0} (q : Reader A) (k : A → Reader B) (ts : Tokens) (e : Stop) → q ts ≡ Err e → onward q k ts ≡ Err e
onward_fails q k ts e h = rw h refl

onward_fails_then : {A B : Type 0} (q : Reader A) (k : A → Reader B) (ts : Tokens) (a : A) (mid : Tokens) (e : Stop) → q ts ≡ Ok (a, mid) → k a mid ≡ Err e → onward q k ts ≡ Err e
onward_fails_then q k ts a mid e h h' = rw (h, h') refl

abbrev pub onward_pair : {A B : Type 0} → Pair A → (A → Pair B) → Pair (A × B)
onward_pair w w' i = onward (w i) (λ a. w' a i)

module _ {A B : Type 0} (S : Standing) (w : Pair A) (F : Kinds) (N : Bool) (Y : Kinds) (w' : A → Pair B) (F' : A → Kinds) (K : Kinds) (N' : Bool) (Y' : Kinds)
    (agree : (a : A) → when N (F' a) ≡ when N K) (least : (a : A) → Least (w' a true) (F' a) N' Y') (clear : (a : A) → (N' || apart (F' a) Y) ≡ true) where
  -- what ends the second also lets the first end
  clear_of_first : (a : A) (mid u m r : Tokens) → (rest : Tokens) → mid ≡ u ++ rest → Fill u ⊎ ((u ≡ []) × (N' ≡ false) × (has (F' a) (next mid) ≡ false) × Begins (F' a) m) → May Y mid (u ++ (m ++ r))
  clear_of_first a mid u m r rest is (inl f) = inl (rw is (same_filled u rest (m ++ r) f))
  clear_of_first a mid u m r rest is (inr f) = inr (rw (f.0) (apart_has (F' a) Y (next (m ++ r)) (or_false N' (apart (F' a) Y) (f.1) (clear a)) (begins_next (F' a) m r (f.3))))

  word_ends : (a : A) (word r : Tokens) → Ends (Y' ++ when N' Y) r → ((N' ≡ true) × (word ≡ [])) ⊎ ((N' ≡ false) × Begins (F' a) word) → Ends Y (word ++ r)
  word_ends a word r e (inl h) = rw (h.1) (when_is N' Y r (h.0) (ends_second Y' (when N' Y) r e))
  word_ends a word r e (inr h) = apart_has (F' a) Y (next (word ++ r)) (or_false N' (apart (F' a) Y) (h.0) (clear a)) (begins_next (F' a) word r (h.1))

  onward_stays : (ts : Tokens) (a : A) (mid : Tokens) (b : B) (rest : Tokens) → Stays w F N Y ts a mid → Stays (w' a) (F' a) N' Y' mid b rest →
      Stays (onward_pair w w') (F ++ when N (F' a)) (N && N') (Y' ++ when N' Y) ts (a, b) rest
  onward_stays ts a mid b rest s t = record {
    used = s.used ++ t.used;
    whole = s.whole ∙ ap (λ l. s.used ++ l) t.whole ∙ sym (append_assoc s.used t.used rest);
    again = λ i r m. ap (onward (w i) (λ c. w' c i)) (append_assoc s.used t.used r) ∙
        onward_is (w i) (λ c. w' c i) (s.used ++ (t.used ++ r)) a (t.used ++ r) b r (s.again i (t.used ++ r) (behind_first Y Y' N' mid t.used rest r t.whole (drop_shape (F' a) N' t.used mid t.shape) m)) (t.again i r (may_second rest r m));
    shape = shapes s.shape t.shape;
  } where
    may_second : (rest r : Tokens) → May (Y' ++ when N' Y) rest r → May Y' rest r
    may_second rest r (inl m) = inl m
    may_second rest r (inr m) = inr (ends_first Y' (when N' Y) r m)

    shapes : Fill s.used ⊎ ((s.used ≡ []) × (N ≡ true) × (has F (next ts) ≡ false)) → Fill t.used ⊎ ((t.used ≡ []) × (N' ≡ true) × (has (F' a) (next mid) ≡ false)) →
        Fill (s.used ++ t.used) ⊎ ((s.used ++ t.used ≡ []) × ((N && N') ≡ true) × (has (F ++ when N (F' a)) (next ts) ≡ false))
    shapes (inl f) g = inl (filled_first s.used t.used f)
    shapes (inr f) (inl g) = inl (filled_second s.used t.used (f.0) g)
    shapes (inr f) (inr g) = inr (rw (f.0, g.0) refl, both_true N N' (f.1) (g.1), has_when F (F' a) N (next ts) (f.1) (f.2) (ap (has (F' a)) (from_empty ts s.used mid s.whole (f.0)) ∙ g.2))

  onward_breaks_then : (ts : Tokens) (a : A) (mid : Tokens) (k : Expected) (n : ℕ) → Stays w F N Y ts a mid → Breaks S (w' a) (F' a) N' Y' mid k n →
      Breaks S (onward_pair w w') (F ++ when N (F' a)) (N && N') (Y' ++ when N' Y) ts k n
  onward_breaks_then ts a mid k n s t = record {
    used = s.used ++ t.used;
    rest = t.rest;
    whole = s.whole ∙ ap (λ l. s.used ++ l) t.whole ∙ sym (append_assoc s.used t.used t.rest);
    left = t.left;
    again = λ i r m. ap (onward (w i) (λ c. w' c i)) (append_assoc s.used t.used r) ∙
        onward_fails_then (w i) (λ c. w' c i) (s.used ++ (t.used ++ r)) a (t.used ++ r) _ (s.again i (t.used ++ r) (behind_same r m t.shape)) (t.again i r m);
    more = t.more;
    value = (a, t.value);
    ends = λ r m. ap (onward (w true) (λ c. w' c true)) (append_assoc s.used t.used (t.more ++ r)) ∙
        onward_is (w true) (λ c. w' c true) (s.used ++ (t.used ++ (t.more ++ r))) a (t.used ++ (t.more ++ r)) t.value r
        (s.again true (t.used ++ (t.more ++ r)) (clear_of_first a mid t.used t.more r t.rest t.whole t.shape)) (t.ends r (ends_first Y' (when N' Y) r m));
    stands = t.stands;
    shape = shapes s.shape t.shape;
  } where
    behind_same : (r : Tokens) → Same t.rest r → Fill t.used ⊎ ((t.used ≡ []) × (N' ≡ false) × (has (F' a) (next mid) ≡ false) × Begins (F' a) t.more) → May Y mid (t.used ++ r)
    behind_same r m (inl f) = inl (rw (t.whole) (same_filled t.used t.rest r f))
    behind_same r m (inr f) = inl (from_empty mid t.used t.rest t.whole (f.0) ∙ m ∙ rw (f.0) refl)

    shapes : Fill s.used ⊎ ((s.used ≡ []) × (N ≡ true) × (has F (next ts) ≡ false)) → Fill t.used ⊎ ((t.used ≡ []) × (N' ≡ false) × (has (F' a) (next mid) ≡ false) × Begins (F' a) t.more) →
        Fill (s.used ++ t.used) ⊎ ((s.used ++ t.used ≡ []) × ((N && N') ≡ false) × (has (F ++ when N (F' a)) (next ts) ≡ false) × Begins (F ++ when N (F' a)) t.more)
    shapes (inl f) g = inl (filled_first s.used t.used f)
    shapes (inr f) (inl g) = inl (filled_second s.used t.used (f.0) g)
    shapes (inr f) (inr g) = inr (
      rw (f.0, g.0) refl,
      second_false N N' (g.1),
      has_when F (F' a) N (next ts) (f.1) (f.2) (ap (has (F' a)) (from_empty ts s.used mid s.whole (f.0)) ∙ g.2),
      begins_when F (F' a) N t.more (f.1) (g.3),
    )

  onward_breaks : (ts : Tokens) (k : Expected) (n : ℕ) → (s : Breaks S w F N Y ts k n) → Breaks S (onward_pair w w') (F ++ when N (F' s.value)) (N && N') (Y' ++ when N' Y) ts k n
  onward_breaks ts k n s = record {
    used = s.used;
    rest = s.rest;
    whole = s.whole;
    left = s.left;
    again = λ i r m. onward_fails (w i) (λ c. w' c i) _ _ (s.again i r m);
    more = s.more ++ (least s.value).word;
    value = (s.value, (least s.value).value);
    ends = λ r m. ap (λ l. onward (w true) (λ c. w' c true) (s.used ++ l)) (append_assoc s.more (least s.value).word r) ∙
        onward_is (w true) (λ c. w' c true) (s.used ++ (s.more ++ ((least s.value).word ++ r))) s.value ((least s.value).word ++ r) (least s.value).value r (s.ends ((least s.value).word ++ r) (word_ends s.value (least s.value).word r m (least s.value).shape)) ((least s.value).reads r (ends_first Y' (when N' Y) r m));
    stands = λ r. subst (S k) (sym (append_assoc s.more (least s.value).word r)) (s.stands ((least s.value).word ++ r));
    shape = shapes s.shape;
  } where
    shapes : Fill s.used ⊎ ((s.used ≡ []) × (N ≡ false) × (has F (next ts) ≡ false) × Begins F s.more) →
        Fill s.used ⊎ ((s.used ≡ []) × ((N && N') ≡ false) × (has (F ++ when N (F' s.value)) (next ts) ≡ false) × Begins (F ++ when N (F' s.value)) (s.more ++ (least s.value).word))
    shapes (inl f) = inl f
    shapes (inr f) = inr (f.0, first_false N N' (f.1), has_unless F (F' s.value) N (next ts) (f.1) (f.2), begins_more F (when N (F' s.value)) s.more (least s.value).word (f.3))

  onward_sinks_then : (ts : Tokens) (a : A) (mid : Tokens) (n : ℕ) → Stays w F N Y ts a mid → Sinks (w' a) (F' a) Y' mid n → Sinks (onward_pair w w') (F ++ when N (F' a)) (Y' ++ when N' Y) ts n
  onward_sinks_then ts a mid n s t = record {
    used = s.used ++ t.used;
    token = t.token;
    after = t.after;
    whole = s.whole ∙ ap (λ l. s.used ++ l) t.whole ∙ sym (append_assoc s.used t.used (t.token ∷ t.after));
    left = t.left;
    again = λ r m. ap (onward (w false) (λ c. w' c false)) (append_assoc s.used t.used r) ∙
        onward_fails_then (w false) (λ c. w' c false) (s.used ++ (t.used ++ r)) a (t.used ++ r) _ (s.again false (t.used ++ r) (inl (alike r m t.shape))) (t.again r m);
    more = t.more;
    value = (a, t.value);
    ends = λ r m. ap (onward (w true) (λ c. w' c true)) (append_assoc s.used t.used (t.token ∷ (t.more ++ r))) ∙
        onward_is (w true) (λ c. w' c true) (s.used ++ (t.used ++ (t.token ∷ (t.more ++ r)))) a (t.used ++ (t.token ∷ (t.more ++ r))) t.value r
        (s.again true (t.used ++ (t.token ∷ (t.more ++ r))) (inl (alike (t.token ∷ (t.more ++ r)) refl t.shape))) (t.ends r (ends_first Y' (when N' Y) r m));
    shape = shapes s.shape t.shape;
  } where
    alike : (r : Tokens) → Same (t.token ∷ t.after) r → Fill t.used ⊎ ((t.used ≡ []) × (has (F' a) (sort t.token) ≡ true)) → Same mid (t.used ++ r)
    alike r m (inl f) = rw (t.whole) (same_filled t.used (t.token ∷ t.after) r f)
    alike r m (inr f) = from_empty mid t.used (t.token ∷ t.after) t.whole (f.0) ∙ m ∙ rw (f.0) refl

    shapes : Fill s.used ⊎ ((s.used ≡ []) × (N ≡ true) × (has F (next ts) ≡ false)) → Fill t.used ⊎ ((t.used ≡ []) × (has (F' a) (sort t.token) ≡ true)) →
        Fill (s.used ++ t.used) ⊎ ((s.used ++ t.used ≡ []) × (has (F ++ when N (F' a)) (sort t.token) ≡ true))
    shapes (inl f) g = inl (filled_first s.used t.used f)
    shapes (inr f) (inl g) = inl (filled_second s.used t.used (f.0) g)
    shapes (inr f) (inr g) = inr (rw (f.0, g.0) refl, has_when_in F (F' a) N (sort t.token) (f.1) (g.1))

  onward_sinks : (ts : Tokens) (n : ℕ) → (s : Sinks w F Y ts n) → Sinks (onward_pair w w') (F ++ when N (F' s.value)) (Y' ++ when N' Y) ts n
  onward_sinks ts n s = record {
    used = s.used;
    token = s.token;
    after = s.after;
    whole = s.whole;
    left = s.left;
    again = λ r m. onward_fails (w false) (λ c. w' c false) _ _ (s.again r m);
    more = s.more ++ (least s.value).word;
    value = (s.value, (least s.value).value);
    ends = λ r m. ap (λ l. onward (w true) (λ c. w' c true) (s.used ++ (s.token ∷ l))) (append_assoc s.more (least s.value).word r) ∙
        onward_is (w true) (λ c. w' c true) (s.used ++ (s.token ∷ (s.more ++ ((least s.value).word ++ r)))) s.value ((least s.value).word ++ r) (least s.value).value r (s.ends ((least s.value).word ++ r) (word_ends s.value (least s.value).word r m (least s.value).shape)) ((least s.value).reads r (ends_first Y' (when N' Y) r m));
    shape = shapes s.shape;
  } where
    shapes : Fill s.used ⊎ ((s.used ≡ []) × (has F (sort s.token) ≡ true)) → Fill s.used ⊎ ((s.used ≡ []) × (has (F ++ when N (F' s.value)) (sort s.token) ≡ true))
    shapes (inl f) = inl f
    shapes (inr f) = inr (f.0, in_first F (when N (F' s.value)) (sort s.token) (f.1))

  onward_then : (ts : Tokens) (a : A) (mid : Tokens) (z : Read B) → Stays w F N Y ts a mid → Goes S (w' a) (F' a) N' Y' mid z →
      Goes S (onward_pair w w') (F ++ when N (F' a)) (N && N') (Y' ++ when N' Y) ts (then_do z (λ b end. Ok ((a, b), end)))
  onward_then ts a mid (Ok z) s t = onward_stays ts a mid z.0 z.1 s t
  onward_then ts a mid (Err (stop.Unexpected k n)) s t = onward_breaks_then ts a mid k n s t
  onward_then ts a mid (Err (stop.TooDeep n)) s t = onward_sinks_then ts a mid n s t
  onward_then ts a mid (Err stop.NoMemory) s t = t

  pub onward_goes : (depth : A → ℕ) (d : ℕ) → ((a : A) → depth a ≤ d → (mid : Tokens) → Goes S (w' a) (F' a) N' Y' mid (w' a false mid)) →
      ((ts : Tokens) (a : A) (rest : Tokens) → w false ts ≡ Ok (a, rest) → depth a ≤ d) → (ts : Tokens) (x : Read A) → w false ts ≡ x → Goes S w F N Y ts x →
      Goes S (onward_pair w w') (F ++ when N K) (N && N') (Y' ++ when N' Y) ts (then_do x (λ a rest. then_do (w' a false rest) (λ b end. Ok ((a, b), end))))
  onward_goes depth d g within ts (Ok x) e s = subst (λ k. Goes S (onward_pair w w') (F ++ k) (N && N') (Y' ++ when N' Y) ts (then_do (w' x.0 false x.1) (λ b end. Ok ((x.0, b), end)))) (agree x.0) (onward_then ts x.0 x.1 (w' x.0 false x.1) s (g x.0 (within ts x.0 x.1 e) x.1))
  onward_goes depth d g within ts (Err (stop.Unexpected k n)) e s = subst (λ l. Breaks S (onward_pair w w') (F ++ l) (N && N') (Y' ++ when N' Y) ts k n) (agree s.value) (onward_breaks ts k n s)
  onward_goes depth d g within ts (Err (stop.TooDeep n)) e s = subst (λ l. Sinks (onward_pair w w') (F ++ l) (Y' ++ when N' Y) ts n) (agree s.value) (onward_sinks ts n s)
  onward_goes depth d g within ts (Err stop.NoMemory) e s = s

pub both_starts : (F F' : Kinds) (N N' : Bool) (ts mid rest : Tokens) → Starts F N ts mid → Starts F' N' mid rest → Starts (F ++ when N F') (N && N') ts rest
both_starts F F' N N' ts mid rest (inl s) (inl t) = inl (in_first F (when N F') (next ts) (s.0), omega (arith, s.1, t.1))
both_starts F F' N N' ts mid rest (inl s) (inr t) = inl (in_first F (when N F') (next ts) (s.0), subst (λ l. length l < length ts) (t.1) (s.1))
both_starts F F' N N' ts mid rest (inr s) (inl t) = inl (has_when_in F F' N (next ts) (s.0) (ap (λ l. has F' (next l)) (s.1) ∙ t.0), subst (λ l. length rest < length l) (sym (s.1)) (t.1))
both_starts F F' N N' ts mid rest (inr s) (inr t) = inr (both_true N N' (s.0) (t.0), s.1 ∙ t.1)

mid_ends : (F' X X' : Kinds) (N' : Bool) (mid rest : Tokens) → apart F' X ≡ true → Starts F' N' mid rest → Ends (X' ++ when N' X) rest → Ends X mid
mid_ends F' X X' N' mid rest c (inl s) e = apart_has F' X (next mid) c (s.0)
mid_ends F' X X' N' mid rest c (inr s) e = rw (s.1) (when_is N' X rest (s.0) (ends_second X' (when N' X) rest e))

-- a pair is as deep as its deeper part
abbrev pub deeper : {A B : Type 0} → (A → ℕ) → (B → ℕ) → A × B → ℕ
deeper f g p = max (f p.0) (g p.1)

-- what the second begins with may go by the tree of the first, where the first isn't empty
pub onward_law_by : {A B : Type 0} {S : Standing} {R : Rules A} {depth : A → ℕ} {d : ℕ} {w : Pair A} {F : Kinds} {N : Bool} {X Y : Kinds}
    {R' : A → Rules B} {depth' : B → ℕ} {w' : A → Pair B} {F' : A → Kinds} {N' : Bool} {X' Y' : Kinds} (K : Kinds) → ((a : A) → when N (F' a) ≡ when N K) →
    Law S R depth d w F N X Y → ((a : A) → depth a ≤ d → Law S (R' a) depth' d (w' a) (F' a) N' X' Y') → ((a : A) → Least (w' a true) (F' a) N' Y') → ((a : A) → apart (F' a) X ≡ true) → ((a : A) → (N' || apart (F' a) Y) ≡ true) →
    Law S (λ n. Onward (R n) (λ a. R' a n)) (deeper depth depth') d (onward_pair w w') (F ++ when N K) (N && N') (X' ++ when N' X) (Y' ++ when N' Y)
onward_law_by {A} {B} {S} {R} {depth} {d} {w} {F} {N} {X} {Y} {R'} {depth'} {w'} {F'} {N'} {X'} {Y'} K agree l l' least c c' = record {
  found = λ n ts b rest m h.
      let i = then_inv (w false ts) (λ a mid. then_do (w' a false mid) (λ b end. Ok ((a, b), end))) (b, rest) h in
      let j = then_inv (w' i.0.0 false i.0.1) (λ b end. Ok ((i.0.0, b), end)) (b, rest) (i.2) in
      let e : ((i.0.0, j.0.0), j.0.1) ≡ (b, rest) = unwrap ((i.0.0, j.0.0), j.0.1) (b, rest) (j.2) in
      let first = l.within ts i.0.0 i.0.1 i.1 in
      subst (λ (z : (A × B) × Tokens). Onward (R n) (λ a. R' a n) ts z.0 z.1) e (i.0.1, l.found n ts i.0.0 i.0.1 m i.1, (l' i.0.0 first).found n i.0.1 j.0.0 j.0.1 m j.1);
  within = λ ts b rest h.
      let i = then_inv (w false ts) (λ a mid. then_do (w' a false mid) (λ b end. Ok ((a, b), end))) (b, rest) h in
      let j = then_inv (w' i.0.0 false i.0.1) (λ b end. Ok ((i.0.0, b), end)) (b, rest) (i.2) in
      let e : ((i.0.0, j.0.0), j.0.1) ≡ (b, rest) = unwrap ((i.0.0, j.0.0), j.0.1) (b, rest) (j.2) in
      let first = l.within ts i.0.0 i.0.1 i.1 in
      let second = (l' i.0.0 first).within i.0.1 j.0.0 j.0.1 j.1 in
      subst (λ (z : (A × B) × Tokens). deeper depth depth' z.0 ≤ d) e (omega (arith, first, second));
  only = λ n ts b rest r deep m.
      let first : depth b.0 ≤ d = omega (arith, deep) in
      let second : depth' b.1 ≤ d = omega (arith, deep) in
      onward_is (w false) (λ a. w' a false) ts b.0 r.0 b.1 rest (l.only n ts b.0 r.0 (r.1) first (mid_ends (F' b.0) X X' N' r.0 rest (c b.0) ((l' b.0 first).starts n r.0 b.1 rest (r.2) second) m))
      ((l' b.0 first).only n r.0 b.1 rest (r.2) second (ends_first X' (when N' X) rest m));
  starts = λ n ts b rest r deep.
      let first : depth b.0 ≤ d = omega (arith, deep) in
      let second : depth' b.1 ≤ d = omega (arith, deep) in
      subst (λ k. Starts (F ++ k) (N && N') ts rest) (agree b.0) (both_starts F (F' b.0) N N' ts r.0 rest (l.starts n ts b.0 r.0 (r.1) first) ((l' b.0 first).starts n r.0 b.1 rest (r.2) second));
  goes = λ ts. onward_goes S w F N Y w' F' K N' Y' agree least c' depth d (λ a le mid. (l' a le).goes mid) l.within ts (w false ts) refl (l.goes ts);
}

pub onward_law : {A B : Type 0} {S : Standing} {R : Rules A} {depth : A → ℕ} {d : ℕ} {w : Pair A} {F : Kinds} {N : Bool} {X Y : Kinds}
    {R' : A → Rules B} {depth' : B → ℕ} {w' : A → Pair B} {F' : Kinds} {N' : Bool} {X' Y' : Kinds} →
    Law S R depth d w F N X Y → ((a : A) → depth a ≤ d → Law S (R' a) depth' d (w' a) F' N' X' Y') → ((a : A) → Least (w' a true) F' N' Y') → apart F' X ≡ true → (N' || apart F' Y) ≡ true →
    Law S (λ n. Onward (R n) (λ a. R' a n)) (deeper depth depth') d (onward_pair w w') (F ++ when N F') (N && N') (X' ++ when N' X) (Y' ++ when N' Y)
onward_law {F' = F'} l l' least c c' = onward_law_by F' (λ a. refl) l l' least (λ a. c) (λ a. c')

pub both_law : {A B : Type 0} {S : Standing} {R : Rules A} {depth : A → ℕ} {d : ℕ} {w : Pair A} {F : Kinds} {N : Bool} {X Y : Kinds}
    {R' : Rules B} {depth' : B → ℕ} {w' : Pair B} {F' : Kinds} {N' : Bool} {X' Y' : Kinds} →
    Law S R depth d w F N X Y → Law S R' depth' d w' F' N' X' Y' → Least (w' true) F' N' Y' → apart F' X ≡ true → (N' || apart F' Y) ≡ true →
    Law S (λ n. Both (R n) (R' n)) (deeper depth depth') d (both_pair w w') (F ++ when N F') (N && N') (X' ++ when N' X) (Y' ++ when N' Y)
both_law {A} {B} {S} {R} {depth} {d} {w} {F} {N} {X} {Y} {R'} {depth'} {w'} l l' least c c' =
    let law = onward_law {R' = λ a. R'} {w' = λ a. w'} l (λ a le. l') (λ a. least) c c' in
    record { found = law.found; within = law.within; only = law.only; starts = law.starts; goes = law.goes }

abbrev pub both_least : {A B : Type 0} {q : Reader A} {F : Kinds} {N : Bool} {Y : Kinds} {q' : Reader B} {F' : Kinds} {N' : Bool} {Y' : Kinds} →
    Least q F N Y → Least q' F' N' Y' → (N' || apart F' Y) ≡ true → Least (both q q') (F ++ when N F') (N && N') (Y' ++ when N' Y)
both_least {A} {B} {q} {F} {N} {Y} {q'} {F'} {N'} {Y'} l l' c = record {
  word = l.word ++ l'.word;
  value = (l.value, l'.value);
  reads = λ r m. ap (both q q') (append_assoc l.word l'.word r) ∙ both_is q q' (l.word ++ (l'.word ++ r)) l.value (l'.word ++ r) l'.value r (l.reads (l'.word ++ r) (ends_of r m l'.shape)) (l'.reads r (ends_first Y' (when N' Y) r m));
  shape = shapes l.shape l'.shape;
} where
  ends_of : (r : Tokens) → Ends (Y' ++ when N' Y) r → ((N' ≡ true) × (l'.word ≡ [])) ⊎ ((N' ≡ false) × Begins F' l'.word) → Ends Y (l'.word ++ r)
  ends_of r e (inl h) = rw (h.1) (when_is N' Y r (h.0) (ends_second Y' (when N' Y) r e))
  ends_of r e (inr h) = apart_has F' Y (next (l'.word ++ r)) (or_false N' (apart F' Y) (h.0) c) (begins_next F' l'.word r (h.1))

  shapes : ((N ≡ true) × (l.word ≡ [])) ⊎ ((N ≡ false) × Begins F l.word) → ((N' ≡ true) × (l'.word ≡ [])) ⊎ ((N' ≡ false) × Begins F' l'.word) →
      (((N && N') ≡ true) × (l.word ++ l'.word ≡ [])) ⊎ (((N && N') ≡ false) × Begins (F ++ when N F') (l.word ++ l'.word))
  shapes (inl f) (inl g) = inl (both_true N N' (f.0) (g.0), rw (f.1, g.1) refl)
  shapes (inl f) (inr g) = inr (second_false N N' (g.0), subst (Begins (F ++ when N F')) (ap (λ l. l ++ l'.word) (sym (f.1))) (begins_when F F' N l'.word (f.0) (g.1)))
  shapes (inr f) g = inr (first_false N N' (f.0), begins_more F (when N F') l.word l'.word (f.1))
