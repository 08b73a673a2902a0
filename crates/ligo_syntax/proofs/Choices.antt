-- The laws of choices.
use Rattle.std.proofs.Common.{◌≡◌, ℕ, ◌≤◌, Bool, true, false, [], ◌∷◌, ◌++◌, refl, sym, ap, subst, ◌∙◌, inl, inr, ◌⊎◌, Ok, Err}
use Rattle.ligo_tokens.specs.declared.token.Token.{Token}
use Rattle.ligo_syntax.specs.declared.fault.Stop.TheVariants as stop
use Rattle.ligo_syntax.specs.Kinds.{Tokens, Kinds, sort, next, has, Ends}
use Rattle.ligo_syntax.specs.Rules.{Either, Rather}
use Rattle.ligo_syntax.specs.Readers.{Read, Reader, either}
use Rattle.ligo_syntax.proofs.Sets.{apart, when, by_case, apart_has, ends_first, ends_second, in_first, in_second, not_both}
use Rattle.ligo_syntax.proofs.RuleLaws.{Same, May, Fill, Begins, Standing, Rules, Pair, Stays, Breaks, Goes, Starts, Law, Least, same_filled, begins_next}
use Rattle.ligo_syntax.proofs.Sequences.{from_empty, when_is}

-- ---- either

pub apart_back : (F F' : Kinds) (k : ℕ) → apart F F' ≡ true → has F' k ≡ true → has F k ≡ false
apart_back F F' k c h = by_case (has F k) (λ is. let e : has F' k ≡ false = apart_has F F' k c is in absurd cc) (λ is. is)

pub choose_first : {A : Type 0} (F : Kinds) (p q : Reader A) (ts : Tokens) → has F (next ts) ≡ true → either F p q ts ≡ p ts
choose_first F p q ts h = rw h refl

pub choose_second : {A : Type 0} (F : Kinds) (p q : Reader A) (ts : Tokens) → has F (next ts) ≡ false → either F p q ts ≡ q ts
choose_second F p q ts h = rw h refl

abbrev pub either_pair : {A : Type 0} → Kinds → Pair A → Pair A → Pair A
either_pair F w w' i = either F (w i) (w' i)

module _ {A : Type 0} (S : Standing) (w : Pair A) (F : Kinds) (Y : Kinds) (w' : Pair A) (F' : Kinds) (N' : Bool) (Y' : Kinds) (c : apart F F' ≡ true) where
  alike : (ts u rest r : Tokens) → ts ≡ u ++ rest → Fill u → next (u ++ r) ≡ next ts
  alike ts u rest r is f = same_filled u r rest f ∙ rw is refl

  -- what stands in place of what is too deep begins alike
  alike_token : (ts u : Tokens) (t : Token) (after r : Tokens) → ts ≡ u ++ (t ∷ after) → Same (t ∷ after) r → {P : Type 0} → Fill u ⊎ ((u ≡ []) × P) → next (u ++ r) ≡ next ts
  alike_token ts u t after r is m (inl f) = alike ts u (t ∷ after) r is f
  alike_token ts u t after r is m (inr f) = rw (f.0) (sym m) ∙ sym (from_empty ts u (t ∷ after) is (f.0))

  first_goes : (ts : Tokens) (x : Read A) → has F (next ts) ≡ true → Goes S w F false Y ts x → Goes S (either_pair F w w') (F ++ F') N' (Y ++ (Y' ++ when N' F)) ts x
  first_goes ts (Ok x) h s = elim s.shape as (λ _. Stays (either_pair F w w') (F ++ F') N' (Y ++ (Y' ++ when N' F)) ts x.0 x.1) [
    | inl f ↦ record { used = s.used; whole = s.whole; again = λ i r m. choose_first F (w i) (w' i) (s.used ++ r) (ap (has F) (alike ts s.used x.1 r s.whole f) ∙ h) ∙ s.again i r (may x.1 r m); shape = inl f }
    | inr f ↦ absurd cc
  ] where
    may : (rest r : Tokens) → May (Y ++ (Y' ++ when N' F)) rest r → May Y rest r
    may rest r (inl m) = inl m
    may rest r (inr m) = inr (ends_first Y (Y' ++ when N' F) r m)
  first_goes ts (Err stop.NoMemory) h s = s
  first_goes ts (Err (stop.Unexpected k n)) h s = elim s.shape as (λ _. Breaks S (either_pair F w w') (F ++ F') N' (Y ++ (Y' ++ when N' F)) ts k n) [
    | inl f ↦ record {
      used = s.used;
      rest = s.rest;
      whole = s.whole;
      left = s.left;
      again = λ i r m. choose_first F (w i) (w' i) (s.used ++ r) (ap (has F) (alike ts s.used s.rest r s.whole f) ∙ h) ∙ s.again i r m;
      more = s.more;
      value = s.value;
      ends = λ r m. choose_first F (w true) (w' true) (s.used ++ (s.more ++ r)) (ap (has F) (alike ts s.used s.rest (s.more ++ r) s.whole f) ∙ h) ∙ s.ends r (ends_first Y (Y' ++ when N' F) r m);
      stands = s.stands;
      shape = inl f;
    }
    | inr f ↦ let g : has F (next ts) ≡ false = f.2 in absurd cc
  ]
  first_goes ts (Err (stop.TooDeep n)) h s = record {
    used = s.used;
    token = s.token;
    after = s.after;
    whole = s.whole;
    left = s.left;
    again = λ r m. choose_first F (w false) (w' false) (s.used ++ r) (ap (has F) (alike_token ts s.used s.token s.after r s.whole m s.shape) ∙ h) ∙ s.again r m;
    more = s.more;
    value = s.value;
    ends = λ r m. choose_first F (w true) (w' true) (s.used ++ (s.token ∷ (s.more ++ r))) (ap (has F) (alike_token ts s.used s.token s.after (s.token ∷ (s.more ++ r)) s.whole refl s.shape) ∙ h) ∙
        s.ends r (ends_first Y (Y' ++ when N' F) r m);
    shape = shapes s.shape;
  } where
    shapes : Fill s.used ⊎ ((s.used ≡ []) × (has F (sort s.token) ≡ true)) → Fill s.used ⊎ ((s.used ≡ []) × (has (F ++ F') (sort s.token) ≡ true))
    shapes (inl f) = inl f
    shapes (inr f) = inr (f.0, in_first F F' (sort s.token) (f.1))

  second_goes : (ts : Tokens) (x : Read A) → has F (next ts) ≡ false → Goes S w' F' N' Y' ts x → Goes S (either_pair F w w') (F ++ F') N' (Y ++ (Y' ++ when N' F)) ts x
  second_goes ts (Ok x) h s = record {
    used = s.used;
    whole = s.whole;
    again = λ i r m. choose_second F (w i) (w' i) (s.used ++ r) (turns r m s.shape) ∙ s.again i r (may x.1 r m);
    shape = shapes s.shape;
  } where
    may : (rest r : Tokens) → May (Y ++ (Y' ++ when N' F)) rest r → May Y' rest r
    may rest r (inl m) = inl m
    may rest r (inr m) = inr (ends_first Y' (when N' F) r (ends_second Y (Y' ++ when N' F) r m))

    turns : (r : Tokens) → May (Y ++ (Y' ++ when N' F)) x.1 r → Fill s.used ⊎ ((s.used ≡ []) × (N' ≡ true) × (has F' (next ts) ≡ false)) → has F (next (s.used ++ r)) ≡ false
    turns r m (inl f) = ap (has F) (alike ts s.used x.1 r s.whole f) ∙ h
    turns r (inl m) (inr f) = rw (f.0) (ap (has F) (sym m ∙ sym (from_empty ts s.used x.1 s.whole (f.0))) ∙ h)
    turns r (inr m) (inr f) = rw (f.0) (when_is N' F r (f.1) (ends_second Y' (when N' F) r (ends_second Y (Y' ++ when N' F) r m)))

    shapes : Fill s.used ⊎ ((s.used ≡ []) × (N' ≡ true) × (has F' (next ts) ≡ false)) → Fill s.used ⊎ ((s.used ≡ []) × (N' ≡ true) × (has (F ++ F') (next ts) ≡ false))
    shapes (inl f) = inl f
    shapes (inr f) = inr (f.0, f.1, not_both F F' (next ts) h (f.2))
  second_goes ts (Err stop.NoMemory) h s = s
  second_goes ts (Err (stop.Unexpected k n)) h s = record {
    used = s.used;
    rest = s.rest;
    whole = s.whole;
    left = s.left;
    again = λ i r m. choose_second F (w i) (w' i) (s.used ++ r) (turns r m s.shape) ∙ s.again i r m;
    more = s.more;
    value = s.value;
    ends = λ r m. choose_second F (w true) (w' true) (s.used ++ (s.more ++ r)) (turns_more r s.shape) ∙ s.ends r (ends_first Y' (when N' F) r (ends_second Y (Y' ++ when N' F) r m));
    stands = s.stands;
    shape = shapes s.shape;
  } where
    turns : (r : Tokens) → Same s.rest r → Fill s.used ⊎ ((s.used ≡ []) × (N' ≡ false) × (has F' (next ts) ≡ false) × Begins F' s.more) → has F (next (s.used ++ r)) ≡ false
    turns r m (inl f) = ap (has F) (alike ts s.used s.rest r s.whole f) ∙ h
    turns r m (inr f) = rw (f.0) (ap (has F) (sym m ∙ sym (from_empty ts s.used s.rest s.whole (f.0))) ∙ h)

    turns_more : (r : Tokens) → Fill s.used ⊎ ((s.used ≡ []) × (N' ≡ false) × (has F' (next ts) ≡ false) × Begins F' s.more) → has F (next (s.used ++ (s.more ++ r))) ≡ false
    turns_more r (inl f) = ap (has F) (alike ts s.used s.rest (s.more ++ r) s.whole f) ∙ h
    turns_more r (inr f) = rw (f.0) (apart_back F F' (next (s.more ++ r)) c (begins_next F' s.more r (f.3)))

    shapes : Fill s.used ⊎ ((s.used ≡ []) × (N' ≡ false) × (has F' (next ts) ≡ false) × Begins F' s.more) →
        Fill s.used ⊎ ((s.used ≡ []) × (N' ≡ false) × (has (F ++ F') (next ts) ≡ false) × Begins (F ++ F') s.more)
    shapes (inl f) = inl f
    shapes (inr f) = inr (f.0, f.1, not_both F F' (next ts) h (f.2), ((f.3).0, (f.3).1, (f.3).2, in_second F F' (sort (f.3).0) ((f.3).3)))
  second_goes ts (Err (stop.TooDeep n)) h s = record {
    used = s.used;
    token = s.token;
    after = s.after;
    whole = s.whole;
    left = s.left;
    again = λ r m. choose_second F (w false) (w' false) (s.used ++ r) (ap (has F) (alike_token ts s.used s.token s.after r s.whole m s.shape) ∙ h) ∙ s.again r m;
    more = s.more;
    value = s.value;
    ends = λ r m. choose_second F (w true) (w' true) (s.used ++ (s.token ∷ (s.more ++ r))) (ap (has F) (alike_token ts s.used s.token s.after (s.token ∷ (s.more ++ r)) s.whole refl s.shape) ∙ h) ∙
        s.ends r (ends_first Y' (when N' F) r (ends_second Y (Y' ++ when N' F) r m));
    shape = shapes s.shape;
  } where
    shapes : Fill s.used ⊎ ((s.used ≡ []) × (has F' (sort s.token) ≡ true)) → Fill s.used ⊎ ((s.used ≡ []) × (has (F ++ F') (sort s.token) ≡ true))
    shapes (inl f) = inl f
    shapes (inr f) = inr (f.0, in_second F F' (sort s.token) (f.1))

either_starts : (F F' : Kinds) (N' : Bool) (ts rest : Tokens) → Starts F false ts rest → Starts (F ++ F') N' ts rest
either_starts F F' N' ts rest (inl s) = inl (in_first F F' (next ts) (s.0), s.1)
either_starts F F' N' ts rest (inr s) = absurd cc

other_starts : (F F' : Kinds) (N' : Bool) (ts rest : Tokens) → Starts F' N' ts rest → Starts (F ++ F') N' ts rest
other_starts F F' N' ts rest (inl s) = inl (in_second F F' (next ts) (s.0), s.1)
other_starts F F' N' ts rest (inr s) = inr s

begins_first : (F : Kinds) (ts rest : Tokens) → Starts F false ts rest → has F (next ts) ≡ true
begins_first F ts rest (inl s) = s.0
begins_first F ts rest (inr s) = absurd cc

turned_away : (F F' X' : Kinds) (N' : Bool) (ts rest : Tokens) → apart F F' ≡ true → Starts F' N' ts rest → Ends (X' ++ when N' F) rest → has F (next ts) ≡ false
turned_away F F' X' N' ts rest c (inl s) m = apart_back F F' (next ts) c (s.0)
turned_away F F' X' N' ts rest c (inr s) m = rw (s.1) (when_is N' F rest (s.0) (ends_second X' (when N' F) rest m))

pub either_law : {A : Type 0} {S : Standing} {R : Rules A} {depth : A → ℕ} {d : ℕ} {w : Pair A} {F : Kinds} {X Y : Kinds} {R' : Rules A} {w' : Pair A} {F' : Kinds} {N' : Bool} {X' Y' : Kinds} →
    Law S R depth d w F false X Y → Law S R' depth d w' F' N' X' Y' → apart F F' ≡ true →
    Law S (λ n. Either (R n) (R' n)) depth d (either_pair F w w') (F ++ F') N' (X ++ (X' ++ when N' F)) (Y ++ (Y' ++ when N' F))
either_law {A} {S} {R} {depth} {d} {w} {F} {X} {Y} {R'} {w'} {F'} {N'} {X'} {Y'} l l' c = record {
  found = λ n ts a rest m h. by_case (has F (next ts))
      (λ is. inl (l.found n ts a rest m (sym (choose_first F (w false) (w' false) ts is) ∙ h)))
      (λ is. inr (l'.found n ts a rest m (sym (choose_second F (w false) (w' false) ts is) ∙ h)));
  within = λ ts a rest h. by_case (has F (next ts))
      (λ is. l.within ts a rest (sym (choose_first F (w false) (w' false) ts is) ∙ h))
      (λ is. l'.within ts a rest (sym (choose_second F (w false) (w' false) ts is) ∙ h));
  only = λ n ts a rest r deep m. only_at n ts a rest deep m r;
  starts = λ n ts a rest r deep. starts_at n ts a rest deep r;
  goes = λ ts. by_case (has F (next ts))
      (λ is. subst (Goes S (either_pair F w w') (F ++ F') N' (Y ++ (Y' ++ when N' F)) ts) (sym (choose_first F (w false) (w' false) ts is)) (first_goes S w F Y w' F' N' Y' c ts (w false ts) is (l.goes ts)))
      (λ is. subst (Goes S (either_pair F w w') (F ++ F') N' (Y ++ (Y' ++ when N' F)) ts) (sym (choose_second F (w false) (w' false) ts is)) (second_goes S w F Y w' F' N' Y' c ts (w' false ts) is (l'.goes ts)));
} where
  only_at : (n : ℕ) (ts : Tokens) (a : A) (rest : Tokens) → depth a ≤ d → Ends (X ++ (X' ++ when N' F)) rest → Either (R n) (R' n) ts a rest → either F (w false) (w' false) ts ≡ Ok (a, rest)
  only_at n ts a rest deep m (inl r) = choose_first F (w false) (w' false) ts (begins_first F ts rest (l.starts n ts a rest r deep)) ∙ l.only n ts a rest r deep (ends_first X (X' ++ when N' F) rest m)
  only_at n ts a rest deep m (inr r) = choose_second F (w false) (w' false) ts (turned_away F F' X' N' ts rest c (l'.starts n ts a rest r deep) (ends_second X (X' ++ when N' F) rest m)) ∙
      l'.only n ts a rest r deep (ends_first X' (when N' F) rest (ends_second X (X' ++ when N' F) rest m))

  starts_at : (n : ℕ) (ts : Tokens) (a : A) (rest : Tokens) → depth a ≤ d → Either (R n) (R' n) ts a rest → Starts (F ++ F') N' ts rest
  starts_at n ts a rest deep (inl r) = either_starts F F' N' ts rest (l.starts n ts a rest r deep)
  starts_at n ts a rest deep (inr r) = other_starts F F' N' ts rest (l'.starts n ts a rest r deep)

-- where the first comes first, nothing that it begins with extends the second
pub rather_law : {A : Type 0} {S : Standing} {R : Rules A} {depth : A → ℕ} {d : ℕ} {w : Pair A} {F : Kinds} {X Y : Kinds} {R' : Rules A} {w' : Pair A} {F' : Kinds} {N' : Bool} {X' Y' : Kinds} →
    Law S R depth d w F false X Y → Law S R' depth d w' F' N' X' Y' → apart F F' ≡ true →
    Law S (λ n. Rather F (R n) (R' n)) depth d (either_pair F w w') (F ++ F') N' (X ++ X') (Y ++ (Y' ++ when N' F))
rather_law {A} {S} {R} {depth} {d} {w} {F} {X} {Y} {R'} {w'} {F'} {N'} {X'} {Y'} l l' c = record {
  found = λ n ts a rest m h. by_case (has F (next ts))
      (λ is. inl (l.found n ts a rest m (sym (choose_first F (w false) (w' false) ts is) ∙ h)))
      (λ is. inr (l'.found n ts a rest m (sym (choose_second F (w false) (w' false) ts is) ∙ h), is));
  within = (either_law l l' c).within;
  only = λ n ts a rest r deep m. only_at n ts a rest deep m r;
  starts = λ n ts a rest r deep. starts_at n ts a rest deep r;
  goes = (either_law l l' c).goes;
} where
  only_at : (n : ℕ) (ts : Tokens) (a : A) (rest : Tokens) → depth a ≤ d → Ends (X ++ X') rest → Rather F (R n) (R' n) ts a rest → either F (w false) (w' false) ts ≡ Ok (a, rest)
  only_at n ts a rest deep m (inl r) = choose_first F (w false) (w' false) ts (begins_first F ts rest (l.starts n ts a rest r deep)) ∙ l.only n ts a rest r deep (ends_first X X' rest m)
  only_at n ts a rest deep m (inr r) = choose_second F (w false) (w' false) ts (r.1) ∙ l'.only n ts a rest (r.0) deep (ends_second X X' rest m)

  starts_at : (n : ℕ) (ts : Tokens) (a : A) (rest : Tokens) → depth a ≤ d → Rather F (R n) (R' n) ts a rest → Starts (F ++ F') N' ts rest
  starts_at n ts a rest deep (inl r) = either_starts F F' N' ts rest (l.starts n ts a rest r deep)
  starts_at n ts a rest deep (inr r) = other_starts F F' N' ts rest (l'.starts n ts a rest (r.0) deep)

abbrev pub either_least : {A : Type 0} (q : Reader A) (F : Kinds) (Y : Kinds) {q' : Reader A} {F' : Kinds} {N' : Bool} {Y' : Kinds} →
    Least q' F' N' Y' → apart F F' ≡ true → Least (either F q q') (F ++ F') N' (Y ++ (Y' ++ when N' F))
either_least {A} q F Y {q'} {F'} {N'} {Y'} l c = record {
  word = l.word;
  value = l.value;
  reads = λ r m. turn r (ends_second Y (Y' ++ when N' F) r m) l.shape ∙ l.reads r (ends_first Y' (when N' F) r (ends_second Y (Y' ++ when N' F) r m));
  shape = shapes l.shape;
} where
  other : (ts : Tokens) → has F (next ts) ≡ false → either F q q' ts ≡ q' ts
  other ts h = rw h refl

  turn : (r : Tokens) → Ends (Y' ++ when N' F) r → ((N' ≡ true) × (l.word ≡ [])) ⊎ ((N' ≡ false) × Begins F' l.word) → either F q q' (l.word ++ r) ≡ q' (l.word ++ r)
  turn r m (inl h) = other (l.word ++ r) (rw (h.1) (when_is N' F r (h.0) (ends_second Y' (when N' F) r m)))
  turn r m (inr h) = other (l.word ++ r) (apart_back F F' (next (l.word ++ r)) c (begins_next F' l.word r (h.1)))

  shapes : ((N' ≡ true) × (l.word ≡ [])) ⊎ ((N' ≡ false) × Begins F' l.word) → ((N' ≡ true) × (l.word ≡ [])) ⊎ ((N' ≡ false) × Begins (F ++ F') l.word)
  shapes (inl h) = inl h
  shapes (inr h) = inr (h.0, ((h.1).0, (h.1).1, (h.1).2, in_second F F' (sort (h.1).0) ((h.1).3)))

pub no_shape : false ≡ true → ⊥
no_shape h = cc

-- where the first is what is read
abbrev pub either_first : {A : Type 0} {q : Reader A} {F : Kinds} {Y : Kinds} (q' : Reader A) (F' : Kinds) (N' : Bool) (Y' : Kinds) →
    Least q F false Y → Least (either F q q') (F ++ F') false (Y ++ (Y' ++ when N' F))
either_first {A} {q} {F} {Y} q' F' N' Y' l = record {
  word = l.word;
  value = l.value;
  reads = λ r m. turn r l.shape ∙ l.reads r (ends_first Y (Y' ++ when N' F) r m);
  shape = shapes l.shape;
} where
  first : (ts : Tokens) → has F (next ts) ≡ true → either F q q' ts ≡ q ts
  first ts h = rw h refl

  turn : (r : Tokens) → ((false ≡ true) × (l.word ≡ [])) ⊎ ((false ≡ false) × Begins F l.word) → either F q q' (l.word ++ r) ≡ q (l.word ++ r)
  turn r (inl h) = absurd (no_shape h.0)
  turn r (inr h) = first (l.word ++ r) (begins_next F l.word r (h.1))

  shapes : ((false ≡ true) × (l.word ≡ [])) ⊎ ((false ≡ false) × Begins F l.word) → ((false ≡ true) × (l.word ≡ [])) ⊎ ((false ≡ false) × Begins (F ++ F') l.word)
  shapes (inl h) = inl h
  shapes (inr h) = inr (h.0, ((h.1).0, (h.1).1, (h.1).2, in_first F F' (sort (h.1).0) ((h.1).3)))
