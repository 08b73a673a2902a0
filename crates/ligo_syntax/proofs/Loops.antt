-- The law of repetition.
use Rattle.std.proofs.Common.{◌≡◌, ℕ, zero, suc, ◌+◌, ◌-◌, ◌<◌, ◌≤◌, Bool, true, false, List, [], ◌∷◌, ◌++◌, length, refl, sym, ap, subst, ◌∙◌, arith, inl, inr, ◌⊎◌, append_assoc, length-append, Ok, Err}
use Rattle.ligo_syntax.specs.declared.fault.Stop.{Stop}
use Rattle.ligo_syntax.specs.declared.fault.Stop.TheVariants as stop
use Rattle.ligo_syntax.specs.declared.fault.Expected.{Expected}
use Rattle.ligo_syntax.specs.Kinds.{Tokens, Kinds, sort, next, has, Ends}
use Rattle.ligo_syntax.specs.Depth.{deepest}
use Rattle.ligo_syntax.specs.Rules.{Rule, Repeated, AsMany}
use Rattle.ligo_syntax.specs.Readers.{Read, Reader, then_do, loop, repeated}
use Rattle.ligo_syntax.proofs.Sets.{apart, by_case, apart_has, ends_first, ends_second}
use Rattle.ligo_syntax.proofs.RuleLaws.{Same, May, Fill, Begins, Standing, Rules, Pair, Stays, Breaks, Sinks, Goes, Starts, Law, Least, same_filled, then_inv, unwrap}
use Rattle.ligo_syntax.proofs.Sequences.{filled_first, from_empty}

pub loop_stops : {A : Type 0} (q : Reader A) (F : Kinds) (m : ℕ) (r : Tokens) → has F (next r) ≡ false → loop F q m r ≡ Ok ([], r)
loop_stops q F zero r h = refl
loop_stops q F (suc m) r h = rw h refl

pub loop_is : {A : Type 0} (q : Reader A) (F : Kinds) (m : ℕ) (ts : Tokens) (a : A) (mid : Tokens) (more : List A) (rest : Tokens) → has F (next ts) ≡ true → q ts ≡ Ok (a, mid) →
    loop F q m mid ≡ Ok (more, rest) → loop F q (suc m) ts ≡ Ok (a ∷ more, rest)
loop_is q F m ts a mid more rest h i j = rw (h, i, j) refl

loop_fails : {A : Type 0} (q : Reader A) (F : Kinds) (m : ℕ) (ts : Tokens) (e : Stop) → has F (next ts) ≡ true → q ts ≡ Err e → loop F q (suc m) ts ≡ Err e
loop_fails q F m ts e h i = rw (h, i) refl

loop_fails_then : {A : Type 0} (q : Reader A) (F : Kinds) (m : ℕ) (ts : Tokens) (a : A) (mid : Tokens) (e : Stop) → has F (next ts) ≡ true → q ts ≡ Ok (a, mid) →
    loop F q m mid ≡ Err e → loop F q (suc m) ts ≡ Err e
loop_fails_then q F m ts a mid e h i j = rw (h, i, j) refl

pub no_front : (F : Kinds) (ts : Tokens) → has F 0 ≡ false → length ts ≤ 0 → has F (next ts) ≡ false
no_front F [] z le = z
no_front F (t ∷ ts) z le = absurd (omega arith)

-- with some more turns than tokens
abbrev pub loops : {A : Type 0} → Kinds → Reader A → ℕ → Reader (List A)
loops F q e ts = loop F q (length ts + e) ts

abbrev pub loops_pair : {A : Type 0} → Kinds → Pair A → ℕ → Pair (List A)
loops_pair F w e i = loops F (w i) e

pub goes_alike : {A : Type 0} (S : Standing) (w w' : Pair A) (F : Kinds) (N : Bool) (Y : Kinds) (ts : Tokens) (x : Read A) → ((i : Bool) (l : Tokens) → w i l ≡ w' i l) → Goes S w F N Y ts x → Goes S w' F N Y ts x
goes_alike S w w' F N Y ts (Ok x) h s = record { used = s.used; whole = s.whole; again = λ i r m. sym (h i _) ∙ s.again i r m; shape = s.shape }
goes_alike S w w' F N Y ts (Err (stop.Unexpected k n)) h s = record {
  used = s.used;
  rest = s.rest;
  whole = s.whole;
  left = s.left;
  again = λ i r m. sym (h i _) ∙ s.again i r m;
  more = s.more;
  value = s.value;
  ends = λ r m. sym (h true _) ∙ s.ends r m;
  stands = s.stands;
  shape = s.shape;
}
goes_alike S w w' F N Y ts (Err (stop.TooDeep n)) h s = record {
  used = s.used;
  token = s.token;
  after = s.after;
  whole = s.whole;
  left = s.left;
  again = λ r m. sym (h false _) ∙ s.again r m;
  more = s.more;
  value = s.value;
  ends = λ r m. sym (h true _) ∙ s.ends r m;
  shape = s.shape;
}
goes_alike S w w' F N Y ts (Err stop.NoMemory) h s = s

pub filled_length : (u : Tokens) → Fill u → 1 ≤ length u
filled_length u f = rw (f.2) (omega arith)

pub shorter : (ts u mid : Tokens) → ts ≡ u ++ mid → Fill u → length mid < length ts
shorter ts u mid w f =
    let a = filled_length u f in
    let b = length-append u mid in
    rw w (omega (arith, a, b))

pub more_turns : (u w : Tokens) (e : ℕ) → Fill u → length (u ++ w) + e ≡ suc (length w + (length u - 1 + e))
more_turns u w e f =
    let a = filled_length u f in
    let b = length-append u w in
    omega (arith, a, b)

pub some_turns : (F : Kinds) (ts : Tokens) (e : ℕ) → has F 0 ≡ false → has F (next ts) ≡ true → length ts + e ≡ suc (length ts - 1 + e)
some_turns F [] e z h = absurd cc
some_turns F (t ∷ ts) e z h = omega arith

pub is_filled : (F : Kinds) (N : Bool) (P : Type 0) (u ts : Tokens) → has F (next ts) ≡ true → Fill u ⊎ ((u ≡ []) × (N ≡ false) × (has F (next ts) ≡ false) × P) → Fill u
is_filled F N P u ts h (inl f) = f
is_filled F N P u ts h (inr f) = let g : has F (next ts) ≡ false = f.2 in absurd cc

pub is_filled_found : (F : Kinds) (u ts : Tokens) → Fill u ⊎ ((u ≡ []) × (false ≡ true) × (has F (next ts) ≡ false)) → Fill u
is_filled_found F u ts (inl f) = f
is_filled_found F u ts (inr f) = absurd cc

module _ {A : Type 0} (S : Standing) (w : Pair A) (F : Kinds) (Y : Kinds) (z : has F 0 ≡ false) where
  alike : (ts u rest r : Tokens) → ts ≡ u ++ rest → Fill u → next (u ++ r) ≡ next ts
  alike ts u rest r is f = same_filled u r rest f ∙ rw is refl

  stop_goes : (e : ℕ) (ts : Tokens) → has F (next ts) ≡ false → Stays (loops_pair F w e) F true (F ++ Y) ts [] ts
  stop_goes e ts h = record { used = []; whole = refl; again = λ i r m. loop_stops (w i) F (length r + e) r (stops r m); shape = inr (refl, refl, h) } where
    stops : (r : Tokens) → May (F ++ Y) ts r → has F (next r) ≡ false
    stops r (inl m) = ap (has F) (sym m) ∙ h
    stops r (inr m) = ends_first F Y r m

  may_first : (mid u rest r : Tokens) → mid ≡ u ++ rest → Fill u ⊎ ((u ≡ []) × (true ≡ true) × (has F (next mid) ≡ false)) → May (F ++ Y) rest r → May Y mid (u ++ r)
  may_first mid u rest r is (inl f) m = inl (rw is (same_filled u rest r f))
  may_first mid u rest r is (inr f) (inl m) = inl (rw (is, f.0) m)
  may_first mid u rest r is (inr f) (inr m) = inr (rw (f.0) (ends_second F Y r m))

  item_stays : (e : ℕ) (ts : Tokens) (a : A) (mid : Tokens) (more : List A) (rest : Tokens) → has F (next ts) ≡ true → (s : Stays w F false Y ts a mid) → Fill s.used →
      Stays (loops_pair F w (length s.used - 1 + e)) F true (F ++ Y) mid more rest → Stays (loops_pair F w e) F true (F ++ Y) ts (a ∷ more) rest
  item_stays e ts a mid more rest h s f t = record {
    used = s.used ++ t.used;
    whole = s.whole ∙ ap (λ l. s.used ++ l) t.whole ∙ sym (append_assoc s.used t.used rest);
    again = λ i r m. ap (loops F (w i) e) (append_assoc s.used t.used r) ∙ ap (λ n. loop F (w i) n (s.used ++ (t.used ++ r))) (more_turns s.used (t.used ++ r) e f) ∙
        loop_is (w i) F (length (t.used ++ r) + (length s.used - 1 + e)) (s.used ++ (t.used ++ r)) a (t.used ++ r) more r (ap (has F) (alike ts s.used mid (t.used ++ r) s.whole f) ∙ h)
        (s.again i (t.used ++ r) (may_first mid t.used rest r t.whole t.shape m)) (t.again i r m);
    shape = inl (filled_first s.used t.used f);
  }

  item_breaks : (e : ℕ) (ts : Tokens) (a : A) (mid : Tokens) (k : Expected) (n : ℕ) → has F (next ts) ≡ true → (s : Stays w F false Y ts a mid) → Fill s.used →
      Breaks S (loops_pair F w (length s.used - 1 + e)) F true (F ++ Y) mid k n → Breaks S (loops_pair F w e) F true (F ++ Y) ts k n
  item_breaks e ts a mid k n h s f t = record {
    used = s.used ++ t.used;
    rest = t.rest;
    whole = s.whole ∙ ap (λ l. s.used ++ l) t.whole ∙ sym (append_assoc s.used t.used t.rest);
    left = t.left;
    again = λ i r m. ap (loops F (w i) e) (append_assoc s.used t.used r) ∙ ap (λ n. loop F (w i) n (s.used ++ (t.used ++ r))) (more_turns s.used (t.used ++ r) e f) ∙
        loop_fails_then (w i) F (length (t.used ++ r) + (length s.used - 1 + e)) (s.used ++ (t.used ++ r)) a (t.used ++ r) _ (ap (has F) (alike ts s.used mid (t.used ++ r) s.whole f) ∙ h)
        (s.again i (t.used ++ r) (inl (front r))) (t.again i r m);
    more = t.more;
    value = a ∷ t.value;
    ends = λ r m. ap (loops F (w true) e) (append_assoc s.used t.used (t.more ++ r)) ∙ ap (λ n. loop F (w true) n (s.used ++ (t.used ++ (t.more ++ r)))) (more_turns s.used (t.used ++ (t.more ++ r)) e f) ∙
        loop_is (w true) F (length (t.used ++ (t.more ++ r)) + (length s.used - 1 + e)) (s.used ++ (t.used ++ (t.more ++ r))) a (t.used ++ (t.more ++ r)) t.value r
        (ap (has F) (alike ts s.used mid (t.used ++ (t.more ++ r)) s.whole f) ∙ h) (s.again true (t.used ++ (t.more ++ r)) (inl (front (t.more ++ r)))) (t.ends r m);
    stands = t.stands;
    shape = inl (filled_first s.used t.used f);
  } where
    filled : Fill t.used ⊎ ((t.used ≡ []) × (true ≡ false) × (has F (next mid) ≡ false) × Begins F t.more) → Fill t.used
    filled (inl g) = g
    filled (inr g) = absurd cc

    front : (r : Tokens) → next mid ≡ next (t.used ++ r)
    front r = sym (alike mid t.used t.rest r t.whole (filled t.shape))

  item_sinks : (e : ℕ) (ts : Tokens) (a : A) (mid : Tokens) (n : ℕ) → has F (next ts) ≡ true → (s : Stays w F false Y ts a mid) → Fill s.used →
      Sinks (loops_pair F w (length s.used - 1 + e)) F (F ++ Y) mid n → Sinks (loops_pair F w e) F (F ++ Y) ts n
  item_sinks e ts a mid n h s f t = record {
    used = s.used ++ t.used;
    token = t.token;
    after = t.after;
    whole = s.whole ∙ ap (λ l. s.used ++ l) t.whole ∙ sym (append_assoc s.used t.used (t.token ∷ t.after));
    left = t.left;
    again = λ r m. ap (loops F (w false) e) (append_assoc s.used t.used r) ∙ ap (λ n. loop F (w false) n (s.used ++ (t.used ++ r))) (more_turns s.used (t.used ++ r) e f) ∙
        loop_fails_then (w false) F (length (t.used ++ r) + (length s.used - 1 + e)) (s.used ++ (t.used ++ r)) a (t.used ++ r) _ (ap (has F) (alike ts s.used mid (t.used ++ r) s.whole f) ∙ h)
        (s.again false (t.used ++ r) (inl (front r m t.shape))) (t.again r m);
    more = t.more;
    value = a ∷ t.value;
    ends = λ r m. ap (loops F (w true) e) (append_assoc s.used t.used (t.token ∷ (t.more ++ r))) ∙ ap (λ n. loop F (w true) n (s.used ++ (t.used ++ (t.token ∷ (t.more ++ r))))) (more_turns s.used (t.used ++ (t.token ∷ (t.more ++ r))) e f) ∙
        loop_is (w true) F (length (t.used ++ (t.token ∷ (t.more ++ r))) + (length s.used - 1 + e)) (s.used ++ (t.used ++ (t.token ∷ (t.more ++ r)))) a (t.used ++ (t.token ∷ (t.more ++ r))) t.value r
        (ap (has F) (alike ts s.used mid (t.used ++ (t.token ∷ (t.more ++ r))) s.whole f) ∙ h) (s.again true (t.used ++ (t.token ∷ (t.more ++ r))) (inl (front (t.token ∷ (t.more ++ r)) refl t.shape))) (t.ends r m);
    shape = inl (filled_first s.used t.used f);
  } where
    front : (r : Tokens) → Same (t.token ∷ t.after) r → Fill t.used ⊎ ((t.used ≡ []) × (has F (sort t.token) ≡ true)) → Same mid (t.used ++ r)
    front r m (inl g) = rw (t.whole) (same_filled t.used (t.token ∷ t.after) r g)
    front r m (inr g) = from_empty mid t.used (t.token ∷ t.after) t.whole (g.0) ∙ m ∙ rw (g.0) refl

  item_then : (e : ℕ) (ts : Tokens) (a : A) (mid : Tokens) (y : Read (List A)) → has F (next ts) ≡ true → (s : Stays w F false Y ts a mid) → Fill s.used →
      Goes S (loops_pair F w (length s.used - 1 + e)) F true (F ++ Y) mid y → Goes S (loops_pair F w e) F true (F ++ Y) ts (then_do y (λ rest end. Ok (a ∷ rest, end)))
  item_then e ts a mid (Ok y) h s f t = item_stays e ts a mid y.0 y.1 h s f t
  item_then e ts a mid (Err (stop.Unexpected k n)) h s f t = item_breaks e ts a mid k n h s f t
  item_then e ts a mid (Err (stop.TooDeep n)) h s f t = item_sinks e ts a mid n h s f t
  item_then e ts a mid (Err stop.NoMemory) h s f t = t

  first_sinks : (e : ℕ) (ts : Tokens) (n : ℕ) → has F (next ts) ≡ true → Sinks w F Y ts n → Sinks (loops_pair F w e) F (F ++ Y) ts n
  first_sinks e ts n h s = record {
    used = s.used;
    token = s.token;
    after = s.after;
    whole = s.whole;
    left = s.left;
    again = λ r m. ap (λ n. loop F (w false) n (s.used ++ r)) (some_turns F (s.used ++ r) e z (front r m)) ∙ loop_fails (w false) F (length (s.used ++ r) - 1 + e) (s.used ++ r) _ (front r m) (s.again r m);
    more = s.more;
    value = s.value ∷ [];
    ends = λ r m. ap (λ n. loop F (w true) n (s.used ++ (s.token ∷ (s.more ++ r)))) (some_turns F (s.used ++ (s.token ∷ (s.more ++ r))) e z (front (s.token ∷ (s.more ++ r)) refl)) ∙
        loop_is (w true) F (length (s.used ++ (s.token ∷ (s.more ++ r))) - 1 + e) (s.used ++ (s.token ∷ (s.more ++ r))) s.value r [] r (front (s.token ∷ (s.more ++ r)) refl)
        (s.ends r (ends_second F Y r m)) (loop_stops (w true) F _ r (ends_first F Y r m));
    shape = s.shape;
  } where
    same : (r : Tokens) → Same (s.token ∷ s.after) r → Fill s.used ⊎ ((s.used ≡ []) × (has F (sort s.token) ≡ true)) → next (s.used ++ r) ≡ next ts
    same r m (inl g) = alike ts s.used (s.token ∷ s.after) r s.whole g
    same r m (inr g) = rw (g.0) (sym m) ∙ sym (from_empty ts s.used (s.token ∷ s.after) s.whole (g.0))

    front : (r : Tokens) → Same (s.token ∷ s.after) r → has F (next (s.used ++ r)) ≡ true
    front r m = ap (has F) (same r m s.shape) ∙ h

  item_goes : (e : ℕ) (ts : Tokens) (x : Read A) (rest_of : Tokens → Read (List A)) → has F (next ts) ≡ true → Goes S w F false Y ts x →
      ((mid : Tokens) → length mid < length ts → (e : ℕ) → Goes S (loops_pair F w e) F true (F ++ Y) mid (rest_of mid)) →
      Goes S (loops_pair F w e) F true (F ++ Y) ts (then_do x (λ a after. then_do (rest_of after) (λ rest end. Ok (a ∷ rest, end))))
  item_goes e ts (Ok x) rest_of h s g =
      let f = is_filled_found F s.used ts s.shape in
      item_then e ts x.0 x.1 (rest_of x.1) h s f (g x.1 (shorter ts s.used x.1 s.whole f) (length s.used - 1 + e))
  item_goes e ts (Err (stop.Unexpected k n)) rest_of h s g =
      let f = is_filled F false (Begins F s.more) s.used ts h s.shape in record {
        used = s.used;
        rest = s.rest;
        whole = s.whole;
        left = s.left;
        again = λ i r m. ap (λ n. loop F (w i) n (s.used ++ r)) (more_turns s.used r e f) ∙ loop_fails (w i) F (length r + (length s.used - 1 + e)) (s.used ++ r) _ (ap (has F) (alike ts s.used s.rest r s.whole f) ∙ h) (s.again i r m);
        more = s.more;
        value = s.value ∷ [];
        ends = λ r m. ap (λ n. loop F (w true) n (s.used ++ (s.more ++ r))) (more_turns s.used (s.more ++ r) e f) ∙
            loop_is (w true) F (length (s.more ++ r) + (length s.used - 1 + e)) (s.used ++ (s.more ++ r)) s.value r [] r (ap (has F) (alike ts s.used s.rest (s.more ++ r) s.whole f) ∙ h)
            (s.ends r (ends_second F Y r m)) (loop_stops (w true) F _ r (ends_first F Y r m));
        stands = s.stands;
        shape = inl f;
      }
  item_goes e ts (Err (stop.TooDeep n)) rest_of h s g = first_sinks e ts n h s
  item_goes e ts (Err stop.NoMemory) rest_of h s g = s

  loop_goes : ((ts : Tokens) → Goes S w F false Y ts (w false ts)) → (n : ℕ) (ts : Tokens) → length ts ≤ n → (e : ℕ) → Goes S (loops_pair F w e) F true (F ++ Y) ts (loop F (w false) n ts)
  loop_goes g zero ts le e = stop_goes e ts (no_front F ts z le)
  loop_goes g (suc n) ts le e = by_case (has F (next ts))
      (λ is. subst (Goes S (loops_pair F w e) F true (F ++ Y) ts) (turns is) (item_goes e ts (w false ts) (loop F (w false) n) is (g ts) (λ mid lt. loop_goes g n mid (omega (arith, lt, le)))))
      (λ is. subst (Goes S (loops_pair F w e) F true (F ++ Y) ts) (sym (loop_stops (w false) F (suc n) ts is)) (stop_goes e ts is)) where
        turns : has F (next ts) ≡ true → then_do (w false ts) (λ a after. then_do (loop F (w false) n after) (λ rest end. Ok (a ∷ rest, end))) ≡ loop F (w false) (suc n) ts
        turns is = rw is refl

-- ---- what is found, and what is read

turns_of : {A : Type 0} (p : Reader A) (F : Kinds) (n : ℕ) (ts : Tokens) → has F (next ts) ≡ true → then_do (p ts) (λ a after. then_do (loop F p n after) (λ rest end. Ok (a ∷ rest, end))) ≡ loop F p (suc n) ts
turns_of p F n ts is = rw is refl

-- what holds of an empty list, and of one more item, holds of what a loop reads
loop_holds : {A : Type 0} (p : Reader A) (F : Kinds) (Q : Tokens → List A → Tokens → Type 0) → ((ts : Tokens) → Q ts [] ts) →
    ((ts : Tokens) (a : A) (mid : Tokens) (more : List A) (rest : Tokens) → p ts ≡ Ok (a, mid) → Q mid more rest → Q ts (a ∷ more) rest) →
    (n : ℕ) (ts : Tokens) (all : List A) (rest : Tokens) → loop F p n ts ≡ Ok (all, rest) → Q ts all rest
loop_holds {A} p F Q none some n ts all rest h = holds n ts all rest h where
  here : (ts : Tokens) (all : List A) (rest : Tokens) → Path (Read (List A)) (Ok ([], ts)) (Ok (all, rest)) → Q ts all rest
  here ts all rest h = subst (λ (y : List A × Tokens). Q ts y.0 y.1) (unwrap ([], ts) (all, rest) h) (none ts)

  more : (n : ℕ) (ts : Tokens) (all : List A) (rest : Tokens) → ((ts : Tokens) (all : List A) (rest : Tokens) → loop F p n ts ≡ Ok (all, rest) → Q ts all rest) →
      then_do (p ts) (λ a after. then_do (loop F p n after) (λ rest end. Ok (a ∷ rest, end))) ≡ Ok (all, rest) → Q ts all rest
  more n ts all rest ih h =
      let i = then_inv (p ts) (λ a after. then_do (loop F p n after) (λ rest end. Ok (a ∷ rest, end))) (all, rest) h in
      let j = then_inv (loop F p n i.0.1) (λ rest end. Ok (i.0.0 ∷ rest, end)) (all, rest) (i.2) in
      subst (λ (y : List A × Tokens). Q ts y.0 y.1) (unwrap (i.0.0 ∷ j.0.0, j.0.1) (all, rest) (j.2)) (some ts i.0.0 i.0.1 j.0.0 j.0.1 (i.1) (ih i.0.1 j.0.0 j.0.1 (j.1)))

  holds : (n : ℕ) (ts : Tokens) (all : List A) (rest : Tokens) → loop F p n ts ≡ Ok (all, rest) → Q ts all rest
  holds zero ts all rest h = here ts all rest h
  holds (suc n) ts all rest h = by_case (has F (next ts)) (λ is. more n ts all rest (holds n) (turns_of p F n ts is ∙ h)) (λ is. here ts all rest (sym (loop_stops p F (suc n) ts is) ∙ h))

loop_found : {A : Type 0} (R : Rule A) (p : Reader A) (F : Kinds) → ((ts : Tokens) (a : A) (rest : Tokens) → p ts ≡ Ok (a, rest) → R ts a rest) →
    (n : ℕ) (ts : Tokens) (all : List A) (rest : Tokens) → loop F p n ts ≡ Ok (all, rest) → Repeated R ts all rest
loop_found R p F g = loop_holds p F (Repeated R) (λ ts. refl) (λ ts a mid more rest h t. (mid, g ts a mid h, t))

loop_within : {A : Type 0} (p : Reader A) (F : Kinds) (depth : A → ℕ) (d : ℕ) → ((ts : Tokens) (a : A) (rest : Tokens) → p ts ≡ Ok (a, rest) → depth a ≤ d) →
    (n : ℕ) (ts : Tokens) (all : List A) (rest : Tokens) → loop F p n ts ≡ Ok (all, rest) → deepest depth all ≤ d
loop_within p F depth d g = loop_holds p F (λ ts all rest. deepest depth all ≤ d) (λ ts. omega arith) (λ ts a mid more rest h t. let one = g ts a mid h in omega (arith, one, t))

-- the loop ends where none of its kinds stands
loop_ended : {A : Type 0} (S : Standing) (w : Pair A) (F : Kinds) (Y : Kinds) → has F 0 ≡ false → ((ts : Tokens) → Goes S w F false Y ts (w false ts)) →
    (n : ℕ) (ts : Tokens) (all : List A) (rest : Tokens) → length ts ≤ n → loop F (w false) n ts ≡ Ok (all, rest) → Ends F rest
loop_ended {A} S w F Y z g n ts all rest le h = ended n ts all rest le h where
  p : Reader A
  p = w false

  here : (ts : Tokens) (all : List A) (rest : Tokens) → has F (next ts) ≡ false → Path (Read (List A)) (Ok ([], ts)) (Ok (all, rest)) → Ends F rest
  here ts all rest f h = subst (λ (y : List A × Tokens). Ends F y.1) (unwrap ([], ts) (all, rest) h) f

  less : (ts : Tokens) (x : Read A) (y : A × Tokens) → x ≡ Ok y → Goes S w F false Y ts x → length y.1 < length ts
  less ts (Ok x) y e s = subst (λ (v : A × Tokens). length v.1 < length ts) (unwrap x y e) (shorter ts s.used x.1 s.whole (is_filled_found F s.used ts s.shape))
  less ts (Err x) y e s = absurd cc

  more : (n : ℕ) (ts : Tokens) (all : List A) (rest : Tokens) → ((ts : Tokens) (all : List A) (rest : Tokens) → length ts ≤ n → loop F (w false) n ts ≡ Ok (all, rest) → Ends F rest) → length ts ≤ suc n →
      then_do (w false ts) (λ a after. then_do (loop F (w false) n after) (λ rest end. Ok (a ∷ rest, end))) ≡ Ok (all, rest) → Ends F rest
  more n ts all rest ih le h =
      let i = then_inv (w false ts) (λ a after. then_do (loop F (w false) n after) (λ rest end. Ok (a ∷ rest, end))) (all, rest) h in
      let j = then_inv (loop F (w false) n i.0.1) (λ rest end. Ok (i.0.0 ∷ rest, end)) (all, rest) (i.2) in
      let lt = less ts (w false ts) (i.0) (i.1) (g ts) in
      subst (λ (y : List A × Tokens). Ends F y.1) (unwrap (i.0.0 ∷ j.0.0, j.0.1) (all, rest) (j.2)) (ih i.0.1 j.0.0 j.0.1 (omega (arith, lt, le)) (j.1))

  ended : (n : ℕ) (ts : Tokens) (all : List A) (rest : Tokens) → length ts ≤ n → loop F (w false) n ts ≡ Ok (all, rest) → Ends F rest
  ended zero ts all rest le h = here ts all rest (no_front F ts z le) h
  ended (suc n) ts all rest le h = by_case (has F (next ts)) (λ is. more n ts all rest (ended n) le (turns_of (w false) F n ts is ∙ h)) (λ is. here ts all rest is (sym (loop_stops (w false) F (suc n) ts is) ∙ h))

pub first_begins : (F : Kinds) (ts rest : Tokens) → Starts F false ts rest → (has F (next ts) ≡ true) × (length rest < length ts)
first_begins F ts rest (inl s) = s
first_begins F ts rest (inr s) = absurd cc

pub mid_ends : {A : Type 0} (R : Rule A) (F X : Kinds) (depth : A → ℕ) (d : ℕ) → ((ts : Tokens) (a : A) (rest : Tokens) → R ts a rest → depth a ≤ d → Starts F false ts rest) → apart F X ≡ true →
    (mid : Tokens) (more : List A) (rest : Tokens) → Repeated R mid more rest → deepest depth more ≤ d → Ends X rest → Ends X mid
mid_ends R F X depth d s c mid [] rest r deep m = rw r m
mid_ends R F X depth d s c mid (a ∷ more) rest r deep m = apart_has F X (next mid) c (first_begins F mid (r.0) (s mid a (r.0) (r.1) (omega (arith, deep)))).0

loop_only : {A : Type 0} (R : Rule A) (p : Reader A) (F X : Kinds) (depth : A → ℕ) (d : ℕ) → ((ts : Tokens) (a : A) (rest : Tokens) → R ts a rest → depth a ≤ d → Starts F false ts rest) →
    ((ts : Tokens) (a : A) (rest : Tokens) → R ts a rest → depth a ≤ d → Ends X rest → p ts ≡ Ok (a, rest)) → apart F X ≡ true →
    (n : ℕ) (ts : Tokens) (all : List A) (rest : Tokens) → length ts ≤ n → Repeated R ts all rest → deepest depth all ≤ d → Ends F rest → Ends X rest → loop F p n ts ≡ Ok (all, rest)
loop_only R p F X depth d s o c n ts [] rest le r deep f m = rw r (loop_stops p F n rest f)
loop_only R p F X depth d s o c zero ts (a ∷ more) rest le r deep f m = let b = first_begins F ts (r.0) (s ts a (r.0) (r.1) (omega (arith, deep))) in absurd (omega (arith, b.1, le))
loop_only R p F X depth d s o c (suc n) ts (a ∷ more) rest le r deep f m =
    let b = first_begins F ts (r.0) (s ts a (r.0) (r.1) (omega (arith, deep))) in
    loop_is p F n ts a (r.0) more rest (b.0) (o ts a (r.0) (r.1) (omega (arith, deep)) (mid_ends R F X depth d s c (r.0) more rest (r.2) (omega (arith, deep)) m))
    (loop_only R p F X depth d s o c n (r.0) more rest (omega (arith, b.1, le)) (r.2) (omega (arith, deep)) f m)

pub repeated_starts : {A : Type 0} (R : Rule A) (F : Kinds) (depth : A → ℕ) (d : ℕ) → ((ts : Tokens) (a : A) (rest : Tokens) → R ts a rest → depth a ≤ d → Starts F false ts rest) →
    (ts : Tokens) (all : List A) (rest : Tokens) → Repeated R ts all rest → deepest depth all ≤ d → Starts F true ts rest
repeated_starts R F depth d s ts [] rest r deep = inr (refl, r)
repeated_starts R F depth d s ts (a ∷ more) rest r deep =
    let b = first_begins F ts (r.0) (s ts a (r.0) (r.1) (omega (arith, deep))) in
    inl (b.0, further (r.0) rest (b.1) (repeated_starts R F depth d s (r.0) more rest (r.2) (omega (arith, deep)))) where
      further : (mid rest : Tokens) → length mid < length ts → Starts F true mid rest → length rest < length ts
      further mid rest lt (inl t) = omega (arith, lt, t.1)
      further mid rest lt (inr t) = subst (λ l. length l < length ts) (t.1) lt

abbrev pub repeated_pair : {A : Type 0} → Kinds → Pair A → Pair (List A)
repeated_pair F w i = repeated F (w i)

repeated_goes : {A : Type 0} (S : Standing) (w : Pair A) (F : Kinds) (Y : Kinds) → has F 0 ≡ false → ((ts : Tokens) → Goes S w F false Y ts (w false ts)) → (ts : Tokens) →
    Goes S (repeated_pair F w) F true (F ++ Y) ts (repeated F (w false) ts)
repeated_goes S w F Y z g ts = goes_alike S (loops_pair F w 0) (repeated_pair F w) F true (F ++ Y) ts (repeated F (w false) ts)
    (λ i l. let e : length l + 0 ≡ length l = omega arith in ap (λ n. loop F (w i) n l) e) (loop_goes S w F Y z g (length ts) ts (omega arith) 0)

pub repeated_law : {A : Type 0} {S : Standing} {R : Rules A} {depth : A → ℕ} {d : ℕ} {w : Pair A} {F : Kinds} {X Y : Kinds} → Law S R depth d w F false X Y → has F 0 ≡ false → apart F X ≡ true →
    Law S (λ n. Repeated (R n)) (deepest depth) d (repeated_pair F w) F true (F ++ X) (F ++ Y)
repeated_law {A} {S} {R} {depth} {d} {w} {F} {X} {Y} l z c = record {
  found = λ n ts all rest m. loop_found (R n) (w false) F (λ ts a rest. l.found n ts a rest m) (length ts) ts all rest;
  within = λ ts all rest. loop_within (w false) F depth d l.within (length ts) ts all rest;
  only = λ n ts all rest r deep m. loop_only (R n) (w false) F X depth d (l.starts n) (l.only n) c (length ts) ts all rest (omega arith) r deep (ends_first F X rest m) (ends_second F X rest m);
  starts = λ n. repeated_starts (R n) F depth d (l.starts n);
  goes = repeated_goes S w F Y z l.goes;
}

pub as_many_law : {A : Type 0} {S : Standing} {R : Rules A} {depth : A → ℕ} {d : ℕ} {w : Pair A} {F : Kinds} {X Y : Kinds} → Law S R depth d w F false X Y → has F 0 ≡ false → apart F X ≡ true →
    Law S (λ n. AsMany F (R n)) (deepest depth) d (repeated_pair F w) F true X (F ++ Y)
as_many_law {A} {S} {R} {depth} {d} {w} {F} {X} {Y} l z c = record {
  found = λ n ts all rest m h. (loop_found (R n) (w false) F (λ ts a rest. l.found n ts a rest m) (length ts) ts all rest h, loop_ended S w F Y z l.goes (length ts) ts all rest (omega arith) h);
  within = λ ts all rest. loop_within (w false) F depth d l.within (length ts) ts all rest;
  only = λ n ts all rest r deep m. loop_only (R n) (w false) F X depth d (l.starts n) (l.only n) c (length ts) ts all rest (omega arith) (r.0) deep (r.1) m;
  starts = λ n ts all rest r deep. repeated_starts (R n) F depth d (l.starts n) ts all rest (r.0) deep;
  goes = repeated_goes S w F Y z l.goes;
}

abbrev pub repeated_least : {A : Type 0} (q : Reader A) (F : Kinds) (Y : Kinds) → Least (repeated F q) F true (F ++ Y)
repeated_least q F Y = record { word = []; value = []; reads = λ r m. loop_stops q F (length r) r (ends_first F Y r m); shape = inl (refl, refl) }
