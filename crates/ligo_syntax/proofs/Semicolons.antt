-- The law of what follows the first of a list with `;` between its items and maybe one behind them.
use Rattle.std.proofs.Common.{◌≡◌, ℕ, zero, suc, ◌+◌, ◌-◌, ◌<◌, ◌≤◌, Bool, true, false, List, [], ◌∷◌, ◌++◌, length, refl, sym, ap, subst, ◌∙◌, arith, inl, inr, ◌⊎◌, append_assoc, Option, Some, None, Ok, Err}
use Rattle.ligo_tokens.specs.declared.token.Token.{Token}
use Rattle.ligo_tokens.specs.declared.token.Kind.TheVariants as kind
use Rattle.ligo_syntax.specs.declared.fault.Stop.{Stop}
use Rattle.ligo_syntax.specs.declared.fault.Stop.TheVariants as stop
use Rattle.ligo_syntax.specs.declared.fault.Expected.{Expected}
use Rattle.ligo_syntax.specs.Kinds.{Tokens, Kinds, sort, next, has, Ends}
use Rattle.ligo_syntax.specs.Depth.{deepest}
use Rattle.ligo_syntax.specs.Rules.{Rule, OneOf, Made, Both, Repeated, Key, Optional, Listed}
use Rattle.ligo_syntax.specs.Readers.{Read, Reader, then_do}
use Rattle.ligo_syntax.specs.Phrases.{semicolons, more_of, listed}
use Rattle.ligo_syntax.proofs.Sets.{apart, by_case, apart_has, ends_first, ends_second}
use Rattle.ligo_syntax.proofs.RuleLaws.{Same, May, Fill, Begins, Standing, Rules, Pair, Stays, Breaks, Sinks, Goes, Starts, Law, Least, same_filled, then_inv, unwrap, made_least}
use Rattle.ligo_syntax.proofs.Sequences.{from_empty, deeper, both_pair, both_law, both_least}
use Rattle.ligo_syntax.proofs.Moves.{refit_made}
use Rattle.ligo_syntax.proofs.Loops.{more_turns, shorter, is_filled, is_filled_found, first_begins, goes_alike}

abbrev pub mark_kinds : Kinds
mark_kinds = kind.Semicolon ∷ []

-- { ";" one } [";"]
abbrev pub MoreOf : {A : Type 0} → Rule A → Rule (List A)
MoreOf {A} R = Made (λ (p : List A × Option Token). p.0) (Both (Repeated (Key kind.Semicolon R)) (Optional (OneOf (kind.Semicolon ∷ []))))

pub semis_none : {A : Type 0} (q : Reader A) (F : Kinds) (n : ℕ) (ts : Tokens) → has mark_kinds (next ts) ≡ false → semicolons F q n ts ≡ Ok ([], ts)
semis_none q F zero ts h = refl
semis_none q F (suc n) ts h = rw h refl

-- one behind which nothing follows
semis_last : {A : Type 0} (q : Reader A) (F : Kinds) (n : ℕ) (t : Token) (ts : Tokens) → has mark_kinds (sort t) ≡ true → has F (next ts) ≡ false → semicolons F q (suc n) (t ∷ ts) ≡ Ok ([], ts)
semis_last q F n t ts h k = rw (h, k) refl

-- one with an item behind it
semis_on : {A : Type 0} (q : Reader A) (F : Kinds) (n : ℕ) (t : Token) (ts : Tokens) → has mark_kinds (sort t) ≡ true → has F (next ts) ≡ true →
    semicolons F q (suc n) (t ∷ ts) ≡ then_do (q ts) (λ a after. then_do (semicolons F q n after) (λ more end. Ok (a ∷ more, end)))
semis_on q F n t ts h k = rw (h, k) refl

semis_is : {A : Type 0} (q : Reader A) (F : Kinds) (n : ℕ) (t : Token) (ts : Tokens) (a : A) (mid : Tokens) (more : List A) (rest : Tokens) → has mark_kinds (sort t) ≡ true → has F (next ts) ≡ true →
    q ts ≡ Ok (a, mid) → semicolons F q n mid ≡ Ok (more, rest) → semicolons F q (suc n) (t ∷ ts) ≡ Ok (a ∷ more, rest)
semis_is q F n t ts a mid more rest h k i j = semis_on q F n t ts h k ∙ rw (i, j) refl

semis_fail : {A : Type 0} (q : Reader A) (F : Kinds) (n : ℕ) (t : Token) (ts : Tokens) (e : Stop) → has mark_kinds (sort t) ≡ true → has F (next ts) ≡ true → q ts ≡ Err e → semicolons F q (suc n) (t ∷ ts) ≡ Err e
semis_fail q F n t ts e h k i = semis_on q F n t ts h k ∙ rw i refl

semis_fail_then : {A : Type 0} (q : Reader A) (F : Kinds) (n : ℕ) (t : Token) (ts : Tokens) (a : A) (mid : Tokens) (e : Stop) → has mark_kinds (sort t) ≡ true → has F (next ts) ≡ true →
    q ts ≡ Ok (a, mid) → semicolons F q n mid ≡ Err e → semicolons F q (suc n) (t ∷ ts) ≡ Err e
semis_fail_then q F n t ts a mid e h k i j = semis_on q F n t ts h k ∙ rw (i, j) refl

-- with some more turns than tokens
abbrev semis_pair : {A : Type 0} → Kinds → Pair A → ℕ → Pair (List A)
semis_pair F w e i ts = semicolons F (w i) (length ts + e) ts

abbrev pub more_pair : {A : Type 0} → Kinds → Pair A → Pair (List A)
more_pair F w i = more_of F (w i)

-- what a list of items may be extended by
abbrev pub with_marks : Kinds → Kinds → Kinds
with_marks F Y = mark_kinds ++ (F ++ Y)

module _ {A : Type 0} (S : Standing) (w : Pair A) (F : Kinds) (Y : Kinds) (z : has F 0 ≡ false) where
  no_mark : (r : Tokens) → Ends (with_marks F Y) r → has mark_kinds (next r) ≡ false
  no_mark r m = ends_first mark_kinds (F ++ Y) r m

  no_first : (r : Tokens) → Ends (with_marks F Y) r → has F (next r) ≡ false
  no_first r m = ends_first F Y r (ends_second mark_kinds (F ++ Y) r m)

  no_other : (r : Tokens) → Ends (with_marks F Y) r → Ends Y r
  no_other r m = ends_second F Y r (ends_second mark_kinds (F ++ Y) r m)

  none_goes : (e : ℕ) (ts : Tokens) → has mark_kinds (next ts) ≡ false → Stays (semis_pair F w e) mark_kinds true (with_marks F Y) ts [] ts
  none_goes e ts h = record { used = []; whole = refl; again = λ i r m. semis_none (w i) F (length r + e) r (stops r m); shape = inr (refl, refl, h) } where
    stops : (r : Tokens) → May (with_marks F Y) ts r → has mark_kinds (next r) ≡ false
    stops r (inl m) = ap (has mark_kinds) (sym m) ∙ h
    stops r (inr m) = no_mark r m

  turns_of : (t : Token) (ts : Tokens) (e : ℕ) → length (t ∷ ts) + e ≡ suc (length ts + e)
  turns_of t ts e = omega arith

  last_goes : (e : ℕ) (t : Token) (ts : Tokens) → has mark_kinds (sort t) ≡ true → has F (next ts) ≡ false → Stays (semis_pair F w e) mark_kinds true (with_marks F Y) (t ∷ ts) [] ts
  last_goes e t ts h k = record {
    used = t ∷ [];
    whole = refl;
    again = λ i r m. ap (λ n. semicolons F (w i) n (t ∷ r)) (turns_of t r e) ∙ semis_last (w i) F (length r + e) t r h (stops r m);
    shape = inl (t, [], refl);
  } where
    stops : (r : Tokens) → May (with_marks F Y) ts r → has F (next r) ≡ false
    stops r (inl m) = ap (has F) (sym m) ∙ k
    stops r (inr m) = no_first r m

  alike : (ts u rest r : Tokens) → ts ≡ u ++ rest → Fill u → next (u ++ r) ≡ next ts
  alike ts u rest r is f = same_filled u r rest f ∙ rw is refl

  may_first : (mid u rest r : Tokens) → mid ≡ u ++ rest → Fill u ⊎ ((u ≡ []) × (true ≡ true) × (has mark_kinds (next mid) ≡ false)) → May (with_marks F Y) rest r → May Y mid (u ++ r)
  may_first mid u rest r is (inl f) m = inl (rw is (same_filled u rest r f))
  may_first mid u rest r is (inr f) (inl m) = inl (rw (is, f.0) m)
  may_first mid u rest r is (inr f) (inr m) = inr (rw (f.0) (no_other r m))

  -- so many turns more behind an item
  abbrev further : Tokens → ℕ → ℕ
  further used e = suc (length used - 1 + e)

  turns_on : (t : Token) (u l : Tokens) (e : ℕ) → Fill u → length (t ∷ (u ++ l)) + e ≡ suc (length l + further u e)
  turns_on t u l e f = let i = more_turns u l e f in omega (arith, i)

  module _ (e : ℕ) (t : Token) (ts : Tokens) (h : has mark_kinds (sort t) ≡ true) (k : has F (next ts) ≡ true) where
    on_stays : (a : A) (mid : Tokens) (more : List A) (rest : Tokens) → (s : Stays w F false Y ts a mid) → (f : Fill s.used) →
        Stays (semis_pair F w (further s.used e)) mark_kinds true (with_marks F Y) mid more rest → Stays (semis_pair F w e) mark_kinds true (with_marks F Y) (t ∷ ts) (a ∷ more) rest
    on_stays a mid more rest s f v = record {
      used = t ∷ (s.used ++ v.used);
      whole = ap (λ l. t ∷ l) (s.whole ∙ ap (λ l. s.used ++ l) v.whole ∙ sym (append_assoc s.used v.used rest));
      again = λ i r m. ap (λ l. semis_pair F w e i (t ∷ l)) (append_assoc s.used v.used r) ∙ ap (λ n. semicolons F (w i) n (t ∷ (s.used ++ (v.used ++ r)))) (turns_on t s.used (v.used ++ r) e f) ∙
          semis_is (w i) F (length (v.used ++ r) + further s.used e) t (s.used ++ (v.used ++ r)) a (v.used ++ r) more r h (ap (has F) (alike ts s.used mid (v.used ++ r) s.whole f) ∙ k)
          (s.again i (v.used ++ r) (may_first mid v.used rest r v.whole v.shape m)) (v.again i r m);
      shape = inl (t, s.used ++ v.used, refl);
    }

    on_breaks : (a : A) (mid : Tokens) (x : Expected) (n : ℕ) → (s : Stays w F false Y ts a mid) → (f : Fill s.used) →
        Breaks S (semis_pair F w (further s.used e)) mark_kinds true (with_marks F Y) mid x n → Breaks S (semis_pair F w e) mark_kinds true (with_marks F Y) (t ∷ ts) x n
    on_breaks a mid x n s f v = record {
      used = t ∷ (s.used ++ v.used);
      rest = v.rest;
      whole = ap (λ l. t ∷ l) (s.whole ∙ ap (λ l. s.used ++ l) v.whole ∙ sym (append_assoc s.used v.used v.rest));
      left = v.left;
      again = λ i r m. ap (λ l. semis_pair F w e i (t ∷ l)) (append_assoc s.used v.used r) ∙ ap (λ n. semicolons F (w i) n (t ∷ (s.used ++ (v.used ++ r)))) (turns_on t s.used (v.used ++ r) e f) ∙
          semis_fail_then (w i) F (length (v.used ++ r) + further s.used e) t (s.used ++ (v.used ++ r)) a (v.used ++ r) _ h (ap (has F) (alike ts s.used mid (v.used ++ r) s.whole f) ∙ k)
          (s.again i (v.used ++ r) (inl (front r))) (v.again i r m);
      more = v.more;
      value = a ∷ v.value;
      ends = λ r m. ap (λ l. semis_pair F w e true (t ∷ l)) (append_assoc s.used v.used (v.more ++ r)) ∙ ap (λ n. semicolons F (w true) n (t ∷ (s.used ++ (v.used ++ (v.more ++ r))))) (turns_on t s.used (v.used ++ (v.more ++ r)) e f) ∙
          semis_is (w true) F (length (v.used ++ (v.more ++ r)) + further s.used e) t (s.used ++ (v.used ++ (v.more ++ r))) a (v.used ++ (v.more ++ r)) v.value r h
          (ap (has F) (alike ts s.used mid (v.used ++ (v.more ++ r)) s.whole f) ∙ k) (s.again true (v.used ++ (v.more ++ r)) (inl (front (v.more ++ r)))) (v.ends r m);
      stands = v.stands;
      shape = inl (t, s.used ++ v.used, refl);
    } where
      filled : Fill v.used ⊎ ((v.used ≡ []) × (true ≡ false) × (has mark_kinds (next mid) ≡ false) × Begins mark_kinds v.more) → Fill v.used
      filled (inl g) = g
      filled (inr g) = absurd cc

      front : (r : Tokens) → next mid ≡ next (v.used ++ r)
      front r = sym (alike mid v.used v.rest r v.whole (filled v.shape))

    on_sinks : (a : A) (mid : Tokens) (n : ℕ) → (s : Stays w F false Y ts a mid) → (f : Fill s.used) →
        Sinks (semis_pair F w (further s.used e)) mark_kinds (with_marks F Y) mid n → Sinks (semis_pair F w e) mark_kinds (with_marks F Y) (t ∷ ts) n
    on_sinks a mid n s f v = record {
      used = t ∷ (s.used ++ v.used);
      token = v.token;
      after = v.after;
      whole = ap (λ l. t ∷ l) (s.whole ∙ ap (λ l. s.used ++ l) v.whole ∙ sym (append_assoc s.used v.used (v.token ∷ v.after)));
      left = v.left;
      again = λ r m. ap (λ l. semis_pair F w e false (t ∷ l)) (append_assoc s.used v.used r) ∙ ap (λ n. semicolons F (w false) n (t ∷ (s.used ++ (v.used ++ r)))) (turns_on t s.used (v.used ++ r) e f) ∙
          semis_fail_then (w false) F (length (v.used ++ r) + further s.used e) t (s.used ++ (v.used ++ r)) a (v.used ++ r) _ h (ap (has F) (alike ts s.used mid (v.used ++ r) s.whole f) ∙ k)
          (s.again false (v.used ++ r) (inl (front r m v.shape))) (v.again r m);
      more = v.more;
      value = a ∷ v.value;
      ends = λ r m. ap (λ l. semis_pair F w e true (t ∷ l)) (append_assoc s.used v.used (v.token ∷ (v.more ++ r))) ∙ ap (λ n. semicolons F (w true) n (t ∷ (s.used ++ (v.used ++ (v.token ∷ (v.more ++ r)))))) (turns_on t s.used (v.used ++ (v.token ∷ (v.more ++ r))) e f) ∙
          semis_is (w true) F (length (v.used ++ (v.token ∷ (v.more ++ r))) + further s.used e) t (s.used ++ (v.used ++ (v.token ∷ (v.more ++ r)))) a (v.used ++ (v.token ∷ (v.more ++ r))) v.value r h
          (ap (has F) (alike ts s.used mid (v.used ++ (v.token ∷ (v.more ++ r))) s.whole f) ∙ k) (s.again true (v.used ++ (v.token ∷ (v.more ++ r))) (inl (front (v.token ∷ (v.more ++ r)) refl v.shape))) (v.ends r m);
      shape = inl (t, s.used ++ v.used, refl);
    } where
      front : (r : Tokens) → Same (v.token ∷ v.after) r → Fill v.used ⊎ ((v.used ≡ []) × (has mark_kinds (sort v.token) ≡ true)) → Same mid (v.used ++ r)
      front r m (inl g) = rw (v.whole) (same_filled v.used (v.token ∷ v.after) r g)
      front r m (inr g) = from_empty mid v.used (v.token ∷ v.after) v.whole (g.0) ∙ m ∙ rw (g.0) refl

    on_goes : (a : A) (mid : Tokens) (y : Read (List A)) → (s : Stays w F false Y ts a mid) → (f : Fill s.used) → Goes S (semis_pair F w (further s.used e)) mark_kinds true (with_marks F Y) mid y →
        Goes S (semis_pair F w e) mark_kinds true (with_marks F Y) (t ∷ ts) (then_do y (λ rest end. Ok (a ∷ rest, end)))
    on_goes a mid (Ok y) s f v = on_stays a mid y.0 y.1 s f v
    on_goes a mid (Err (stop.Unexpected x n)) s f v = on_breaks a mid x n s f v
    on_goes a mid (Err (stop.TooDeep n)) s f v = on_sinks a mid n s f v
    on_goes a mid (Err stop.NoMemory) s f v = v

    -- an item that is read at last
    finished : (u : Tokens) (a : A) (r : Tokens) → has F (next u) ≡ true → w true u ≡ Ok (a, r) → Ends (with_marks F Y) r → semis_pair F w e true (t ∷ u) ≡ Ok (a ∷ [], r)
    finished u a r g is m = ap (λ n. semicolons F (w true) n (t ∷ u)) (turns_of t u e) ∙ semis_is (w true) F (length u + e) t u a r [] r h g is (semis_none (w true) F (length u + e) r (no_mark r m))

    failed : (i : Bool) (u : Tokens) (x : Stop) → has F (next u) ≡ true → w i u ≡ Err x → semis_pair F w e i (t ∷ u) ≡ Err x
    failed i u x g is = ap (λ n. semicolons F (w i) n (t ∷ u)) (turns_of t u e) ∙ semis_fail (w i) F (length u + e) t u x h g is

    item_breaks : (x : Expected) (n : ℕ) → (s : Breaks S w F false Y ts x n) → Fill s.used → Breaks S (semis_pair F w e) mark_kinds true (with_marks F Y) (t ∷ ts) x n
    item_breaks x n s f = record {
      used = t ∷ s.used;
      rest = s.rest;
      whole = ap (λ l. t ∷ l) s.whole;
      left = s.left;
      again = λ i r m. failed i (s.used ++ r) _ (ap (has F) (alike ts s.used s.rest r s.whole f) ∙ k) (s.again i r m);
      more = s.more;
      value = s.value ∷ [];
      ends = λ r m. finished (s.used ++ (s.more ++ r)) s.value r (ap (has F) (alike ts s.used s.rest (s.more ++ r) s.whole f) ∙ k) (s.ends r (no_other r m)) m;
      stands = s.stands;
      shape = inl (t, s.used, refl);
    }

    item_sinks : (n : ℕ) → Sinks w F Y ts n → Sinks (semis_pair F w e) mark_kinds (with_marks F Y) (t ∷ ts) n
    item_sinks n s = record {
      used = t ∷ s.used;
      token = s.token;
      after = s.after;
      whole = ap (λ l. t ∷ l) s.whole;
      left = s.left;
      again = λ r m. failed false (s.used ++ r) _ (front r m) (s.again r m);
      more = s.more;
      value = s.value ∷ [];
      ends = λ r m. finished (s.used ++ (s.token ∷ (s.more ++ r))) s.value r (front (s.token ∷ (s.more ++ r)) refl) (s.ends r (no_other r m)) m;
      shape = inl (t, s.used, refl);
    } where
      same : (r : Tokens) → Same (s.token ∷ s.after) r → Fill s.used ⊎ ((s.used ≡ []) × (has F (sort s.token) ≡ true)) → next (s.used ++ r) ≡ next ts
      same r m (inl g) = alike ts s.used (s.token ∷ s.after) r s.whole g
      same r m (inr g) = rw (g.0) (sym m) ∙ sym (from_empty ts s.used (s.token ∷ s.after) s.whole (g.0))

      front : (r : Tokens) → Same (s.token ∷ s.after) r → has F (next (s.used ++ r)) ≡ true
      front r m = ap (has F) (same r m s.shape) ∙ k

    item_goes : (x : Read A) (rest_of : Tokens → Read (List A)) → Goes S w F false Y ts x → ((mid : Tokens) → length mid < length ts → (e : ℕ) → Goes S (semis_pair F w e) mark_kinds true (with_marks F Y) mid (rest_of mid)) →
        Goes S (semis_pair F w e) mark_kinds true (with_marks F Y) (t ∷ ts) (then_do x (λ a after. then_do (rest_of after) (λ rest end. Ok (a ∷ rest, end))))
    item_goes (Ok x) rest_of s g = let f = is_filled_found F s.used ts s.shape in on_goes x.0 x.1 (rest_of x.1) s f (g x.1 (shorter ts s.used x.1 s.whole f) (further s.used e))
    item_goes (Err (stop.Unexpected x n)) rest_of s g = item_breaks x n s (is_filled F false (Begins F s.more) s.used ts k s.shape)
    item_goes (Err (stop.TooDeep n)) rest_of s g = item_sinks n s
    item_goes (Err stop.NoMemory) rest_of s g = s

  semis_goes : ((ts : Tokens) → Goes S w F false Y ts (w false ts)) → (n : ℕ) (ts : Tokens) → length ts ≤ n → (e : ℕ) → Goes S (semis_pair F w e) mark_kinds true (with_marks F Y) ts (semicolons F (w false) n ts)
  semis_goes g zero [] le e = none_goes e [] refl
  semis_goes g zero (t ∷ ts) le e = absurd (omega (arith, le))
  semis_goes g (suc n) [] le e = none_goes e [] refl
  semis_goes g (suc n) (t ∷ ts) le e = by_case (has mark_kinds (sort t))
      (λ is. by_case (has F (next ts))
      (λ k. subst (Goes S (semis_pair F w e) mark_kinds true (with_marks F Y) (t ∷ ts)) (sym (semis_on (w false) F n t ts is k)) (item_goes e t ts is k (w false ts) (semicolons F (w false) n) (g ts) (λ mid lt. semis_goes g n mid (omega (arith, lt, le)))))
      (λ k. subst (Goes S (semis_pair F w e) mark_kinds true (with_marks F Y) (t ∷ ts)) (sym (semis_last (w false) F n t ts is k)) (last_goes e t ts is k)))
      (λ is. subst (Goes S (semis_pair F w e) mark_kinds true (with_marks F Y) (t ∷ ts)) (sym (semis_none (w false) F (suc n) (t ∷ ts) is)) (none_goes e (t ∷ ts) is))

-- ---- what is found, and what is read

semis_hold : {A : Type 0} (p : Reader A) (F : Kinds) (Q : Tokens → List A → Tokens → Type 0) → ((ts : Tokens) → Q ts [] ts) → ((t : Token) (ts : Tokens) → has mark_kinds (sort t) ≡ true → Q (t ∷ ts) [] ts) →
    ((t : Token) (ts : Tokens) (a : A) (mid : Tokens) (more : List A) (rest : Tokens) → has mark_kinds (sort t) ≡ true → p ts ≡ Ok (a, mid) → Q mid more rest → Q (t ∷ ts) (a ∷ more) rest) →
    (n : ℕ) (ts : Tokens) (all : List A) (rest : Tokens) → semicolons F p n ts ≡ Ok (all, rest) → Q ts all rest
semis_hold {A} p F Q none final some n ts all rest h = holds n ts all rest h where
  moved : (ts : Tokens) (b : List A) (mid : Tokens) (all : List A) (rest : Tokens) → Path (Read (List A)) (Ok (b, mid)) (Ok (all, rest)) → Q ts b mid → Q ts all rest
  moved ts b mid all rest h q = subst (λ (y : List A × Tokens). Q ts y.0 y.1) (unwrap (b, mid) (all, rest) h) q

  more : (n : ℕ) (t : Token) (ts : Tokens) (all : List A) (rest : Tokens) → has mark_kinds (sort t) ≡ true → ((ts : Tokens) (all : List A) (rest : Tokens) → semicolons F p n ts ≡ Ok (all, rest) → Q ts all rest) →
      then_do (p ts) (λ a after. then_do (semicolons F p n after) (λ rest end. Ok (a ∷ rest, end))) ≡ Ok (all, rest) → Q (t ∷ ts) all rest
  more n t ts all rest is ih h =
      let i = then_inv (p ts) (λ a after. then_do (semicolons F p n after) (λ rest end. Ok (a ∷ rest, end))) (all, rest) h in
      let j = then_inv (semicolons F p n i.0.1) (λ rest end. Ok (i.0.0 ∷ rest, end)) (all, rest) (i.2) in
      moved (t ∷ ts) (i.0.0 ∷ j.0.0) j.0.1 all rest (j.2) (some t ts i.0.0 i.0.1 j.0.0 j.0.1 is (i.1) (ih i.0.1 j.0.0 j.0.1 (j.1)))

  holds : (n : ℕ) (ts : Tokens) (all : List A) (rest : Tokens) → semicolons F p n ts ≡ Ok (all, rest) → Q ts all rest
  holds zero ts all rest h = moved ts [] ts all rest h (none ts)
  holds (suc n) [] all rest h = moved [] [] [] all rest h (none [])
  holds (suc n) (t ∷ ts) all rest h = by_case (has mark_kinds (sort t))
      (λ is. by_case (has F (next ts))
      (λ k. more n t ts all rest is (holds n) (sym (semis_on p F n t ts is k) ∙ h))
      (λ k. moved (t ∷ ts) [] ts all rest (sym (semis_last p F n t ts is k) ∙ h) (final t ts is)))
      (λ is. moved (t ∷ ts) [] (t ∷ ts) all rest (sym (semis_none p F (suc n) (t ∷ ts) is) ∙ h) (none (t ∷ ts)))

semis_found : {A : Type 0} (R : Rule A) (p : Reader A) (F : Kinds) → ((ts : Tokens) (a : A) (rest : Tokens) → p ts ≡ Ok (a, rest) → R ts a rest) →
    (n : ℕ) (ts : Tokens) (all : List A) (rest : Tokens) → semicolons F p n ts ≡ Ok (all, rest) → MoreOf R ts all rest
semis_found {A} R p F g = semis_hold p F (MoreOf R) (λ ts. (([], None), (ts, refl, inr (refl, refl)), refl)) (λ t ts is. (([], Some t), (t ∷ ts, refl, inl (t, (refl, is), refl)), refl)) some where
  some : (t : Token) (ts : Tokens) (a : A) (mid : Tokens) (more : List A) (rest : Tokens) → has mark_kinds (sort t) ≡ true → p ts ≡ Ok (a, mid) → MoreOf R mid more rest → MoreOf R (t ∷ ts) (a ∷ more) rest
  some t ts a mid more rest is h v = ((a ∷ (v.0).0, (v.0).1), ((v.1).0, (mid, ((t, a), (ts, (refl, is), g ts a mid h), refl), (v.1).1), (v.1).2), ap (λ l. a ∷ l) (v.2))

semis_within : {A : Type 0} (p : Reader A) (F : Kinds) (depth : A → ℕ) (d : ℕ) → ((ts : Tokens) (a : A) (rest : Tokens) → p ts ≡ Ok (a, rest) → depth a ≤ d) →
    (n : ℕ) (ts : Tokens) (all : List A) (rest : Tokens) → semicolons F p n ts ≡ Ok (all, rest) → deepest depth all ≤ d
semis_within p F depth d g = semis_hold p F (λ ts all rest. deepest depth all ≤ d) (λ ts. omega arith) (λ t ts is. omega arith) (λ t ts a mid more rest is h v. let one = g ts a mid h in omega (arith, one, v))

module _ {A : Type 0} (R : Rule A) (F X : Kinds) (depth : A → ℕ) (d : ℕ) (s : (ts : Tokens) (a : A) (rest : Tokens) → R ts a rest → depth a ≤ d → Starts F false ts rest) where
  marks_end : apart mark_kinds X ≡ true → (mid : Tokens) (more : List A) (end : Tokens) (o : Option Token) (rest : Tokens) → Repeated (Key kind.Semicolon R) mid more end → Optional (OneOf mark_kinds) end o rest → Ends X rest → Ends X mid
  marks_end c mid [] end o rest r (inl v) m = apart_has mark_kinds X (next mid) c (rw (r, (v.1).0) (v.1).1)
  marks_end c mid [] end o rest r (inr v) m = rw (r, v.0) m
  marks_end c mid (a ∷ more) end o rest r v m = let k = (r.1).1 in apart_has mark_kinds X (next mid) c (rw ((k.1).0) (k.1).1)

  semis_only : (p : Reader A) → ((ts : Tokens) (a : A) (rest : Tokens) → R ts a rest → depth a ≤ d → Ends X rest → p ts ≡ Ok (a, rest)) → apart mark_kinds X ≡ true →
      (n : ℕ) (ts : Tokens) (all : List A) (end : Tokens) (o : Option Token) (rest : Tokens) → length ts ≤ n → Repeated (Key kind.Semicolon R) ts all end → Optional (OneOf mark_kinds) end o rest → deepest depth all ≤ d →
      Ends (with_marks F X) rest → semicolons F p n ts ≡ Ok (all, rest)
  semis_only p f c zero ts [] end o rest le r (inl v) deep m = let e : ts ≡ (v.0) ∷ rest = r ∙ (v.1).0 in let l : length ts ≡ suc (length rest) = ap length e in absurd (omega (arith, le, l))
  semis_only p f c (suc n) ts [] end o rest le r (inl v) deep m = ap (semicolons F p (suc n)) (r ∙ (v.1).0) ∙ semis_last p F n (v.0) rest ((v.1).1) (ends_first F X rest (ends_second mark_kinds (F ++ X) rest m))
  semis_only p f c n ts [] end o rest le r (inr v) deep m = rw (r, v.0) (semis_none p F n rest (ends_first mark_kinds (F ++ X) rest m))
  semis_only p f c zero ts (a ∷ more) end o rest le r v deep m =
      let k = (r.1).1 in let l : length ts ≡ suc (length k.0) = ap length ((k.1).0) in absurd (omega (arith, le, l))
  semis_only p f c (suc n) ts (a ∷ more) end o rest le r v deep m =
      let q = (r.1).0 in
      let k = (r.1).1 in
      let e : a ≡ q.1 = (r.1).2 in
      let l : length ts ≡ suc (length k.0) = ap length ((k.1).0) in
      let one : R (k.0) a (r.0) = subst (λ x. R (k.0) x (r.0)) (sym e) (k.2) in
      let b = first_begins F (k.0) (r.0) (s (k.0) a (r.0) one (omega (arith, deep))) in
      ap (semicolons F p (suc n)) ((k.1).0) ∙
      semis_is p F n (q.0) (k.0) a (r.0) more rest ((k.1).1) (b.0) (f (k.0) a (r.0) one (omega (arith, deep)) (marks_end c (r.0) more end o rest (r.2) v (ends_second F X rest (ends_second mark_kinds (F ++ X) rest m))))
      (semis_only p f c n (r.0) more end o rest (omega (arith, b.1, l, le)) (r.2) v (omega (arith, deep)) m)

  semis_starts : (ts : Tokens) (all : List A) (end : Tokens) (o : Option Token) (rest : Tokens) → Repeated (Key kind.Semicolon R) ts all end → Optional (OneOf mark_kinds) end o rest → deepest depth all ≤ d → Starts mark_kinds true ts rest
  semis_starts ts [] end o rest r (inl v) deep = let e : ts ≡ (v.0) ∷ rest = r ∙ (v.1).0 in let l : length ts ≡ suc (length rest) = ap length e in inl (rw e (v.1).1, omega (arith, l))
  semis_starts ts [] end o rest r (inr v) deep = inr (refl, r ∙ v.0)
  semis_starts ts (a ∷ more) end o rest r v deep =
      let k = (r.1).1 in
      let e : a ≡ ((r.1).0).1 = (r.1).2 in
      let l : length ts ≡ suc (length k.0) = ap length ((k.1).0) in
      let one : R (k.0) a (r.0) = subst (λ x. R (k.0) x (r.0)) (sym e) (k.2) in
      let b = first_begins F (k.0) (r.0) (s (k.0) a (r.0) one (omega (arith, deep))) in
      inl (rw ((k.1).0) (k.1).1, further (k.0) (r.0) l b.1 (semis_starts (r.0) more end o rest (r.2) v (omega (arith, deep)))) where
        further : (inside mid : Tokens) → length ts ≡ suc (length inside) → length mid < length inside → Starts mark_kinds true mid rest → length rest < length ts
        further inside mid l lt (inl t) = omega (arith, l, lt, t.1)
        further inside mid l lt (inr t) = let e : length mid ≡ length rest = ap length (t.1) in omega (arith, l, lt, e)

pub more_law : {A : Type 0} {S : Standing} {R : Rules A} {depth : A → ℕ} {d : ℕ} {w : Pair A} {F : Kinds} {X Y : Kinds} → Law S R depth d w F false X Y → has F 0 ≡ false → apart mark_kinds X ≡ true →
    Law S (λ n. MoreOf (R n)) (deepest depth) d (more_pair F w) mark_kinds true (with_marks F X) (with_marks F Y)
more_law {A} {S} {R} {depth} {d} {w} {F} {X} {Y} l z c = record {
  found = λ n ts all rest m. semis_found (R n) (w false) F (λ ts a rest. l.found n ts a rest m) (length ts) ts all rest;
  within = λ ts all rest. semis_within (w false) F depth d l.within (length ts) ts all rest;
  only = λ n ts all rest r deep m.
      let e = r.2 in
      let le : deepest depth (r.0).0 ≤ d = subst (λ l. deepest depth l ≤ d) e deep in
      semis_only (R n) F X depth d (l.starts n) (w false) (l.only n) c (length ts) ts (r.0).0 (r.1).0 (r.0).1 rest (omega arith) (r.1).1 (r.1).2 le m ∙ ap (λ l. Ok (l, rest)) (sym e);
  starts = λ n ts all rest r deep. semis_starts (R n) F X depth d (l.starts n) ts (r.0).0 (r.1).0 (r.0).1 rest (r.1).1 (r.1).2 (subst (λ l. deepest depth l ≤ d) (r.2) deep);
  goes = λ ts. goes_alike S (semis_pair F w 0) (more_pair F w) mark_kinds true (with_marks F Y) ts (more_of F (w false) ts)
      (λ i l. let e : length l + 0 ≡ length l = omega arith in ap (λ n. semicolons F (w i) n l) e) (semis_goes S w F Y z l.goes (length ts) ts (omega arith) 0);
}

abbrev pub more_least : {A : Type 0} (q : Reader A) (F Y : Kinds) → Least (more_of F q) mark_kinds true (with_marks F Y)
more_least q F Y = record { word = []; value = []; reads = λ r m. none (length r) r (ends_first mark_kinds (F ++ Y) r m); shape = inl (refl, refl) } where
  none : (n : ℕ) (r : Tokens) → has mark_kinds (next r) ≡ false → semicolons F q n r ≡ Ok ([], r)
  none n r h = semis_none q F n r h

abbrev pub listed_pair : {A : Type 0} → Kinds → Pair A → Pair (List A)
listed_pair F w i = listed F (w i)

pub listed_law : {A : Type 0} {S : Standing} {R : Rules A} {depth : A → ℕ} {d : ℕ} {w : Pair A} {F : Kinds} {X Y : Kinds} → Law S R depth d w F false X Y → has F 0 ≡ false → apart mark_kinds X ≡ true →
    Law S (λ n. Listed (R n)) (deepest depth) d (listed_pair F w) (F ++ []) false (with_marks F X ++ X) (with_marks F Y ++ Y)
listed_law {A} {S} {R} {depth} {d} {w} {F} {X} {Y} l z c = refit_made (λ (x : A × List A). x.0 ∷ x.1) (λ n. Listed (R n)) (deepest depth) d
    (λ n ts a rest m h. let r = whole.found n ts a rest m h in ((a.0, ((r.2).0)), (r.0, r.1, (r.2).1), ap (λ l. a.0 ∷ l) ((r.2).2)))
    (λ ts a rest h. let i = whole.within ts a rest h in omega (arith, i))
    (λ n ts all rest r le.
    let p = r.0 in
    let deep : deepest depth (p.0 ∷ (p.1).0) ≤ d = subst (λ l. deepest depth l ≤ d) (r.2) le in
    (n, (p.0, (p.1).0), ((r.1).0, (r.1).1, (p.1, (r.1).2, refl)), omega (arith, deep), r.2)) whole where
      whole : Law S (λ n. Both (R n) (MoreOf (R n))) (deeper depth (deepest depth)) d (both_pair w (more_pair F w)) (F ++ []) false (with_marks F X ++ X) (with_marks F Y ++ Y)
      whole = both_law l (more_law l z c) (more_least (w true) F Y) c refl

abbrev pub listed_least : {A : Type 0} {q : Reader A} {F Y : Kinds} → Least q F false Y → Least (listed F q) (F ++ []) false (with_marks F Y ++ Y)
listed_least {A} {q} {F} {Y} l = made_least (λ (x : A × List A). x.0 ∷ x.1) (both_least l (more_least q F Y) refl)
