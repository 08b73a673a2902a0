-- What the laws say of whole texts.
use Rattle.std.proofs.Common.{◌≡◌, ℕ, zero, suc, max, ◌≤◌, Bool, true, false, [], ◌∷◌, ◌++◌, length, refl, sym, ap, subst, ◌∙◌, arith, inl, inr, append_assoc, Ok, Err}
use Rattle.std.proofs.lemmas.List.{append-nil}
use Rattle.ligo_tokens.specs.declared.token.Token.{Token}
use Rattle.ligo_syntax.specs.declared.fault.Stop.TheVariants as stop
use Rattle.ligo_syntax.specs.declared.fault.Expected.{Expected}
use Rattle.ligo_syntax.specs.Kinds.{Tokens, Kinds, next, has}
use Rattle.ligo_syntax.specs.Readers.{Reader}
use Rattle.ligo_syntax.proofs.RuleLaws.{Standing, Rules, Stays, Breaks, Sinks, Goes, Law, unwrap}
use Rattle.ligo_syntax.proofs.Links.{limits}
use Rattle.ligo_syntax.proofs.Nodes.{beyond}

-- so many times further beyond
up : ℕ → ℕ → ℕ
up zero d = d
up (suc k) d = beyond (up k d)

is_up : (k d : ℕ) → k ≤ up k d
unfolding up
is_up zero d = omega arith
is_up (suc k) d = let i = is_up k d in omega (arith, i)

climb : (Q : ℕ → Type 0) → ((d : ℕ) → Q d → Q (beyond d)) → (k d : ℕ) → Q d → Q (up k d)
unfolding up
climb Q step zero d q = q
climb Q step (suc k) d q = step (up k d) (climb Q step k d q)

module _ {A : Type 0} (S : Standing) (R : Rules A) (depth : A → ℕ) (P : ℕ → Reader A) (F : Kinds) (N : Bool) (X Y : Kinds)
    (laws : (d : ℕ) → Law S R depth (suc (suc d)) (λ i. P (limits (suc (suc d)) (beyond (suc (suc d))) i)) F N X Y) (x : has X 0 ≡ false) (y : has Y 0 ≡ false) where
  pub stays_of : (d : ℕ) (ts : Tokens) (a : A) (rest : Tokens) → P (suc (suc d)) ts ≡ Ok (a, rest) → Stays (λ i. P (limits (suc (suc d)) (beyond (suc (suc d))) i)) F N Y ts a rest
  stays_of d ts a rest h = subst (Goes S (λ i. P (limits (suc (suc d)) (beyond (suc (suc d))) i)) F N Y ts) h ((laws d).goes ts)

  pub breaks_of : (d : ℕ) (ts : Tokens) (k : Expected) (n : ℕ) → P (suc (suc d)) ts ≡ Err (stop.Unexpected k n) → Breaks S (λ i. P (limits (suc (suc d)) (beyond (suc (suc d))) i)) F N Y ts k n
  breaks_of d ts k n h = subst (Goes S (λ i. P (limits (suc (suc d)) (beyond (suc (suc d))) i)) F N Y ts) h ((laws d).goes ts)

  pub sinks_of : (d : ℕ) (ts : Tokens) (n : ℕ) → P (suc (suc d)) ts ≡ Err (stop.TooDeep n) → Sinks (λ i. P (limits (suc (suc d)) (beyond (suc (suc d))) i)) F Y ts n
  sinks_of d ts n h = subst (Goes S (λ i. P (limits (suc (suc d)) (beyond (suc (suc d))) i)) F N Y ts) h ((laws d).goes ts)

  pub has_memory : (d : ℕ) (ts : Tokens) → P (suc (suc d)) ts ≡ Err stop.NoMemory → ⊥
  has_memory d ts h = subst (Goes S (λ i. P (limits (suc (suc d)) (beyond (suc (suc d))) i)) F N Y ts) h ((laws d).goes ts)

  -- more depth reads the same
  deeper : (ts : Tokens) (a : A) (rest : Tokens) (k d : ℕ) → P (suc (suc d)) ts ≡ Ok (a, rest) → P (suc (suc (up k d))) ts ≡ Ok (a, rest)
  deeper ts a rest k d h = climb (λ n. P (suc (suc n)) ts ≡ Ok (a, rest)) (λ n i. let s = stays_of n ts a rest i in ap (P (suc (suc (beyond n)))) s.whole ∙ s.again true rest (inl refl)) k d h

  deeper_fault : (ts : Tokens) (e : Expected) (m : ℕ) (k d : ℕ) → P (suc (suc d)) ts ≡ Err (stop.Unexpected e m) → P (suc (suc (up k d))) ts ≡ Err (stop.Unexpected e m)
  deeper_fault ts e m k d h = climb (λ n. P (suc (suc n)) ts ≡ Err (stop.Unexpected e m))
      (λ n i. let s = breaks_of n ts e m i in ap (P (suc (suc (beyond n)))) s.whole ∙ s.again true s.rest refl ∙ ap (λ l. Err (stop.Unexpected e l)) (sym s.left)) k d h

  -- what is a text is read at each depth that it has
  pub read_all : (n : ℕ) (ts : Tokens) (a : A) → R n ts a [] → (d : ℕ) → depth a ≤ suc (suc d) → P (suc (suc d)) ts ≡ Ok (a, [])
  read_all n ts a r d le = (laws d).only n ts a [] r le x

  -- a text has one tree
  pub one_tree : (ts : Tokens) (a b : A) (n m : ℕ) → R n ts a [] → R m ts b [] → a ≡ b
  one_tree ts a b n m r s =
      let d = max (depth a) (depth b) in
      let e = sym (read_all n ts a r d (omega arith)) ∙ read_all m ts b s d (omega arith) in
      ap (λ (p : A × Tokens). p.0) (unwrap (a, []) (b, []) e)

  pub no_text : (d : ℕ) (ts : Tokens) (k : Expected) (m : ℕ) → P (suc (suc d)) ts ≡ Err (stop.Unexpected k m) → (n : ℕ) (b : A) → R n ts b [] → ⊥
  no_text d ts k m h n b r =
      let i = is_up (depth b) d in
      let u = deeper_fault ts k m (depth b) d h in
      let v = read_all n ts b r (up (depth b) d) (omega (arith, i)) in absurd cc

  pub no_more : (d : ℕ) (ts : Tokens) (a : A) (t : Token) (more : Tokens) → P (suc (suc d)) ts ≡ Ok (a, t ∷ more) → (n : ℕ) (b : A) → R n ts b [] → ⊥
  no_more d ts a t more h n b r =
      let i = is_up (depth b) d in
      let u = deeper ts a (t ∷ more) (depth b) d h in
      let v = read_all n ts b r (up (depth b) d) (omega (arith, i)) in
      let p = unwrap (a, t ∷ more) (b, []) (sym u ∙ v) in
      let q : t ∷ more ≡ [] = ap (λ (p : A × Tokens). p.1) p in absurd cc

  pub none_so_deep : (d : ℕ) (ts : Tokens) (m : ℕ) → P (suc (suc d)) ts ≡ Err (stop.TooDeep m) → (n : ℕ) (b : A) → R n ts b [] → depth b ≤ suc (suc d) → ⊥
  none_so_deep d ts m h n b r le = let v = read_all n ts b r d le in absurd cc

  -- a fault: no text goes on with the next token
  pub stuck_at : (d : ℕ) (ts : Tokens) (k : Expected) (m : ℕ) → (s : Breaks S (λ i. P (limits (suc (suc d)) (beyond (suc (suc d))) i)) F N Y ts k m) → (t : Token) (after more : Tokens) → s.rest ≡ t ∷ after →
      (n : ℕ) (b : A) → R n ((s.used ++ t ∷ []) ++ more) b [] → ⊥
  stuck_at d ts k m s t after more w n b r = no_text d (s.used ++ (t ∷ more)) k (length (t ∷ more)) (s.again false (t ∷ more) (ap next w)) n b (subst (λ l. R n l b []) (append_assoc s.used (t ∷ []) more) r)

  pub not_ended : (d : ℕ) (ts : Tokens) (k : Expected) (m : ℕ) → (s : Breaks S (λ i. P (limits (suc (suc d)) (beyond (suc (suc d))) i)) F N Y ts k m) → s.rest ≡ [] → (n : ℕ) (b : A) → R n s.used b [] → ⊥
  not_ended d ts k m s w n b r = no_text d (s.used ++ []) k 0 (s.again false [] (ap next w)) n b (subst (λ l. R n l b []) (sym (append-nil s.used)) r)

  pub fault_goes_on : (d : ℕ) (ts : Tokens) (k : Expected) (m : ℕ) → (s : Breaks S (λ i. P (limits (suc (suc d)) (beyond (suc (suc d))) i)) F N Y ts k m) → R (suc (suc (beyond d))) (s.used ++ s.more) s.value []
  fault_goes_on d ts k m s = subst (λ l. R (suc (suc (beyond d))) (s.used ++ l) s.value []) (append-nil s.more) ((laws (beyond d)).found (suc (suc (beyond d))) _ s.value [] (omega arith) (s.ends [] y))

  -- what is left over: no text goes on with it either
  pub stuck_behind : (d : ℕ) (ts : Tokens) (a : A) (rest : Tokens) (s : Stays (λ i. P (limits (suc (suc d)) (beyond (suc (suc d))) i)) F N Y ts a rest) → (t : Token) (after more : Tokens) → rest ≡ t ∷ after →
      (n : ℕ) (b : A) → R n ((s.used ++ t ∷ []) ++ more) b [] → ⊥
  stuck_behind d ts a rest s t after more w n b r = no_more d (s.used ++ (t ∷ more)) a t more (s.again false (t ∷ more) (inl (ap next w))) n b (subst (λ l. R n l b []) (append_assoc s.used (t ∷ []) more) r)

  pub ends_there : (d : ℕ) (ts : Tokens) (a : A) (rest : Tokens) (s : Stays (λ i. P (limits (suc (suc d)) (beyond (suc (suc d))) i)) F N Y ts a rest) → R (suc (suc d)) (s.used ++ []) a []
  ends_there d ts a rest s = (laws d).found (suc (suc d)) _ a [] (omega arith) (s.again false [] (inr y))

  -- what is too deep: no text so deep goes on with the token, one that is deeper does
  pub sunk_at : (d : ℕ) (ts : Tokens) (m : ℕ) → (s : Sinks (λ i. P (limits (suc (suc d)) (beyond (suc (suc d))) i)) F Y ts m) → (more : Tokens) (n : ℕ) (b : A) → R n ((s.used ++ s.token ∷ []) ++ more) b [] → depth b ≤ suc (suc d) → ⊥
  sunk_at d ts m s more n b r le = none_so_deep d (s.used ++ (s.token ∷ more)) (length (s.token ∷ more)) (s.again (s.token ∷ more) refl) n b (subst (λ l. R n l b []) (append_assoc s.used (s.token ∷ []) more) r) le

  pub sunk_goes_on : (d : ℕ) (ts : Tokens) (m : ℕ) → (s : Sinks (λ i. P (limits (suc (suc d)) (beyond (suc (suc d))) i)) F Y ts m) → R (suc (suc (beyond d))) ((s.used ++ s.token ∷ []) ++ s.more) s.value []
  sunk_goes_on d ts m s = subst (λ l. R (suc (suc (beyond d))) l s.value []) (ap (λ l. s.used ++ (s.token ∷ l)) (append-nil s.more) ∙ sym (append_assoc s.used (s.token ∷ []) s.more))
      ((laws (beyond d)).found (suc (suc (beyond d))) _ s.value [] (omega arith) (s.ends [] y))
