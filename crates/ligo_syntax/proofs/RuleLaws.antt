-- The law of a reader against its rule, and of the signs of a grammar.
use Rattle.std.proofs.Common.{◌≡◌, ℕ, ◌<◌, ◌≤◌, Bool, true, false, [], ◌∷◌, ◌++◌, length, refl, sym, ap, subst, ◌∙◌, arith, inl, inr, ◌⊎◌, Ok, Err}
use Rattle.ligo_tokens.specs.declared.token.Token.{Token}
use Rattle.ligo_syntax.specs.declared.fault.Stop.{Stop}
use Rattle.ligo_syntax.specs.declared.fault.Stop.TheVariants as stop
use Rattle.ligo_syntax.specs.declared.fault.Expected.{Expected}
use Rattle.ligo_syntax.specs.Kinds.{Tokens, Kinds, sort, next, has, Ends}
use Rattle.ligo_syntax.specs.Rules.{Rule, OneOf, Nothing, Made}
use Rattle.ligo_syntax.specs.Readers.{Read, Reader, then_do, one_of, nothing, made}
use Rattle.ligo_syntax.proofs.Sets.{by_case}

-- the same kind stands in front
abbrev pub Same : Tokens → Tokens → Type 0
Same x y = next x ≡ next y

-- what may stand behind in the place of the rest
abbrev pub May : Kinds → Tokens → Tokens → Type 0
May Y rest r = Same rest r ⊎ Ends Y r

abbrev pub Fill : Tokens → Type 0
Fill ts = (t : Token) × (m : Tokens) × (ts ≡ t ∷ m)

abbrev pub Begins : Kinds → Tokens → Type 0
Begins F ts = (t : Token) × (m : Tokens) × (ts ≡ t ∷ m) × (has F (sort t) ≡ true)

-- what can stand at a place, by its kind
abbrev pub Standing : Type 1
Standing = Expected → Tokens → Type 0

-- a rule, with one in another at most so often
abbrev pub Rules : Type 0 → Type 1
Rules A = ℕ → Rule A

-- a reader at some depth (false), and the same at a greater one (true)
abbrev pub Pair : Type 0 → Type 0
Pair A = Bool → Reader A

-- what was read is read whatever stands behind, if it begins alike or doesn't extend it
pub record Stays {A : Type 0} (w : Pair A) (F : Kinds) (N : Bool) (Y : Kinds) (ts : Tokens) (a : A) (rest : Tokens) : Type 0 where
  pub used : Tokens
  pub whole : ts ≡ used ++ rest
  pub again : (i : Bool) (r : Tokens) → May Y rest r → w i (used ++ r) ≡ Ok (a, r)
  pub shape : Fill used ⊎ ((used ≡ []) × (N ≡ true) × (has F (next ts) ≡ false))

-- a fault is one whatever stands behind it, and some tokens in its place end what was begun
pub record Breaks {A : Type 0} (S : Standing) (w : Pair A) (F : Kinds) (N : Bool) (Y : Kinds) (ts : Tokens) (k : Expected) (n : ℕ) : Type 0 where
  pub used : Tokens
  pub rest : Tokens
  pub whole : ts ≡ used ++ rest
  pub left : n ≡ length rest
  pub again : (i : Bool) (r : Tokens) → Same rest r → w i (used ++ r) ≡ Err (stop.Unexpected k (length r))
  pub more : Tokens
  pub value : A
  pub ends : (r : Tokens) → Ends Y r → w true (used ++ (more ++ r)) ≡ Ok (value, r)
  pub stands : (r : Tokens) → S k (more ++ r)
  pub shape : Fill used ⊎ ((used ≡ []) × (N ≡ false) × (has F (next ts) ≡ false) × Begins F more)

-- what is too deep is so whatever stands behind its token, and behind it some tokens end what was begun,
-- at the greater depth
pub record Sinks {A : Type 0} (w : Pair A) (F : Kinds) (Y : Kinds) (ts : Tokens) (n : ℕ) : Type 0 where
  pub used : Tokens
  pub token : Token
  pub after : Tokens
  pub whole : ts ≡ used ++ (token ∷ after)
  pub left : n ≡ length (token ∷ after)
  pub again : (r : Tokens) → Same (token ∷ after) r → w false (used ++ r) ≡ Err (stop.TooDeep (length r))
  pub more : Tokens
  pub value : A
  pub ends : (r : Tokens) → Ends Y r → w true (used ++ (token ∷ (more ++ r))) ≡ Ok (value, r)
  pub shape : Fill used ⊎ ((used ≡ []) × (has F (sort token) ≡ true))

abbrev pub Goes : {A : Type 0} → Standing → Pair A → Kinds → Bool → Kinds → Tokens → Read A → Type 0
Goes S w F N Y ts (Ok x) = Stays w F N Y ts x.0 x.1
Goes S w F N Y ts (Err (stop.Unexpected k n)) = Breaks S w F N Y ts k n
Goes S w F N Y ts (Err (stop.TooDeep n)) = Sinks w F Y ts n
Goes S w F N Y ts (Err stop.NoMemory) = ⊥

abbrev pub Starts : Kinds → Bool → Tokens → Tokens → Type 0
Starts F N ts rest = ((has F (next ts) ≡ true) × (length rest < length ts)) ⊎ ((N ≡ true) × (ts ≡ rest))

-- w reads at depth d what R says and is at most so deep. It begins with one of F, or is empty where N;
-- X may extend it where R allows both ways, Y wherever.
pub record Law {A : Type 0} (S : Standing) (R : Rules A) (depth : A → ℕ) (d : ℕ) (w : Pair A) (F : Kinds) (N : Bool) (X Y : Kinds) : Type 0 where
  pub found : (n : ℕ) (ts : Tokens) (a : A) (rest : Tokens) → d ≤ n → w false ts ≡ Ok (a, rest) → R n ts a rest
  pub within : (ts : Tokens) (a : A) (rest : Tokens) → w false ts ≡ Ok (a, rest) → depth a ≤ d
  pub only : (n : ℕ) (ts : Tokens) (a : A) (rest : Tokens) → R n ts a rest → depth a ≤ d → Ends X rest → w false ts ≡ Ok (a, rest)
  pub starts : (n : ℕ) (ts : Tokens) (a : A) (rest : Tokens) → R n ts a rest → depth a ≤ d → Starts F N ts rest
  pub goes : (ts : Tokens) → Goes S w F N Y ts (w false ts)

-- some tokens are read
pub record Least {A : Type 0} (q : Reader A) (F : Kinds) (N : Bool) (Y : Kinds) : Type 0 where
  pub word : Tokens
  pub value : A
  pub reads : (r : Tokens) → Ends Y r → q (word ++ r) ≡ Ok (value, r)
  pub shape : ((N ≡ true) × (word ≡ [])) ⊎ ((N ≡ false) × Begins F word)

-- ---- tokens

pub same_filled : (u x y : Tokens) → Fill u → next (u ++ x) ≡ next (u ++ y)
same_filled u x y f = rw (f.2) refl

pub begins_next : (F : Kinds) (m r : Tokens) → Begins F m → has F (next (m ++ r)) ≡ true
begins_next F m r b = rw (b.2) (b.3)

pub then_inv : {A B : Type 0} (x : Read A) (f : A → Tokens → Read B) (c : B × Tokens) → then_do x f ≡ Ok c → (y : A × Tokens) × (x ≡ Ok y) × (f y.0 y.1 ≡ Ok c)
then_inv (Ok y) f c h = (y, refl, h)
then_inv (Err e) f c h = absurd cc

pub unwrap : {A : Type 0} (x y : A × Tokens) → Path (Read A) (Ok x) (Ok y) → x ≡ y
unwrap x y h = cc

pub refused : (k : Expected) (K : Kinds) (r : Tokens) → has K (next r) ≡ false → one_of k K r ≡ Err (stop.Unexpected k (length r))
refused k K [] h = refl
refused k K (t ∷ ts) h = rw h refl

pub taken : (k : Expected) (K : Kinds) (t : Token) (ts : Tokens) → has K (sort t) ≡ true → one_of k K (t ∷ ts) ≡ Ok (t, ts)
taken k K t ts h = rw h refl

token_found : (k : Expected) (K : Kinds) (ts : Tokens) (a : Token) (rest : Tokens) → one_of k K ts ≡ Ok (a, rest) → OneOf K ts a rest
token_found k K [] a rest h = absurd cc
token_found k K (t ∷ ts) a rest h = by_case (has K (sort t))
    (λ is. let e : (t, ts) ≡ (a, rest) = unwrap (t, ts) (a, rest) (sym (taken k K t ts is) ∙ h) in
    (ap (λ (p : Token × Tokens). p.0 ∷ p.1) e, ap (λ (p : Token × Tokens). has K (sort p.0)) (sym e) ∙ is))
    (λ is. let f = refused k K (t ∷ ts) is in absurd cc)

-- the same at any depth
abbrev pub steady : {A : Type 0} → Reader A → Pair A
steady p i = p

token_goes : (S : Standing) (k : Expected) (K : Kinds) (e : Token) → has K (sort e) ≡ true → has K 0 ≡ false → ((r : Tokens) → S k (e ∷ r)) →
    (ts : Tokens) → Goes S (steady (one_of k K)) K false [] ts (one_of k K ts)
token_goes S k K e is end stands ts = by_case (has K (next ts)) (yes_at ts) (λ f. subst (Goes S (steady (one_of k K)) K false [] ts) (sym (refused k K ts f)) record {
  used = [];
  rest = ts;
  whole = refl;
  left = refl;
  again = λ i r s. refused k K r (ap (has K) (sym s) ∙ f);
  more = e ∷ [];
  value = e;
  ends = λ r _. taken k K e r is;
  stands = stands;
  shape = inr (refl, refl, f, (e, [], refl, is));
}) where
  yes_at : (ts : Tokens) → has K (next ts) ≡ true → Goes S (steady (one_of k K)) K false [] ts (one_of k K ts)
  yes_at [] h = absurd cc
  yes_at (t ∷ ts) h = subst (Goes S (steady (one_of k K)) K false [] (t ∷ ts)) (sym (taken k K t ts h)) record {
    used = t ∷ [];
    whole = refl;
    again = λ i r _. taken k K t r h;
    shape = inl (t, [], refl);
  }

-- a token has no depth
abbrev pub flat : {A : Type 0} → A → ℕ
flat a = 0

pub token_law : (S : Standing) (d : ℕ) (k : Expected) (K : Kinds) (e : Token) → has K (sort e) ≡ true → has K 0 ≡ false → ((r : Tokens) → S k (e ∷ r)) →
    Law S (λ n. OneOf K) flat d (steady (one_of k K)) K false [] []
token_law S d k K e is end stands = record {
  found = λ n ts a rest _. token_found k K ts a rest;
  within = λ ts a rest h. omega arith;
  only = λ n ts a rest r _ _. rw (r.0) (taken k K a rest (r.1));
  starts = λ n ts a rest r _. inl (rw (r.0) (r.1), rw (r.0) (omega arith));
  goes = token_goes S k K e is end stands;
}

abbrev pub token_least : (k : Expected) (K : Kinds) (e : Token) → has K (sort e) ≡ true → Least (one_of k K) K false []
token_least k K e is = record { word = e ∷ []; value = e; reads = λ r _. taken k K e r is; shape = inr (refl, (e, [], refl, is)) }

-- ---- nothing

pub nothing_law : {A : Type 0} (S : Standing) (d : ℕ) (depth : A → ℕ) (a : A) → depth a ≤ d → Law S (λ n. Nothing a) depth d (steady (nothing a)) [] true [] []
nothing_law {A} S d depth a le = record {
  found = λ n ts b rest _ h. let e : (a, ts) ≡ (b, rest) = unwrap (a, ts) (b, rest) h in (ap (λ (p : A × Tokens). p.1) e, sym (ap (λ (p : A × Tokens). p.0) e));
  within = λ ts b rest h. let e : (a, ts) ≡ (b, rest) = unwrap (a, ts) (b, rest) h in subst (λ (p : A × Tokens). depth p.0 ≤ d) e le;
  only = λ n ts b rest r _ _. rw (r.0, r.1) refl;
  starts = λ n ts b rest r _. inr (refl, r.0);
  goes = λ ts. record { used = []; whole = refl; again = λ i r _. refl; shape = inr (refl, refl, refl) };
}

abbrev pub nothing_least : {A : Type 0} (a : A) → Least (nothing a) [] true []
nothing_least a = record { word = []; value = a; reads = λ r _. refl; shape = inl (refl, refl) }

-- ---- made

pub made_is : {A B : Type 0} (f : A → B) (q : Reader A) (ts : Tokens) (a : A) (rest : Tokens) → q ts ≡ Ok (a, rest) → made f q ts ≡ Ok (f a, rest)
made_is f q ts a rest h = rw h refl

pub made_fails : {A B : Type 0} (f : A → B) (q : Reader A) (ts : Tokens) (e : Stop) → q ts ≡ Err e → made f q ts ≡ Err e
made_fails f q ts e h = rw h refl

abbrev pub made_pair : {A B : Type 0} → (A → B) → Pair A → Pair B
made_pair f w i = made f (w i)

pub made_goes : {A B : Type 0} (S : Standing) (f : A → B) (w : Pair A) (F : Kinds) (N : Bool) (Y : Kinds) (ts : Tokens) (x : Read A) → Goes S w F N Y ts x →
    Goes S (made_pair f w) F N Y ts (then_do x (λ a rest. Ok (f a, rest)))
made_goes S f w F N Y ts (Ok x) s = record { used = s.used; whole = s.whole; again = λ i r m. made_is f (w i) _ _ _ (s.again i r m); shape = s.shape }
made_goes S f w F N Y ts (Err (stop.Unexpected k n)) s = record {
  used = s.used;
  rest = s.rest;
  whole = s.whole;
  left = s.left;
  again = λ i r m. made_fails f (w i) _ _ (s.again i r m);
  more = s.more;
  value = f s.value;
  ends = λ r m. made_is f (w true) _ _ _ (s.ends r m);
  stands = s.stands;
  shape = s.shape;
}
made_goes S f w F N Y ts (Err (stop.TooDeep n)) s = record {
  used = s.used;
  token = s.token;
  after = s.after;
  whole = s.whole;
  left = s.left;
  again = λ r m. made_fails f (w false) _ _ (s.again r m);
  more = s.more;
  value = f s.value;
  ends = λ r m. made_is f (w true) _ _ _ (s.ends r m);
  shape = s.shape;
}
made_goes S f w F N Y ts (Err stop.NoMemory) s = s

-- e is what the tree that is made may be deep where its part may be deep d
pub made_law : {A B : Type 0} {S : Standing} {R : Rules A} {depth : A → ℕ} {d : ℕ} {w : Pair A} {F : Kinds} {N : Bool} {X Y : Kinds} (f : A → B) (deep : B → ℕ) (e : ℕ) →
    (d ≤ e) → ((a : A) → depth a ≤ d → deep (f a) ≤ e) → ((a : A) → deep (f a) ≤ e → depth a ≤ d) →
    Law S R depth d w F N X Y → Law S (λ n. Made f (R n)) deep e (made_pair f w) F N X Y
made_law {A} {B} {S} {R} {depth} {d} {w} {F} {N} {X} {Y} f deep e le fits back l = record {
  found = λ n ts b rest m h.
      let i = then_inv (w false ts) (λ a rest. Ok (f a, rest)) (b, rest) h in
      let g : (f i.0.0, i.0.1) ≡ (b, rest) = unwrap (f i.0.0, i.0.1) (b, rest) (i.2) in
      (i.0.0, subst (R n ts i.0.0) (ap (λ (p : B × Tokens). p.1) g) (l.found n ts i.0.0 i.0.1 (omega (arith, le, m)) i.1), sym (ap (λ (p : B × Tokens). p.0) g));
  within = λ ts b rest h.
      let i = then_inv (w false ts) (λ a rest. Ok (f a, rest)) (b, rest) h in
      let g : (f i.0.0, i.0.1) ≡ (b, rest) = unwrap (f i.0.0, i.0.1) (b, rest) (i.2) in
      subst (λ (p : B × Tokens). deep p.0 ≤ e) g (fits i.0.0 (l.within ts i.0.0 i.0.1 i.1));
  only = λ n ts b rest r deep_enough m. made_is f (w false) ts r.0 rest (l.only n ts r.0 rest r.1 (back r.0 (subst (λ (c : B). deep c ≤ e) (r.2) deep_enough)) m) ∙ ap (λ c. Ok (c, rest)) (sym (r.2));
  starts = λ n ts b rest r deep_enough. l.starts n ts r.0 rest r.1 (back r.0 (subst (λ (c : B). deep c ≤ e) (r.2) deep_enough));
  goes = λ ts. made_goes S f w F N Y ts (w false ts) (l.goes ts);
}

abbrev pub made_least : {A B : Type 0} {q : Reader A} {F : Kinds} {N : Bool} {Y : Kinds} (f : A → B) → Least q F N Y → Least (made f q) F N Y
made_least {q = q} f l = record { word = l.word; value = f l.value; reads = λ r m. made_is f q _ _ _ (l.reads r m); shape = l.shape }
