-- The law of something with a tail, that is less deep where the tail has anything.
use Rattle.std.proofs.Common.{◌≡◌, ℕ, suc, max, ◌<◌, ◌≤◌, nat_lt, Bool, true, false, cond, List, [], ◌∷◌, ◌++◌, length, refl, sym, ap, subst, ◌∙◌, arith, inl, inr, Ok, Err, Option, Some, None}
use Rattle.ligo_syntax.specs.declared.fault.Stop.TheVariants as stop
use Rattle.ligo_syntax.specs.Kinds.{Tokens, Kinds, next, has, Ends}
use Rattle.ligo_syntax.specs.Rules.{Rule, Both, Onward, Repeated, AsMany, Optional}
use Rattle.ligo_syntax.specs.Readers.{Read, Reader, then_do, both, before}
use Rattle.ligo_syntax.proofs.Sets.{apart, within, when, by_case, within_has, ends_first, ends_second}
use Rattle.ligo_syntax.proofs.RuleLaws.{May, Standing, Rules, Pair, Sinks, Goes, Law, Least, unwrap}
use Rattle.ligo_syntax.proofs.Sequences.{onward_pair, onward_law, deeper}
use Rattle.ligo_syntax.proofs.Deep.{Completes}
use Rattle.ligo_syntax.proofs.Loops.{loop_stops, repeated_pair}
use Rattle.ligo_syntax.proofs.Words.{optional_pair}
use Rattle.ligo_syntax.proofs.Moves.{alike_law, refit}
use Rattle.ligo_syntax.proofs.Links.{limits}
use Rattle.ligo_syntax.proofs.Turns.{is_below}

is_lower : (n d : ℕ) → nat_lt n d ≡ true → n < d
is_lower n d h = grind arith

-- a tail behind something so deep, where K is what tails begin with
abbrev pub guarded : {B : Type 0} → ℕ → ℕ → Kinds → Reader B → Reader B
guarded n d K q ts = cond (has K (next ts)) (cond (nat_lt n d) (q ts) (Err (stop.TooDeep (length ts)))) (q ts)

abbrev pub guarded_pair : {B : Type 0} → ℕ → (Bool → ℕ) → Kinds → Pair B → Pair B
guarded_pair n limit K w i = guarded n (limit i) K (w i)

-- a tail, which has anything only behind what is less deep
abbrev pub Guarded : {B : Type 0} → (B → Bool) → ℕ → ℕ → Rule B → Rule B
Guarded many n d R ts b rest = R ts b rest × (many b ≡ true → n < d)

-- what tails are: with none of K in front they are empty, and they are empty only so
pub record Tail {B : Type 0} (R : Rules B) (w : Pair B) (many : B → Bool) (K : Kinds) (X Y : Kinds) : Type 0 where
  pub none : B
  pub empty : many none ≡ false
  pub stops : (i : Bool) (ts : Tokens) → has K (next ts) ≡ false → w i ts ≡ Ok (none, ts)
  pub ended : (n : ℕ) (ts : Tokens) (b : B) (rest : Tokens) → R n ts b rest → many b ≡ false → Ends X rest → has K (next ts) ≡ false
  pub reached : within K Y ≡ true
  pub end : has K 0 ≡ false

free : {B : Type 0} (n d : ℕ) (K : Kinds) (q : Reader B) (ts : Tokens) → nat_lt n d ≡ true → guarded n d K q ts ≡ q ts
free n d K q ts lt = rw lt (either_way (has K (next ts))) where
  either_way : (b : Bool) → cond b (q ts) (q ts) ≡ q ts
  either_way true = refl
  either_way false = refl

pub beside : {B : Type 0} (n d : ℕ) (K : Kinds) (q : Reader B) (ts : Tokens) → has K (next ts) ≡ false → guarded n d K q ts ≡ q ts
beside n d K q ts h = rw h refl

barred : {B : Type 0} (n d : ℕ) (K : Kinds) (q : Reader B) (ts : Tokens) → has K (next ts) ≡ true → nat_lt n d ≡ false → guarded n d K q ts ≡ Err (stop.TooDeep (length ts))
barred n d K q ts h full = rw (h, full) refl

module _ {B : Type 0} {S : Standing} {R : Rules B} {depth : B → ℕ} {d : ℕ} {w : Pair B} {K : Kinds} {X Y : Kinds} (d' : ℕ) (below : d < d') (many : B → Bool) (l : Law S R depth d w K true X Y) (t : Tail R w many K X Y)
    (complete : Completes (w true) K Y) (n : ℕ) where
  free_law : n < d → Law S (λ m. Guarded many n d (R m)) depth d (guarded_pair n (limits d d') K w) K true X Y
  free_law lt = alike_law (guarded_pair n (limits d d') K w) same
      (refit (λ m. Guarded many n d (R m)) depth d (λ m ts b rest le h. (l.found m ts b rest le h, λ _. lt)) l.within (λ m ts b rest r le. (m, r.0, le)) l) where
        same : (i : Bool) (ts : Tokens) → w i ts ≡ guarded_pair n (limits d d') K w i ts
        same false ts = sym (free n d K (w false) ts (is_below n d lt))
        same true ts = sym (free n d' K (w true) ts (is_below n d' (omega (arith, lt, below))))

  no_more : (ts : Tokens) (b : B) (rest : Tokens) → nat_lt n d ≡ false → guarded n d K (w false) ts ≡ Ok (b, rest) → (w false ts ≡ Ok (b, rest)) × (many b ≡ false)
  no_more ts b rest full h = by_case (has K (next ts))
      (λ is. let e : Path (Read B) (Err (stop.TooDeep (length ts))) (Ok (b, rest)) = sym (barred n d K (w false) ts is full) ∙ h in absurd cc)
      (λ is. let k = sym (beside n d K (w false) ts is) ∙ h in let e = unwrap (t.none, ts) (b, rest) (sym (t.stops false ts is) ∙ k) in
      (k, subst (λ (p : B × Tokens). many p.0 ≡ false) e t.empty))

  not_many : (b : B) → nat_lt n d ≡ false → (many b ≡ true → n < d) → many b ≡ false
  not_many b full g = by_case (many b) (λ is. let lt = g is in let u = is_below n d lt in absurd cc) (λ is. is)

  full_goes : n ≤ d → nat_lt n d ≡ false → (ts : Tokens) → Goes S (guarded_pair n (limits d d') K w) K true Y ts (guarded n d K (w false) ts)
  full_goes le full ts = by_case (has K (next ts))
      (λ is. subst (Goes S (guarded_pair n (limits d d') K w) K true Y ts) (sym (barred n d K (w false) ts is full)) (sinks ts is))
      (λ is. subst (Goes S (guarded_pair n (limits d d') K w) K true Y ts) (sym (t.stops false ts is) ∙ sym (beside n d K (w false) ts is)) record {
        used = [];
        whole = refl;
        again = λ i r m. beside n (limits d d' i) K (w i) r (stops ts is r m) ∙ t.stops i r (stops ts is r m);
        shape = inr (refl, refl, is);
      }) where
        stops : (ts : Tokens) → has K (next ts) ≡ false → (r : Tokens) → May Y ts r → has K (next r) ≡ false
        stops ts is r (inl m) = ap (has K) (sym m) ∙ is
        stops ts is r (inr m) = within_has K Y (next r) t.reached m

        sinks : (ts : Tokens) → has K (next ts) ≡ true → Sinks (guarded_pair n (limits d d') K w) K Y ts (length ts)
        sinks [] is = let e : has K 0 ≡ false = t.end in absurd cc
        sinks (x ∷ ts) is = record {
          used = [];
          token = x;
          after = ts;
          whole = refl;
          left = refl;
          again = λ r m. barred n d K (w false) r (ap (has K) (sym m) ∙ is) full;
          more = complete.more x;
          value = complete.value x;
          ends = λ r m. free n d' K (w true) (x ∷ (complete.more x ++ r)) (is_below n d' (omega (arith, le, below))) ∙ complete.reads x is r m;
          shape = inr (refl, is);
        }

  full_law : n ≤ d → nat_lt n d ≡ false → Law S (λ m. Guarded many n d (R m)) depth d (guarded_pair n (limits d d') K w) K true X Y
  full_law le full = record {
    found = λ m ts b rest e h. let k = no_more ts b rest full h in (l.found m ts b rest e (k.0), λ is. let u = k.1 in absurd cc);
    within = λ ts b rest h. l.within ts b rest (no_more ts b rest full h).0;
    only = λ m ts b rest r e k. beside n d K (w false) ts (t.ended m ts b rest (r.0) (not_many b full (r.1)) k) ∙ l.only m ts b rest (r.0) e k;
    starts = λ m ts b rest r e. l.starts m ts b rest (r.0) e;
    goes = full_goes le full;
  }

  pub guarded_law : n ≤ d → Law S (λ m. Guarded many n d (R m)) depth d (guarded_pair n (limits d d') K w) K true X Y
  guarded_law le = by_case (nat_lt n d) (λ lt. free_law (is_lower n d lt)) (λ full. full_law le full)

-- how deep something is with a tail, where the tail makes it one deeper
abbrev pub tailed : {A B : Type 0} → (A → ℕ) → (B → ℕ) → (B → Bool) → A × B → ℕ
tailed depth inner many p = max (cond (many p.1) (suc (depth p.0)) (depth p.0)) (inner p.1)

abbrev pub before_pair : {A B : Type 0} → (A → ℕ) → (Bool → ℕ) → Kinds → Pair A → Pair B → Pair (A × B)
before_pair depth limit K v w i = both (before depth (limit i) K (v i)) (w i)

tailed_is : {A B : Type 0} (depth : A → ℕ) (inner : B → ℕ) (many : B → Bool) (d : ℕ) (p : A × B) → depth p.0 ≤ d → inner p.1 ≤ d → (many p.1 ≡ true → depth p.0 < d) → tailed depth inner many p ≤ d
tailed_is depth inner many d p le le' g = by_case (many p.1)
    (λ is. let lt = g is in let e : tailed depth inner many p ≡ max (suc (depth p.0)) (inner p.1) = rw is refl in omega (arith, e, lt, le'))
    (λ is. let e : tailed depth inner many p ≡ max (depth p.0) (inner p.1) = rw is refl in omega (arith, e, le, le'))

tailed_has : {A B : Type 0} (depth : A → ℕ) (inner : B → ℕ) (many : B → Bool) (d : ℕ) (p : A × B) → tailed depth inner many p ≤ d → (depth p.0 ≤ d) × (inner p.1 ≤ d) × (many p.1 ≡ true → depth p.0 < d)
tailed_has depth inner many d p le = by_case (many p.1)
    (λ is. let e : tailed depth inner many p ≡ max (suc (depth p.0)) (inner p.1) = rw is refl in (omega (arith, e, le), omega (arith, e, le), λ _. omega (arith, e, le)))
    (λ is. let e : tailed depth inner many p ≡ max (depth p.0) (inner p.1) = rw is refl in (omega (arith, e, le), omega (arith, e, le), λ f. absurd cc))

abbrev pub guarded_least : {B : Type 0} (n d : ℕ) (many : B → Bool) (K Y : Kinds) (q : Reader B) (none : B) → within K Y ≡ true → ((ts : Tokens) → has K (next ts) ≡ false → q ts ≡ Ok (none, ts)) → Least (guarded n d K q) K true Y
guarded_least n d many K Y q none c stops = record {
  word = [];
  value = none;
  reads = λ r m. beside n d K q r (within_has K Y (next r) c m) ∙ stops r (within_has K Y (next r) c m);
  shape = inl (refl, refl);
}

pub tailed_law : {A B : Type 0} {S : Standing} {R : Rules A} {depth : A → ℕ} {d : ℕ} {v : Pair A} {F : Kinds} {X Y : Kinds} {R' : Rules B} {inner : B → ℕ} {w : Pair B} {K : Kinds} {X' Y' : Kinds} (d' : ℕ) (many : B → Bool) → d < d' →
    Law S R depth d v F false X Y → Law S R' inner d w K true X' Y' → Tail R' w many K X' Y' → Completes (w true) K Y' → apart K X ≡ true →
    Law S (λ n. Both (R n) (R' n)) (tailed depth inner many) d (before_pair depth (limits d d') K v w) (F ++ []) false (X' ++ X) (Y' ++ Y)
tailed_law {A} {B} {S} {R} {depth} {d} {v} {F} {X} {Y} {R'} {inner} {w} {K} {X'} {Y'} d' many below l l' t complete c = alike_law (before_pair depth (limits d d') K v w) (λ i ts. same i (v i ts)) moved where
  whole : Law S (λ n. Onward (R n) (λ a. Guarded many (depth a) d (R' n))) (deeper depth inner) d (onward_pair v (λ a. guarded_pair (depth a) (limits d d') K w)) (F ++ []) false (X' ++ X) (Y' ++ Y)
  whole = onward_law l (λ a le. guarded_law d' below many l' t complete (depth a) le) (λ a. guarded_least (depth a) d' many K Y' (w true) t.none t.reached (t.stops true)) c refl

  moved : Law S (λ n. Both (R n) (R' n)) (tailed depth inner many) d (onward_pair v (λ a. guarded_pair (depth a) (limits d d') K w)) (F ++ []) false (X' ++ X) (Y' ++ Y)
  moved = refit (λ n. Both (R n) (R' n)) (tailed depth inner many) d (λ n ts p rest m h. let r = whole.found n ts p rest m h in (r.0, r.1, (r.2).0))
      (λ ts p rest h. let r = whole.found d ts p rest (omega arith) h in let i = whole.within ts p rest h in tailed_is depth inner many d p (omega (arith, i)) (omega (arith, i)) (r.2).1)
      (λ n ts p rest r le. let i = tailed_has depth inner many d p le in (n, (r.0, r.1, (r.2, i.2)), omega (arith, i.0, i.1))) whole

  with_tail : Bool → A → Tokens → Read (A × B)
  with_tail i a rest = then_do {B = A × B} (w i rest) (λ b end. Ok ((a, b), end))

  guard : (i : Bool) (a : A) (rest : Tokens) (b b' : Bool) → Path (Read (A × B)) (then_do {B = A × B} (cond b (cond b' (w i rest) (Err (stop.TooDeep (length rest)))) (w i rest)) (λ b end. Ok ((a, b), end)))
      (then_do {A = A} {B = A × B} (cond b (cond b' (Ok (a, rest)) (Err (stop.TooDeep (length rest)))) (Ok (a, rest))) (with_tail i))
  guard i a rest true true = refl
  guard i a rest true false = refl
  guard i a rest false b' = refl

  same : (i : Bool) (x : Read A) → Path (Read (A × B)) (then_do {B = A × B} x (λ a rest. then_do {B = A × B} (guarded_pair (depth a) (limits d d') K w i rest) (λ b end. Ok ((a, b), end))))
      (then_do {A = A} {B = A × B} (then_do {B = A} x (λ a rest. cond (has K (next rest)) (cond (nat_lt (depth a) (limits d d' i)) (Ok (a, rest)) (Err (stop.TooDeep (length rest)))) (Ok (a, rest)))) (with_tail i))
  same i (Ok x) = guard i x.0 x.1 (has K (next x.1)) (nat_lt (depth x.0) (limits d d' i))
  same i (Err e) = refl

-- ---- the tails of the grammar

abbrev pub are_many : {A : Type 0} → List A → Bool
are_many [] = false
are_many (a ∷ more) = true

abbrev pub is_some : {A : Type 0} → Option A → Bool
is_some None = false
is_some (Some a) = true

pub repeated_tail : {A : Type 0} (R : Rules A) (w : Pair A) (K X Y : Kinds) → has K 0 ≡ false → within K (K ++ Y) ≡ true → Tail (λ n. Repeated (R n)) (repeated_pair K w) are_many K (K ++ X) (K ++ Y)
repeated_tail {A} R w K X Y z c = record {
  none = [];
  empty = refl;
  stops = λ i ts h. loop_stops (w i) K (length ts) ts h;
  ended = ended;
  reached = c;
  end = z;
} where
  ended : (n : ℕ) (ts : Tokens) (b : List A) (rest : Tokens) → Repeated (R n) ts b rest → are_many b ≡ false → Ends (K ++ X) rest → has K (next ts) ≡ false
  ended n ts [] rest r f m = rw r (ends_first K X rest m)
  ended n ts (a ∷ more) rest r f m = absurd cc

pub as_many_tail : {A : Type 0} (R : Rules A) (w : Pair A) (K X Y : Kinds) → has K 0 ≡ false → within K (K ++ Y) ≡ true → Tail (λ n. AsMany K (R n)) (repeated_pair K w) are_many K X (K ++ Y)
as_many_tail {A} R w K X Y z c = record {
  none = [];
  empty = refl;
  stops = λ i ts h. loop_stops (w i) K (length ts) ts h;
  ended = ended;
  reached = c;
  end = z;
} where
  ended : (n : ℕ) (ts : Tokens) (b : List A) (rest : Tokens) → AsMany K (R n) ts b rest → are_many b ≡ false → Ends X rest → has K (next ts) ≡ false
  ended n ts [] rest r f m = rw (r.0) (r.1)
  ended n ts (a ∷ more) rest r f m = absurd cc

pub optional_tail : {A : Type 0} (R : Rules A) (w : Pair A) (K X Y : Kinds) → has K 0 ≡ false → within K (Y ++ ([] ++ when true K)) ≡ true →
    Tail (λ n. Optional (R n)) (optional_pair K w) is_some K (X ++ ([] ++ when true K)) (Y ++ ([] ++ when true K))
optional_tail {A} R w K X Y z c = record {
  none = None;
  empty = refl;
  stops = λ i ts h. rw h refl;
  ended = ended;
  reached = c;
  end = z;
} where
  ended : (n : ℕ) (ts : Tokens) (b : Option A) (rest : Tokens) → Optional (R n) ts b rest → is_some b ≡ false → Ends (X ++ ([] ++ when true K)) rest → has K (next ts) ≡ false
  ended n ts b rest (inl r) f m = let e : is_some b ≡ true = rw (r.2) refl in absurd cc
  ended n ts b rest (inr r) f m = rw (r.0) (ends_second X K rest m)
