-- What each first token can be completed by, and that no tree is of depth 0.
use Rattle.std.proofs.Common.{◌≡◌, ℕ, suc, ◌≤◌, Bool, true, false, ◌||◌, cond, List, [], ◌∷◌, ◌++◌, length, fold, refl, sym, ap, subst, ◌∙◌, arith, inl, inr, ◌⊎◌, append_assoc, Some, Ok}
use Rattle.ligo_tokens.specs.declared.token.Token.{Token}
use Rattle.ligo_tokens.specs.declared.token.Kind.{Kind}
use Rattle.ligo_syntax.specs.declared.fault.Expected.{Expected}
use Rattle.ligo_syntax.specs.declared.fault.Expected.TheVariants as expected
use Rattle.ligo_syntax.specs.Kinds.{Tokens, Kinds, sort, next, has, Ends}
use Rattle.ligo_syntax.specs.Rules.{Rule, Made, Both, Either, Chain}
use Rattle.ligo_syntax.specs.Readers.{Reader, one_of, both, made, either, before, chain, loop, repeated}
use Rattle.ligo_syntax.specs.Phrases.{optional, key, from}
use Rattle.ligo_syntax.proofs.Loops.{loop_is, loop_stops}
use Rattle.ligo_syntax.proofs.Words.{apart_either}
use Rattle.ligo_syntax.proofs.Sets.{apart, within, when, by_case, apart_has, within_has, within_holds, ends_first, ends_second, has_append}
use Rattle.ligo_syntax.proofs.RuleLaws.{Begins, Least, begins_next, made_is, taken}
use Rattle.ligo_syntax.proofs.Sequences.{both_is, or_false, when_is}
use Rattle.ligo_syntax.proofs.Deep.{Completes, Refuses}
use Rattle.ligo_syntax.proofs.Links.{links_none}

abbrev pub token_completes : (k : Expected) (K : Kinds) → Completes (one_of k K) K []
token_completes k K = record { more = λ t. []; value = λ t. t; reads = λ t h r m. taken k K t r h }

abbrev pub made_completes : {A B : Type 0} {q : Reader A} {F Y : Kinds} (f : A → B) → Completes q F Y → Completes (made f q) F Y
made_completes {q = q} f c = record { more = c.more; value = λ t. f (c.value t); reads = λ t h r m. made_is f q _ _ _ (c.reads t h r m) }

pub word_ends : (F' : Kinds) (N' : Bool) (Y Y' : Kinds) (word r : Tokens) → (N' || apart F' Y) ≡ true → ((N' ≡ true) × (word ≡ [])) ⊎ ((N' ≡ false) × Begins F' word) → Ends (Y' ++ when N' Y) r → Ends Y (word ++ r)
word_ends F' N' Y Y' word r c (inl h) m = rw (h.1) (when_is N' Y r (h.0) (ends_second Y' (when N' Y) r m))
word_ends F' N' Y Y' word r c (inr h) m = apart_has F' Y (next (word ++ r)) (or_false N' (apart F' Y) (h.0) c) (begins_next F' word r (h.1))

abbrev pub both_completes : {A B : Type 0} {q : Reader A} {F Y : Kinds} {q' : Reader B} {F' : Kinds} {N' : Bool} {Y' : Kinds} → Completes q F Y → Least q' F' N' Y' → (N' || apart F' Y) ≡ true → Completes (both q q') F (Y' ++ when N' Y)
both_completes {A} {B} {q} {F} {Y} {q'} {F'} {N'} {Y'} c l k = record {
  more = λ t. c.more t ++ l.word;
  value = λ t. (c.value t, l.value);
  reads = λ t h r m. ap (λ l. both q q' (t ∷ l)) (append_assoc (c.more t) l.word r) ∙
      both_is q q' (t ∷ (c.more t ++ (l.word ++ r))) (c.value t) (l.word ++ r) l.value r (c.reads t h (l.word ++ r) (word_ends F' N' Y Y' l.word r k l.shape m)) (l.reads r (ends_first Y' (when N' Y) r m));
}

either_here : {A : Type 0} (q q' : Reader A) (F : Kinds) (ts : Tokens) → has F (next ts) ≡ true → either F q q' ts ≡ q ts
either_here q q' F ts h = rw h refl

either_there : {A : Type 0} (q q' : Reader A) (F : Kinds) (ts : Tokens) → has F (next ts) ≡ false → either F q q' ts ≡ q' ts
either_there q q' F ts h = rw h refl

second_of : (F F' : Kinds) (k : ℕ) → has (F ++ F') k ≡ true → has F k ≡ false → has F' k ≡ true
second_of F F' k h f = ap (λ b. b || has F' k) (sym f) ∙ sym (has_append F F' k) ∙ h

abbrev chosen : {A : Type 0} → Bool → (Token → A) → (Token → A) → Token → A
chosen b f g t = cond b (f t) (g t)

pub either_completes : {A : Type 0} {q : Reader A} {F Y : Kinds} {q' : Reader A} {F' Y' : Kinds} → Completes q F Y → Completes q' F' Y' → Completes (either F q q') (F ++ F') (Y ++ Y')
either_completes {A} {q} {F} {Y} {q'} {F'} {Y'} c c' = record {
  more = λ t. chosen (has F (sort t)) c.more c'.more t;
  value = λ t. chosen (has F (sort t)) c.value c'.value t;
  reads = λ t h r m. by_case (has F (sort t)) (λ is. first t r is m) (λ is. second t r h is m);
} where
  first : (t : Token) (r : Tokens) (is : has F (sort t) ≡ true) → Ends (Y ++ Y') r → either F q q' (t ∷ (chosen (has F (sort t)) c.more c'.more t ++ r)) ≡ Ok (chosen (has F (sort t)) c.value c'.value t, r)
  first t r is m = let e = c.reads t is r (ends_first Y Y' r m) in rw is (e)

  second : (t : Token) (r : Tokens) → has (F ++ F') (sort t) ≡ true → (is : has F (sort t) ≡ false) → Ends (Y ++ Y') r → either F q q' (t ∷ (chosen (has F (sort t)) c.more c'.more t ++ r)) ≡ Ok (chosen (has F (sort t)) c.value c'.value t, r)
  second t r h is m = let e = c'.reads t (second_of F F' (sort t) h is) r (ends_second Y Y' r m) in rw is (e)

pub chain_completes : {A B : Type 0} {q : Reader B} {G Y : Kinds} (depth : B → ℕ) (d : ℕ) (f : B → A → B) (F : Kinds) (p : Reader A) (Y' : Kinds) → Completes q G Y → Completes (chain depth d f q F p) G ((F ++ Y') ++ Y)
chain_completes {A} {B} {q} {G} {Y} depth d f F p Y' c = record { more = c.more; value = c.value; reads = reads } where
  reads : (t : Token) → has G (sort t) ≡ true → (r : Tokens) → Ends ((F ++ Y') ++ Y) r → chain depth d f q F p (t ∷ (c.more t ++ r)) ≡ Ok (c.value t, r)
  reads t h r m =
      let e = c.reads t h r (ends_second (F ++ Y') Y r m) in
      let n = links_none depth d f F p (length r) (c.value t) r (ends_first F Y' r (ends_first (F ++ Y') Y r m)) in
      rw e n

pub before_completes : {A : Type 0} {q : Reader A} {F Y : Kinds} (depth : A → ℕ) (d : ℕ) (K : Kinds) → Completes q F Y → Completes (before depth d K q) F (K ++ Y)
before_completes {A} {q} {F} {Y} depth d K c = record { more = c.more; value = c.value; reads = reads } where
  reads : (t : Token) → has F (sort t) ≡ true → (r : Tokens) → Ends (K ++ Y) r → before depth d K q (t ∷ (c.more t ++ r)) ≡ Ok (c.value t, r)
  reads t h r m = let e = c.reads t h r (ends_second K Y r m) in let k = ends_first K Y r m in rw (e, k) refl

pub completes_widened : {A : Type 0} {q : Reader A} {F Y : Kinds} (F' Y' : Kinds) → Completes q F Y → within F' F ≡ true → within Y Y' ≡ true → Completes q F' Y'
completes_widened {A} {q} {F} {Y} F' Y' c f y = record { more = c.more; value = c.value; reads = λ t h r m. c.reads t (within_holds F' F (sort t) f h) r (within_has Y Y' (next r) y m) }

-- ---- what begins with none of its kinds

pub chain_refuses : {A B : Type 0} {q : Reader B} {k : Expected} {G : Kinds} (depth : B → ℕ) (d : ℕ) (f : B → A → B) (F : Kinds) (p : Reader A) → Refuses q k G → Refuses (chain depth d f q F p) k G
chain_refuses depth d f F p h = record { each = λ ts e. rw (h.each ts e) refl }

pub before_refuses : {A : Type 0} {q : Reader A} {k : Expected} {F : Kinds} (depth : A → ℕ) (d : ℕ) (K : Kinds) → Refuses q k F → Refuses (before depth d K q) k F
before_refuses depth d K h = record { each = λ ts e. rw (h.each ts e) refl }

pub refuses_widened : {A : Type 0} {q : Reader A} {k : Expected} {F : Kinds} (F' : Kinds) → Refuses q k F → within F F' ≡ true → Refuses q k F'
refuses_widened {F = F} F' h c = record { each = λ ts e. h.each ts (within_has F F' (next ts) c e) }

-- ---- least ones

abbrev pub before_least : {A : Type 0} {q : Reader A} {F Y : Kinds} (depth : A → ℕ) (d : ℕ) (K : Kinds) → Least q F false Y → Least (before depth d K q) F false (K ++ Y)
before_least {A} {q} {F} {Y} depth d K l = record { word = l.word; value = l.value; reads = λ r m. on r (l.reads r (ends_second K Y r m)) (ends_first K Y r m); shape = l.shape } where
  on : (r : Tokens) → q (l.word ++ r) ≡ Ok (l.value, r) → has K (next r) ≡ false → before depth d K q (l.word ++ r) ≡ Ok (l.value, r)
  on r h k = rw (h, k) refl

-- ---- each tree has a depth

abbrev pub Positive : {A : Type 0} → (A → ℕ) → Rule A → Type 0
Positive {A} depth R = (ts : Tokens) (a : A) (rest : Tokens) → R ts a rest → 1 ≤ depth a

pub made_positive : {A B : Type 0} (deep : B → ℕ) (f : A → B) (R : Rule A) → ((a : A) → 1 ≤ deep (f a)) → Positive deep (Made f R)
made_positive deep f R g ts b rest r = subst (λ c. 1 ≤ deep c) (sym (r.2)) (g r.0)

pub either_positive : {A : Type 0} {depth : A → ℕ} {R R' : Rule A} → Positive depth R → Positive depth R' → Positive depth (Either R R')
either_positive p p' ts a rest (inl r) = p ts a rest r
either_positive p p' ts a rest (inr r) = p' ts a rest r

fold_positive : {A B : Type 0} (depth : B → ℕ) (f : B → A → B) → ((b : B) (a : A) → 1 ≤ depth (f b a)) → (b : B) (all : List A) → 1 ≤ depth b → 1 ≤ depth (fold f b all)
fold_positive depth f g b [] le = le
fold_positive depth f g b (a ∷ more) le = fold_positive depth f g (f b a) more (g b a)

pub chain_positive : {A B : Type 0} {depth : B → ℕ} {R : Rule B} (f : B → A → B) (L : Rule A) → ((b : B) (a : A) → 1 ≤ depth (f b a)) → Positive depth R → Positive depth (Chain f R L)
chain_positive {depth = depth} f L g p ts b rest r = subst (λ c. 1 ≤ depth c) (sym (r.2)) (fold_positive depth f g (r.0).0 (r.0).1 (p ts (r.0).0 (r.1).0 (r.1).1))

-- where a pair keeps at least the depth of its first part
pub both_positive : {A B C : Type 0} {depth : A → ℕ} {R : Rule A} (deep : C → ℕ) (f : A × B → C) (R' : Rule B) → ((p : A × B) → 1 ≤ depth p.0 → 1 ≤ deep (f p)) → Positive depth R → Positive deep (Made f (Both R R'))
both_positive deep f R' g p ts b rest r = subst (λ c. 1 ≤ deep c) (sym (r.2)) (g r.0 (p ts (r.0).0 (r.1).0 (r.1).1))

-- ---- repetition and options

pub repeated_completes : {A : Type 0} {q : Reader A} {F Y : Kinds} → Completes q F Y → Completes (repeated F q) F (F ++ Y)
repeated_completes {A} {q} {F} {Y} c = record { more = c.more; value = λ t. c.value t ∷ []; reads = reads } where
  reads : (t : Token) → has F (sort t) ≡ true → (r : Tokens) → Ends (F ++ Y) r → repeated F q (t ∷ (c.more t ++ r)) ≡ Ok (c.value t ∷ [], r)
  reads t h r m =
      let n : length (t ∷ (c.more t ++ r)) ≡ suc (length (c.more t ++ r)) = omega arith in
      ap (λ n. loop F q n (t ∷ (c.more t ++ r))) n ∙ loop_is q F (length (c.more t ++ r)) (t ∷ (c.more t ++ r)) (c.value t) r [] r h (c.reads t h r (ends_second F Y r m)) (loop_stops q F (length (c.more t ++ r)) r (ends_first F Y r m))

pub optional_completes : {A : Type 0} {q : Reader A} {F Y : Kinds} → Completes q F Y → Completes (optional F q) F Y
optional_completes {A} {q} {F} {Y} c = record { more = c.more; value = λ t. Some (c.value t); reads = reads } where
  reads : (t : Token) → has F (sort t) ≡ true → (r : Tokens) → Ends Y r → optional F q (t ∷ (c.more t ++ r)) ≡ Ok (Some (c.value t), r)
  reads t h r m = let e = c.reads t h r m in rw (h, e) refl

-- a word, and then something
abbrev pub key_completes : {A : Type 0} {q : Reader A} {F : Kinds} {N : Bool} {Y : Kinds} (k : Kind) → Least q F N Y → Completes (key k q) (k ∷ []) (Y ++ when N [])
key_completes {F = F} {N = N} k l = made_completes (λ (p : Token × _). p.1) (both_completes (token_completes expected.Token (k ∷ [])) l (apart_either N F))

abbrev pub from_completes : {A : Type 0} {q : Reader A} {F : Kinds} {N : Bool} {Y : Kinds} (k : Kind) → Least q F N Y → Completes (from k q) (k ∷ []) (Y ++ when N [])
from_completes {A} {F = F} {N = N} k l = made_completes (λ (p : Token × A). (p.0.at, p.1)) (both_completes (token_completes expected.Token (k ∷ [])) l (apart_either N F))
