-- The law of readers that are made of others: tests, values made of what is read, one thing after another.
use Rattle.std.proofs.Common.{◌≡◌, ℕ, Bool, List, [], ◌++◌, length, Ok, refl, sym, ap, subst, ◌∙◌, append_assoc, arith}
use Rattle.std.specs.Prelude.{IsTrue}
use Rattle.byte_fields.specs.Stops.{Kind, Faulty, NotYet, Stopped}
use Rattle.byte_fields.specs.Readers.{given, Read, Reader, made, both, with, tested, checked, built}
use Rattle.byte_fields.specs.Laws.{IsBytes, Takes, OneSpelling, IsWithin, Reads, ReadsExactly}
use Rattle.byte_fields.proofs.Steps.{after_ok, ok_is, test_ok, passes, Takes-then, within_after, within_test, IsWithin-more}

-- ---- the same reader, by another spelling or in other words

pub reads_as : {A : Type 0} {read : Reader A} {spell : A → List ℕ} {Good : A → Type 0} (spell' : A → List ℕ) (Good' : A → Type 0) →
    ((a : A) → Good a → (spell a ≡ spell' a) × Good' a) → ((a : A) → Good' a → Good a) → Reads read spell Good → Reads read spell' Good'
reads_as {A} {read} {spell} {Good} spell' Good' to from r = record {
  takes = λ bytes a rest fits e.
      let t = r.takes bytes a rest fits e in
      (subst (λ (text : List ℕ). Takes bytes text rest) (to a t.1).0 t.0, (to a t.1).1);
  again = λ a rest good. ap (λ (text : List ℕ). read (text ++ rest)) (sym (to a (from a good)).0) ∙ r.again a rest (from a good);
  within = r.within;
}

-- ---- a value that takes no bytes

pub given_reads : {A : Type 0} (a : A) → Reads (given a) (λ b. []) (λ b. a ≡ b)
given_reads {A} a = record {
  takes = λ bytes b rest fits e. let is = ok_is (a, bytes) (b, rest) e in
      (record { parts = ap (λ (p : A × List ℕ). p.1) is; rest_fits = subst IsBytes (ap (λ (p : A × List ℕ). p.1) is) fits }, ap (λ (p : A × List ℕ). p.0) is);
  again = λ b rest is. ap (λ (b : A). Ok (b, rest)) is;
  within = λ bytes. omega arith;
}

-- ---- tests

pub tested_reads : {A : Type 0} {read : Reader A} {spell : A → List ℕ} {Good : A → Type 0} (kind : Kind) (test : A → Bool) → Reads read spell Good → Reads (tested kind test read) spell (λ a. Good a × IsTrue (test a))
tested_reads {A} {read} {spell} {Good} kind test r = record {
  takes = λ bytes a rest fits e.
      let s = after_ok (read bytes) _ a rest e in
      let t = r.takes bytes s.value s.rest fits s.was in
      let p = test_ok (test s.value) (Stopped kind (length bytes)) (s.value, s.rest) (a, rest) s.then_is in
      subst (λ (y : A × List ℕ). Takes bytes (spell y.0) y.1 × (Good y.0 × IsTrue (test y.0))) p.1 (t.0, (t.1, p.0));
  again = λ a rest good. rw (r.again a rest good.0) (passes (test a) _ (a, rest) good.1);
  within = λ bytes. within_after (length bytes) (read bytes) _ (r.within bytes) (λ a rest le. within_test kind (test a) (length bytes) a rest le);
}

pub checked_reads : {A : Type 0} {read : Reader A} {spell : A → List ℕ} {Good : A → Type 0} (test : A → Bool) → Reads read spell Good → Reads (checked test read) spell (λ a. Good a × IsTrue (test a))
checked_reads = tested_reads Faulty

pub built_reads : {A : Type 0} {read : Reader A} {spell : A → List ℕ} {Good : A → Type 0} (test : A → Bool) → Reads read spell Good → Reads (built test read) spell (λ a. Good a × IsTrue (test a))
built_reads = tested_reads NotYet

-- ---- a value that is made of what is read

pub made_takes : {A B : Type 0} {read : Reader A} {spell : A → List ℕ} {Good : A → Type 0} (f : A → B) (spell' : B → List ℕ) (Good' : B → Type 0) →
    ((a : A) → Good a → (spell a ≡ spell' (f a)) × Good' (f a)) → Reads read spell Good →
    (bytes : List ℕ) (b : B) (rest : List ℕ) → IsBytes bytes → made f read bytes ≡ Ok (b, rest) → Takes bytes (spell' b) rest × Good' b
made_takes {A} {B} {read} {spell} {Good} f spell' Good' to r bytes b rest fits e =
    let s = after_ok (read bytes) _ b rest e in
    let t = r.takes bytes s.value s.rest fits s.was in
    let is = to s.value t.1 in
    subst (λ (y : B × List ℕ). Takes bytes (spell' y.0) y.1 × Good' y.0) (ok_is (f s.value, s.rest) (b, rest) s.then_is)
    (subst (λ (text : List ℕ). Takes bytes text s.rest) is.0 t.0, is.1)

pub made_again : {A B : Type 0} {read : Reader A} {spell : A → List ℕ} {Good : A → Type 0} (f : A → B) → Reads read spell Good →
    (a : A) (rest : List ℕ) → Good a → made f read (spell a ++ rest) ≡ Ok (f a, rest)
made_again f r a rest good = rw (r.again a rest good) refl

pub made_within : {A B : Type 0} {read : Reader A} {spell : A → List ℕ} {Good : A → Type 0} (f : A → B) → Reads read spell Good → (bytes : List ℕ) → IsWithin (length bytes) (made f read bytes)
made_within {A} {B} {read} f r bytes = within_after (length bytes) (read bytes) _ (r.within bytes) (λ a rest h. h)

-- with a way back
pub made_reads : {A B : Type 0} {read : Reader A} {spell : A → List ℕ} {Good : A → Type 0} (f : A → B) (back : B → A) (spell' : B → List ℕ) (Good' : B → Type 0) →
    ((a : A) → Good a → (spell a ≡ spell' (f a)) × Good' (f a)) → ((b : B) → Good' b → Good (back b) × (f (back b) ≡ b)) →
    Reads read spell Good → Reads (made f read) spell' Good'
made_reads {A} {B} {read} {spell} {Good} f back spell' Good' to from r = record {
  takes = made_takes f spell' Good' to r;
  again = λ b rest good.
      let h = from b good in
      let spelt : spell (back b) ≡ spell' b = (to (back b) h.0).0 ∙ ap spell' h.1 in
      ap (λ (text : List ℕ). made f read (text ++ rest)) (sym spelt) ∙ made_again f r (back b) rest h.0 ∙ ap (λ (y : B). Ok (y, rest)) h.1;
  within = made_within f r;
}

-- without one: what is made of something good
pub made_of : {A B : Type 0} {read : Reader A} {spell : A → List ℕ} {Good : A → Type 0} (f : A → B) (spell' : B → List ℕ) →
    ((a : A) → Good a → spell a ≡ spell' (f a)) → Reads read spell Good → Reads (made f read) spell' (λ b. (a : A) × (Good a × (f a ≡ b)))
made_of {A} {B} {read} {spell} {Good} f spell' spelt r = record {
  takes = made_takes f spell' (λ b. (a : A) × (Good a × (f a ≡ b))) (λ a good. (spelt a good, (a, (good, refl)))) r;
  again = λ b rest h.
      subst (λ (y : B). made f read (spell' y ++ rest) ≡ Ok (y, rest)) h.1.1
      (ap (λ (text : List ℕ). made f read (text ++ rest)) (sym (spelt h.0 h.1.0)) ∙ made_again f r h.0 rest h.1.0);
  within = made_within f r;
}

-- ---- one thing after another

pub both_reads : {A B : Type 0} {read : Reader A} {spell : A → List ℕ} {Good : A → Type 0} {read' : Reader B} {spell' : B → List ℕ} {Good' : B → Type 0} →
    Reads read spell Good → Reads read' spell' Good' → Reads (both read read') (λ p. spell p.0 ++ spell' p.1) (λ p. Good p.0 × Good' p.1)
both_reads {A} {B} {read} {spell} {Good} {read'} {spell'} {Good'} r r' = record {
  takes = λ bytes p rest fits e.
      let s = after_ok (read bytes) _ p rest e in
      let u = after_ok (read' s.rest) _ p rest s.then_is in
      let t = r.takes bytes s.value s.rest fits s.was in
      let t' = r'.takes s.rest u.value u.rest t.0.rest_fits u.was in
      subst (λ (y : (A × B) × List ℕ). Takes bytes (spell y.0.0 ++ spell' y.0.1) y.1 × (Good y.0.0 × Good' y.0.1)) (ok_is ((s.value, u.value), u.rest) (p, rest) u.then_is)
      (Takes-then bytes (spell s.value) s.rest (spell' u.value) u.rest t.0 t'.0, (t.1, t'.1));
  again = λ p rest good. rw (append_assoc (spell p.0) (spell' p.1) rest, r.again p.0 (spell' p.1 ++ rest) good.0, r'.again p.1 rest good.1) refl;
  within = λ bytes. within_after (length bytes) (read bytes) _ (r.within bytes)
      (λ a rest le. within_after (length bytes) (read' rest) _ (IsWithin-more (length rest) (length bytes) (read' rest) (r'.within rest) le) (λ b end h. h));
}

-- the second is read by the first, which it tells by key
pub with_reads : {A B : Type 0} {read : Reader A} {spell : A → List ℕ} {Good : A → Type 0} {read' : A → Reader B} {spell' : B → List ℕ} {Good' : A → B → Type 0} →
    Reads read spell Good → ((a : A) → Reads (read' a) spell' (Good' a)) → (key : B → A) → ((a : A) (b : B) → Good' a b → key b ≡ a) →
    Reads (with read read') (λ b. spell (key b) ++ spell' b) (λ b. Good (key b) × Good' (key b) b)
with_reads {A} {B} {read} {spell} {Good} {read'} {spell'} {Good'} r r' key key_is = record {
  takes = λ bytes b rest fits e.
      let s = after_ok (read bytes) _ b rest e in
      let t = r.takes bytes s.value s.rest fits s.was in
      let u = (r' s.value).takes s.rest b rest t.0.rest_fits s.then_is in
      subst (λ (a : A). Takes bytes (spell a ++ spell' b) rest × (Good a × Good' a b)) (sym (key_is s.value b u.1)) (Takes-then bytes (spell s.value) s.rest (spell' b) rest t.0 u.0, (t.1, u.1));
  again = λ b rest good. rw (append_assoc (spell (key b)) (spell' b) rest, r.again (key b) (spell' b ++ rest) good.0) ((r' (key b)).again b rest good.1);
  within = λ bytes. within_after (length bytes) (read bytes) _ (r.within bytes)
      (λ a rest le. IsWithin-more (length rest) (length bytes) (read' a rest) ((r' a).within rest) le);
}

-- ---- one spelling

ok_parts : {A : Type 0} (a b : A) (x y : List ℕ) → Path (Read A) (Ok (a, x)) (Ok (b, y)) → (a ≡ b) × (x ≡ y)
ok_parts {A} a b x y e = let is = ok_is (a, x) (b, y) e in (ap (λ (p : A × List ℕ). p.0) is, ap (λ (p : A × List ℕ). p.1) is)

-- what is read is what is spelt
pub reads_exactly : {A : Type 0} {read : Reader A} {spell : A → List ℕ} {Good : A → Type 0} → Reads read spell Good → ReadsExactly read spell Good
reads_exactly {A} {read} r bytes a rest fits = (
  λ e. let t = r.takes bytes a rest fits e in (t.0.parts, t.1),
  λ h. ap read h.0 ∙ r.again a rest h.1,
)

-- no spelling begins another, so each value has one
pub one_spelling : {A : Type 0} {read : Reader A} {spell : A → List ℕ} {Good : A → Type 0} → Reads read spell Good → OneSpelling spell Good
one_spelling {A} {read} r a b x y p q e = ok_parts a b x y (sym (r.again a x p) ∙ ap read e ∙ r.again b y q)
