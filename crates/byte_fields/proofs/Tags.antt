-- The law of a tag with what stands behind it, one row of a table for each tag.
use Rattle.std.proofs.Common.{◌≡◌, ℕ, ◌%◌, ◌^◌, ◌<◌, Bool, true, false, cond, eqb, List, [], ◌∷◌, ◌++◌, length, Ok, refl, sym, ap, subst, ◌∙◌, arith}
use Rattle.std.specs.Prelude.{IsTrue}
use Rattle.std.specs.Int.{w8, to_be_bytes}
use Rattle.std.proofs.lemmas.Bool.{eqb-true}
use Rattle.byte_fields.specs.Readers.{given, Read, Reader, after, made, checked, number, tagged}
use Rattle.byte_fields.specs.Laws.{IsBytes, Takes, IsWithin, Reads}
use Rattle.byte_fields.proofs.Steps.{after_ok, ok_is, within_after, IsWithin-more}
use Rattle.byte_fields.proofs.Joined.{checked_reads, made_again}
use Rattle.byte_fields.proofs.Digits.{wide8}
use Rattle.byte_fields.proofs.Numbers.{number_reads}

-- a value is spelt by a tag and a text, by which the reader behind that tag reads it
pub record Begins {A : Type 0} (is_tag : ℕ → Bool) (behind : ℕ → Reader A) (spell : A → List ℕ) (a : A) : Type 0 where
  pub tag : ℕ
  pub text : List ℕ
  pub small : tag < 256
  pub is_one : IsTrue (is_tag tag)
  pub spelt : spell a ≡ tag ∷ text
  pub again : (rest : List ℕ) → behind tag (text ++ rest) ≡ Ok (a, rest)

-- what stands behind a tag and the tag make a spelling
abbrev pub TakesBehind : {A : Type 0} → Reader A → ℕ → (A → List ℕ) → (A → Type 0) → Type 0
TakesBehind {A} read tag spell Good = (bytes : List ℕ) (a : A) (rest : List ℕ) → IsBytes bytes → read bytes ≡ Ok (a, rest) → Takes (tag ∷ bytes) (spell a) rest × Good a

pub one_byte : (n : ℕ) → n < 256 → to_be_bytes w8 n ≡ n ∷ []
one_byte n lt = let small : n % 256 ≡ n = omega arith in ap (λ (m : ℕ). m ∷ []) small

pub tagged_reads : {A : Type 0} {is_tag : ℕ → Bool} {behind : ℕ → Reader A} {spell : A → List ℕ} {Good : A → Type 0} →
    ((t : ℕ) → IsTrue (is_tag t) → TakesBehind (behind t) t spell Good) → ((a : A) → Good a → Begins is_tag behind spell a) → ((t : ℕ) (bytes : List ℕ) → IsWithin (length bytes) (behind t bytes)) →
    Reads (tagged is_tag behind) spell Good
tagged_reads {A} {is_tag} {behind} {spell} {Good} takes begins within =
    let tags = checked_reads is_tag (number_reads w8 (2 ^ 8) wide8) in
    record {
      takes = λ bytes a rest fits e.
          let s = after_ok (checked is_tag (number w8) bytes) _ a rest e in
          let t = tags.takes bytes s.value s.rest fits s.was in
          let whole : bytes ≡ s.value ∷ s.rest = t.0.parts ∙ ap (λ (l : List ℕ). l ++ s.rest) (one_byte s.value (omega (arith, t.1.0))) in
          subst (λ (l : List ℕ). Takes l (spell a) rest × Good a) (sym whole) (takes s.value t.1.1 s.rest a rest t.0.rest_fits s.then_is);
      again = λ a rest good.
          let b = begins a good in
          let front : spell a ++ rest ≡ to_be_bytes w8 b.tag ++ (b.text ++ rest) = ap (λ (l : List ℕ). l ++ rest) b.spelt ∙ ap (λ (l : List ℕ). l ++ (b.text ++ rest)) (sym (one_byte b.tag b.small)) in
          ap (tagged is_tag behind) front ∙ ap (λ (y : Read ℕ). after y behind) (tags.again b.tag (b.text ++ rest) (omega (arith, b.small), b.is_one)) ∙ b.again rest;
      within = λ bytes. within_after (length bytes) (checked is_tag (number w8) bytes) _ (tags.within bytes)
          (λ t rest le. IsWithin-more (length rest) (length bytes) (behind t rest) (within t rest) le);
    }

-- ---- a row: what is read behind its tag is made a value

pub record Row {A B : Type 0} (tag : ℕ) (f : A → B) (text_of : A → List ℕ) (Good' : A → Type 0) (spell : B → List ℕ) (Good : B → Type 0) : Type 0 where
  pub spelt : (a : A) → spell (f a) ≡ tag ∷ text_of a
  pub good : (a : A) → Good' a → Good (f a)

pub row_takes : {A B : Type 0} {tag : ℕ} {f : A → B} {read : Reader A} {text_of : A → List ℕ} {Good' : A → Type 0} {spell : B → List ℕ} {Good : B → Type 0} →
    Row tag f text_of Good' spell Good → Reads read text_of Good' → TakesBehind (made f read) tag spell Good
row_takes {A} {B} {tag} {f} {read} {text_of} {Good'} {spell} {Good} row r bytes b rest fits e =
    let s = after_ok (read bytes) _ b rest e in
    let t = r.takes bytes s.value s.rest fits s.was in
    subst (λ (y : B × List ℕ). Takes (tag ∷ bytes) (spell y.0) y.1 × Good y.0) (ok_is (f s.value, s.rest) (b, rest) s.then_is)
    (record { parts = rw (row.spelt s.value) (ap (λ l. tag ∷ l) t.0.parts); rest_fits = t.0.rest_fits }, row.good s.value t.1)

-- what is made of something good begins so
pub row_begins : {A B : Type 0} {tag : ℕ} {f : A → B} {read : Reader A} {text_of : A → List ℕ} {Good' : A → Type 0} {spell : B → List ℕ} {Good : B → Type 0} (is_tag : ℕ → Bool) (behind : ℕ → Reader B) →
    Row tag f text_of Good' spell Good → Reads read text_of Good' → tag < 256 → IsTrue (is_tag tag) → behind tag ≡ made f read → (a : A) → Good' a → Begins is_tag behind spell (f a)
row_begins {A} {B} {tag} {f} {read} {text_of} is_tag behind row r small is_one is a good = record {
  tag = tag;
  text = text_of a;
  small = small;
  is_one = is_one;
  spelt = row.spelt a;
  again = λ rest. ap (λ (g : Reader B). g (text_of a ++ rest)) is ∙ made_again f r a rest good;
}

-- a row that is its tag alone
pub given_takes : {B : Type 0} (tag : ℕ) (spell : B → List ℕ) (Good : B → Type 0) (b : B) → spell b ≡ tag ∷ [] → Good b → TakesBehind (given b) tag spell Good
given_takes {B} tag spell Good b spelt good bytes b' rest fits e =
    subst (λ (y : B × List ℕ). Takes (tag ∷ bytes) (spell y.0) y.1 × Good y.0) (ok_is (b, bytes) (b', rest) e)
    (record { parts = rw spelt refl; rest_fits = fits }, good)

-- the row of its tag, where that may stand, in a chain of tests, and the rest of the chain
pub at_tag : {A : Type 0} (is_tag : ℕ → Bool) (t k : ℕ) {x y : Reader A} {spell : A → List ℕ} {Good : A → Type 0} →
    (IsTrue (is_tag k) → TakesBehind x k spell Good) → (IsTrue (is_tag t) → TakesBehind y t spell Good) → IsTrue (is_tag t) → TakesBehind (cond (eqb t k) x y) t spell Good
at_tag {A} is_tag t k {x} {y} {spell} {Good} row others =
    let chosen : (b : Bool) → eqb t k ≡ b → IsTrue (is_tag t) → TakesBehind (cond b x y) t spell Good = λ b. elim b as (λ b. eqb t k ≡ b → IsTrue (is_tag t) → TakesBehind (cond b x y) t spell Good) [
      | true ↦ λ is. subst (λ (n : ℕ). IsTrue (is_tag n) → TakesBehind x n spell Good) (sym (eqb-true t k is)) row
      | false ↦ λ is. others
    ] in
    chosen (eqb t k) refl

pub within_row : {A : Type 0} (b : Bool) (x y : Reader A) → ((bytes : List ℕ) → IsWithin (length bytes) (x bytes)) → ((bytes : List ℕ) → IsWithin (length bytes) (y bytes)) →
    (bytes : List ℕ) → IsWithin (length bytes) (cond b x y bytes)
within_row true x y p q = p
within_row false x y p q = q
