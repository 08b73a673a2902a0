-- The law of what is found by what is read, and of texts with their length before them.
use Rattle.std.proofs.Common.{◌≡◌, ℕ, ◌<◌, ◌≤◌, ◌^◌, List, ◌++◌, length, Option, Some, None, Ok, refl, sym, ap, subst, arith}
use Rattle.std.specs.Int.{w32, to_be_bytes}
use Rattle.byte_fields.specs.Readers.{Reader}
use Rattle.byte_fields.specs.Laws.{Takes, IsWithin, Reads}
use Rattle.byte_fields.proofs.Digits.{wide32}
use Rattle.byte_fields.proofs.Joined.{reads_as, with_reads}
use Rattle.byte_fields.proofs.Numbers.{number_reads, run_reads}
use Rattle.byte_fields.proofs.Steps.{after_ok, ok_is, within_after}
use Rattle.ledger_state.specs.Found.{found, found_or, text}

found_ok : {B : Type 0} (left : ℕ) (rest : List ℕ) (answer : Option B) (b : B) (end : List ℕ) → found_or left rest answer ≡ Ok (b, end) → (answer ≡ Some b) × (rest ≡ end)
found_ok left rest None b end e = absurd cc
found_ok {B} left rest (Some c) b end e =
    let is = ok_is (c, rest) (b, end) e in (ap (λ (x : B × List ℕ). Some x.0) is, ap (λ (x : B × List ℕ). x.1) is)

found_within : {B : Type 0} (most : ℕ) (rest : List ℕ) (answer : Option B) → length rest ≤ most → IsWithin most (found_or most rest answer)
found_within most rest None le = omega arith
found_within most rest (Some b) le = le

-- what is found tells by what it was found
pub found_reads : {A B : Type 0} {read : Reader A} {spell : A → List ℕ} {Good : A → Type 0} (find : A → Option B) (back : B → A) (Good' : B → Type 0) →
    ((a : A) (b : B) → Good a → find a ≡ Some b → (back b ≡ a) × Good' b) → ((b : B) → Good' b → Good (back b) × (find (back b) ≡ Some b)) →
    Reads read spell Good → Reads (found find read) (λ b. spell (back b)) Good'
found_reads {A} {B} {read} {spell} {Good} find back Good' to from r = record {
  takes = λ bytes b rest fits e.
      let s = after_ok (read bytes) _ b rest e in
      let t = r.takes bytes s.value s.rest fits s.was in
      let f = found_ok (length bytes) s.rest (find s.value) b rest s.then_is in
      let g = to s.value b t.1 f.0 in
      (subst (λ (end : List ℕ). Takes bytes (spell (back b)) end) f.1 (subst (λ (a : A). Takes bytes (spell a) s.rest) (sym g.0) t.0), g.1);
  again = λ b rest good.
      let h = from b good in
      rw (r.again (back b) rest h.0) (ap (found_or (length (spell (back b) ++ rest)) rest) h.1);
  within = λ bytes. within_after (length bytes) (read bytes) _ (r.within bytes) (λ a rest le. found_within (length bytes) rest (find a) le);
}

pub text_reads : Reads text (λ bytes. to_be_bytes w32 (length bytes) ++ bytes) (λ bytes. length bytes < 2 ^ 32)
text_reads =
    reads_as (λ bytes. to_be_bytes w32 (length bytes) ++ bytes) (λ bytes. length bytes < 2 ^ 32) (λ bytes good. (refl, good.0)) (λ bytes good. (good, refl))
    (with_reads (number_reads w32 (2 ^ 32) wide32) run_reads length (λ n bytes good. good))
