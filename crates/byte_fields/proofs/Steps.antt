-- What a reader of several steps read at each of them.
use Rattle.std.proofs.Common.{◌≡◌, ℕ, ◌+◌, ◌≤◌, Bool, true, false, cond, List, ◌++◌, length, take, drop, Ok, Err, refl, sym, ap, ◌∙◌, append_assoc, arith, inl, inr, ◌⊎◌}
use Rattle.std.specs.Prelude.{IsTrue}
use Rattle.std.proofs.lemmas.Bool.{cases_lt}
use Rattle.std.proofs.lemmas.List.{length-take, get_or-drop, get_or-take, get_or_past}
use Rattle.byte_fields.specs.Stops.{Kind, Stop, Stopped}
use Rattle.byte_fields.specs.Readers.{Read, after}
use Rattle.byte_fields.specs.Laws.{IsBytes, Takes, IsWithin}

-- ---- bytes

pub IsBytes-drop : (n : ℕ) (bytes : List ℕ) → IsBytes bytes → IsBytes (drop n bytes)
IsBytes-drop n bytes fits i = rw get_or-drop (fits (n + i))

pub IsBytes-take : (n : ℕ) (bytes : List ℕ) → IsBytes bytes → IsBytes (take n bytes)
IsBytes-take n bytes fits i =
    elim (cases_lt i n) [
      | inl lt ↦ rw (get_or-take n bytes i 0 lt) (fits i)
      | inr le ↦ rw (get_or_past (take n bytes) i 0 (omega (arith, length-take n bytes))) (omega arith)
    ]

pub Takes-then : (bytes text mid text' rest : List ℕ) → Takes bytes text mid → Takes mid text' rest → Takes bytes (text ++ text') rest
Takes-then bytes text mid text' rest p q = record {
  parts = p.parts ∙ ap (λ (t : List ℕ). text ++ t) q.parts ∙ sym (append_assoc text text' rest);
  rest_fits = q.rest_fits;
}

-- ---- what was read

-- what a step read that did not fail
pub record Step {A B : Type 0} (read : Read A) (f : A → List ℕ → Read B) (y : Read B) : Type 0 where
  pub value : A
  pub rest : List ℕ
  pub was : read ≡ Ok (value, rest)
  pub then_is : f value rest ≡ y

pub after_ok : {A B : Type 0} (read : Read A) (f : A → List ℕ → Read B) (b : B) (end : List ℕ) → after read f ≡ Ok (b, end) → Step read f (Ok (b, end))
after_ok (Ok x) f b end e = record { value = x.0; rest = x.1; was = refl; then_is = e }
after_ok (Err stop) f b end e = absurd cc

pub ok_is : {A : Type 0} (x y : A × List ℕ) → Path (Read A) (Ok x) (Ok y) → x ≡ y
ok_is x y e = cc

-- a test that has to fail, and one that has to pass
pub guard_ok : {A : Type 0} (b : Bool) (stop : Stop) (x y : A × List ℕ) → cond {A = Read A} b (Err stop) (Ok x) ≡ Ok y → (b ≡ false) × (x ≡ y)
guard_ok true stop x y e = absurd cc
guard_ok false stop x y e = (refl, cc)

pub test_ok : {A : Type 0} (b : Bool) (stop : Stop) (x y : A × List ℕ) → cond {A = Read A} b (Ok x) (Err stop) ≡ Ok y → IsTrue b × (x ≡ y)
test_ok true stop x y e = (refl, cc)
test_ok false stop x y e = absurd cc

pub passes : {A : Type 0} (b : Bool) (stop : Stop) (x : A × List ℕ) → IsTrue b → cond {A = Read A} b (Ok x) (Err stop) ≡ Ok x
passes true stop x h = refl
passes false stop x h = absurd cc

-- ---- where it stopped

-- the first step stops, or the next one does
pub after_stop : {A B : Type 0} (read : Read A) (f : A → List ℕ → Read B) (stop : Stop) → after read f ≡ Err stop → (read ≡ Err stop) ⊎ Step read f (Err stop)
after_stop (Ok x) f stop e = inr (record { value = x.0; rest = x.1; was = refl; then_is = e })
after_stop {A} (Err s) f stop e = let same : s ≡ stop = cc in inl (ap (λ (s : Stop). let r : Read A = Err s in r) same)

-- a test that fails is the stop
pub test_stop : {A : Type 0} (b : Bool) (s stop : Stop) (x : A × List ℕ) → cond {A = Read A} b (Ok x) (Err s) ≡ Err stop → (b ≡ false) × (s ≡ stop)
test_stop true s stop x e = absurd cc
test_stop false s stop x e = (refl, cc)

-- ---- what is left

pub within_after : {A B : Type 0} (most : ℕ) (read : Read A) (f : A → List ℕ → Read B) → IsWithin most read →
    ((a : A) (rest : List ℕ) → length rest ≤ most → IsWithin most (f a rest)) → IsWithin most (after read f)
within_after most (Ok x) f h k = k x.0 x.1 h
within_after most (Err (Stopped kind n)) f h k = h

pub IsWithin-more : {A : Type 0} (m n : ℕ) (read : Read A) → IsWithin m read → m ≤ n → IsWithin n read
IsWithin-more m n (Ok x) h le = omega arith
IsWithin-more m n (Err (Stopped kind k)) h le = omega arith

pub within_guard : {A : Type 0} (kind : Kind) (b : Bool) (most : ℕ) (a : A) (rest : List ℕ) → length rest ≤ most → IsWithin most (cond {A = Read A} b (Err (Stopped kind most)) (Ok (a, rest)))
within_guard kind true most a rest h = omega arith
within_guard kind false most a rest h = h

pub within_test : {A : Type 0} (kind : Kind) (b : Bool) (most : ℕ) (a : A) (rest : List ℕ) → length rest ≤ most → IsWithin most (cond {A = Read A} b (Ok (a, rest)) (Err (Stopped kind most)))
within_test kind true most a rest h = h
within_test kind false most a rest h = omega arith
