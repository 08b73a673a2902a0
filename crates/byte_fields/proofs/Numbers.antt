-- The law of runs, numbers and marks.
use Rattle.std.proofs.Common.{◌≡◌, ℕ, ◌<◌, ◌≤◌, ◌^◌, false, ltb, List, ◌++◌, length, take, drop, Ok, refl, sym, ap, arith}
use Rattle.std.specs.Prelude.{bytes_eq, FitsSigned}
use Rattle.std.proofs.lemmas.Slice.Eq.{bytes_eq-Decides}
use Rattle.std.proofs.lemmas.Bool.{ltb-false, le-ltb}
use Rattle.std.proofs.lemmas.List.{take_at, drop_at, take-append-drop, length-append, length-take, length-drop}
use Rattle.std.specs.Int.{Width, byte_len, from_be_bytes, to_be_bytes, cast_signed, cast_unsigned}
use Rattle.std.proofs.lemmas.Int.{to_z-of_z, of_z-to_z}
use Rattle.std.proofs.Math.Facts.{sfits_to_z, Fits-of_z}
use mir.Val.{bits}
use Rattle.byte_fields.specs.Stops.{Faulty, Stopped}
use Rattle.byte_fields.specs.Readers.{Reader, run, number, signed, mark, behind}
use Rattle.byte_fields.specs.Laws.{IsBytes, Takes, IsWithin, Reads}
use Rattle.byte_fields.proofs.Steps.{IsBytes-take, IsBytes-drop, guard_ok, within_guard}
use Rattle.byte_fields.proofs.Joined.{made_reads, checked_reads, both_reads}
use Rattle.byte_fields.proofs.Digits.{IsWide}

-- ---- runs

-- a text of n bytes
pub record IsRun (n : ℕ) (text : List ℕ) : Type 0 where
  pub len : length text ≡ n
  pub fits : IsBytes text

run_takes : (n : ℕ) (bytes text rest : List ℕ) → IsBytes bytes → run n bytes ≡ Ok (text, rest) → Takes bytes text rest × IsRun n text
run_takes n bytes text rest fits e =
    let g = guard_ok (ltb (length bytes) n) (Stopped Faulty (length bytes)) (take n bytes, drop n bytes) (text, rest) e in
    let long : n ≤ length bytes = ltb-false _ _ g.0 in
    let text-is : take n bytes ≡ text = ap (λ (p : List ℕ × List ℕ). p.0) g.1 in
    let rest-is : drop n bytes ≡ rest = ap (λ (p : List ℕ × List ℕ). p.1) g.1 in (
      record { parts = rw (← text-is, ← rest-is) (sym (take-append-drop n bytes)); rest_fits = rw (← rest-is) (IsBytes-drop n bytes fits) },
      record { len = rw (← text-is) (omega (arith, length-take n bytes)); fits = rw (← text-is) (IsBytes-take n bytes fits) },
    )

run_again : (n : ℕ) (text rest : List ℕ) → length text ≡ n → run n (text ++ rest) ≡ Ok (text, rest)
run_again n text rest len =
    let long : ltb (length (text ++ rest)) n ≡ false = le-ltb _ _ (omega (arith, length-append text rest)) in
    rw (long, take_at text rest n len, drop_at text rest n len) refl

run_within : (n : ℕ) (bytes : List ℕ) → IsWithin (length bytes) (run n bytes)
run_within n bytes = within_guard Faulty (ltb (length bytes) n) (length bytes) _ _ (omega (arith, length-drop n bytes))

-- a run is known to be bytes only where it is read
pub run_reads : (n : ℕ) → Reads (run n) (λ text. text) (λ text. length text ≡ n)
run_reads n = record {
  takes = λ bytes text rest fits e. let t = run_takes n bytes text rest fits e in (t.0, t.1.len);
  again = run_again n;
  within = run_within n;
}

pub byte_run_reads : (n : ℕ) → Reads (run n) (λ text. text) (IsRun n)
byte_run_reads n = record { takes = run_takes n; again = λ text rest good. run_again n text rest good.len; within = run_within n }

-- ---- numbers

pub number_reads : (w : Width) (limit : ℕ) → IsWide w limit → Reads (number w) (to_be_bytes w) (λ n. n < limit)
number_reads w limit wide = made_reads (from_be_bytes w) (to_be_bytes w) (to_be_bytes w) (λ n. n < limit)
    (λ text good. (sym (wide.back text good.len good.fits), wide.below text good.len good.fits))
    (λ n lt. (record { len = wide.len n; fits = wide.fits n }, wide.again n lt))
    (byte_run_reads (byte_len w))

-- ---- the same in two's complement

pub signed_reads : (w : Width) → IsWide w (2 ^ bits w) → Reads (signed w) (λ z. to_be_bytes w (cast_unsigned w z)) (FitsSigned w)
signed_reads w wide = made_reads (λ n. cast_signed w n) (λ z. cast_unsigned w z) (λ z. to_be_bytes w (cast_unsigned w z)) (FitsSigned w)
    (λ n fits. (ap (to_be_bytes w) (sym (of_z-to_z w n fits)), sfits_to_z (record { fits = fits })))
    (λ z fits. ((Fits-of_z fits).fits, to_z-of_z w z fits))
    (number_reads w (2 ^ bits w) wide)

-- ---- marks

pub mark_reads : (text : List ℕ) → Reads (mark text) (λ u. text) (λ u. Unit {0})
mark_reads text = made_reads (λ front. tt) (λ u. text) (λ u. text) (λ u. Unit {0})
    (λ front good. (sym ((bytes_eq-Decides text front).0 good.1), tt))
    (λ u good. ((refl, (bytes_eq-Decides text text).1 refl), refl))
    (checked_reads (bytes_eq text) (run_reads (length text)))

-- they are no part of the value that stands behind them
pub behind_reads : {A : Type 0} {read : Reader A} {spell : A → List ℕ} {Good : A → Type 0} (text : List ℕ) → Reads read spell Good → Reads (behind text read) (λ a. text ++ spell a) Good
behind_reads {A} {read} {spell} {Good} text r =
    made_reads (λ (p : Unit {0} × A). p.1) (λ a. (tt, a)) (λ a. text ++ spell a) Good (λ p good. (refl, good.1)) (λ a good. ((tt, good), refl)) (both_reads (mark_reads text) r)
