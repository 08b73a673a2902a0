-- What readers that are made of others read, or where they stop, by what their parts do.
use Rattle.std.proofs.Common.{◌≡◌, ℕ, true, false, List, length, Bool, Option, Some, None, Ok, Err, refl, sym, ap, subst}
use Rattle.byte_fields.specs.Stops.{Faulty, Stop, Stopped}
use Rattle.byte_fields.specs.Readers.{Read, Reader, after, checked, made}
use Rattle.byte_fields.specs.Told.{IsStop}

-- ---- one step, and then another

pub stops_first : {A B : Type 0} (stop : Option Stop) (read : Read A) (f : A → List ℕ → Read B) → IsStop stop read → IsStop stop (after read f)
stops_first None read f is = tt
stops_first {A} (Some stop) read f is = ap (λ (y : Read A). after y f) is

pub stops_later : {A B : Type 0} (stop : Option Stop) (read : Read A) (f : A → List ℕ → Read B) (a : A) (rest : List ℕ) → read ≡ Ok (a, rest) → IsStop stop (f a rest) → IsStop stop (after read f)
stops_later {A} {B} stop read f a rest was is = subst (λ (y : Read B). IsStop stop y) (sym (ap (λ (y : Read A). after y f) was)) is

-- ---- a test, and a value that is made of what is read

pub checked_passes : {A : Type 0} (test : A → Bool) (read : Reader A) (bytes : List ℕ) (a : A) (rest : List ℕ) → read bytes ≡ Ok (a, rest) → test a ≡ true → checked test read bytes ≡ Ok (a, rest)
checked_passes test read bytes a rest was passes = rw (was, passes) refl

pub checked_fails : {A : Type 0} (test : A → Bool) (read : Reader A) (bytes : List ℕ) (a : A) (rest : List ℕ) → read bytes ≡ Ok (a, rest) → test a ≡ false → checked test read bytes ≡ Err (Stopped Faulty (length bytes))
checked_fails test read bytes a rest was fails = rw (was, fails) refl

pub made_reads_so : {A B : Type 0} (f : A → B) (read : Reader A) (bytes : List ℕ) (a : A) (rest : List ℕ) → read bytes ≡ Ok (a, rest) → made f read bytes ≡ Ok (f a, rest)
made_reads_so f read bytes a rest was = rw was refl
