-- What has been read of a reader and what it has left make up what it had.
use Rattle.std.proofs.Common.{◌≡◌, ℕ, ◌<◌, List, [], ◌++◌, length, Option, Some, None, refl, sym, ap, ◌∙◌, append_assoc, length-append, arith}
use Rattle.std.specs.Prelude.{IfSome}
use Rattle.std.proofs.lemmas.List.{append-nil}
use Rattle.std.specs.Io.KnownBytes.{Consumes, Keeps, IsAtEnd}

pub nothing_read : (whole : Option (List ℕ)) → Consumes whole whole []
nothing_read None = tt
nothing_read (Some xs) = refl

pub whole_read : (whole rest : Option (List ℕ)) (front : List ℕ) → Consumes whole rest front → IsAtEnd rest → IfSome whole (λ xs. front ≡ xs)
whole_read None rest front a e = tt
whole_read (Some xs) None front a e = absurd a
whole_read (Some xs) (Some ys) front a e = sym (a ∙ ap (λ (s : List ℕ). front ++ s) e ∙ append-nil front)

pub longer_read : (whole rest : Option (List ℕ)) (front : List ℕ) (n : ℕ) → Consumes whole rest front → n < length front → IfSome whole (λ xs. n < length xs)
longer_read None rest front n a lt = tt
longer_read (Some xs) None front n a lt = absurd a
longer_read (Some xs) (Some ys) front n a lt = omega (arith, ap length a, length-append front ys)
