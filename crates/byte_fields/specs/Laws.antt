-- The law that joins a reader to a spelling.
use Rattle.std.specs.Prelude.{◌≡◌, ◌↔◌, ℕ, ◌+◌, ◌<◌, ◌≤◌, List, [], ◌∷◌, ◌++◌, length, drop, slice_index, Option, Result, Ok, Err}
use Rattle.byte_fields.specs.Stops.{Stop, Stopped}
use Rattle.byte_fields.specs.Readers.{Read, Reader}
use Rattle.byte_fields.specs.Told.{AnswersUnlessFull}

-- each number is a byte
abbrev pub IsBytes : List ℕ → Type 0
IsBytes bytes = (i : ℕ) → slice_index bytes i < 256

-- the bytes are this text and this rest
pub record Takes (bytes text rest : List ℕ) : Type 0 where
  pub parts : bytes ≡ text ++ rest
  pub rest_fits : IsBytes rest

-- from a place on, the bytes spell a good value, which ends at the place after it, within the bytes
pub record Spelt {A : Type 0} (spell : A → List ℕ) (Good : A → Type 0) (bytes : List ℕ) (at : ℕ) (x : A × ℕ) : Type 0 where
  pub good : Good x.0
  pub parts : drop at bytes ≡ spell x.0 ++ drop x.1 bytes
  pub ends : x.1 ≡ at + length (spell x.0)
  pub within : x.1 ≤ length bytes

-- whatever good value is spelt from a place on is told, with the place after it
abbrev pub TellsSpelt : {A E : Type 0} → (E → Option Stop) → (A → List ℕ) → (A → Type 0) → List ℕ → ℕ → Result (A × ℕ) E → Type 0
TellsSpelt {A} fault spell Good bytes at told =
    (a : A) (rest : List ℕ) → Good a → drop at bytes ≡ spell a ++ rest → AnswersUnlessFull fault (λ x. x) told (Ok (a, at + length (spell a)))

-- whatever good value all of the bytes spell is told
abbrev pub TellsWhole : {A E : Type 0} → (E → Option Stop) → (A → List ℕ) → (A → Type 0) → List ℕ → Result A E → Type 0
TellsWhole {A} fault spell Good bytes told = (a : A) → Good a → bytes ≡ spell a → AnswersUnlessFull fault (λ x. x) told (Ok a)

-- what is read of bytes is a good value where they begin with its spelling, and the rest is what follows
abbrev pub ReadsExactly : {A : Type 0} → Reader A → (A → List ℕ) → (A → Type 0) → Type 0
ReadsExactly {A} read spell Good =
    (bytes : List ℕ) (a : A) (rest : List ℕ) → IsBytes bytes → (read bytes ≡ Ok (a, rest)) ↔ ((bytes ≡ spell a ++ rest) × Good a)

-- no spelling of a good value begins another, so each has one
abbrev pub OneSpelling : {A : Type 0} → (A → List ℕ) → (A → Type 0) → Type 0
OneSpelling {A} spell Good = (a b : A) (x y : List ℕ) → Good a → Good b → spell a ++ x ≡ spell b ++ y → (a ≡ b) × (x ≡ y)

-- what is left, also at a fault, is no more than there was
abbrev pub IsWithin : {A : Type 0} → ℕ → Read A → Type 0
IsWithin most (Ok x) = length x.1 ≤ most
IsWithin most (Err (Stopped kind left)) = left ≤ most

-- what is read is good and spelt so, what is good is read by its spelling, whatever follows, and no fault is told before the front
pub record Reads {A : Type 0} (read : Reader A) (spell : A → List ℕ) (Good : A → Type 0) : Type 0 where
  pub takes : (bytes : List ℕ) (a : A) (rest : List ℕ) → IsBytes bytes → read bytes ≡ Ok (a, rest) → Takes bytes (spell a) rest × Good a
  pub again : (a : A) (rest : List ℕ) → Good a → read (spell a ++ rest) ≡ Ok (a, rest)
  pub within : (bytes : List ℕ) → IsWithin (length bytes) (read bytes)

-- the same of a reader that takes all of the bytes
pub record ReadsWhole {A : Type 0} (read : Reader A) (spell : A → List ℕ) (Good : A → Type 0) : Type 0 where
  pub takes : (bytes : List ℕ) (a : A) (rest : List ℕ) → IsBytes bytes → read bytes ≡ Ok (a, rest) → (bytes ≡ spell a) × Good a
  pub again : (a : A) → Good a → read (spell a) ≡ Ok (a, [])
  pub within : (bytes : List ℕ) → IsWithin (length bytes) (read bytes)

-- each item is good by the state that stands before it
abbrev pub AllAlong : {S A : Type 0} → (S → A → Type 0) → (S → A → S) → S → List A → Type 0
AllAlong Good next state [] = Unit {0}
AllAlong Good next state (a ∷ all) = Good state a × AllAlong Good next (next state a) all
