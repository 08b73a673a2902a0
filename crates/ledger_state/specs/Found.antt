-- A reader of what is found by what is read, as a script by its text.
use Rattle.std.specs.Prelude.{ℕ, List, length, Option, Some, None, Ok, Err}
use Rattle.std.specs.Int.{w32}
use Rattle.byte_fields.specs.Stops.{Faulty, Stopped}
use Rattle.byte_fields.specs.Readers.{Read, Reader, after, number, run, with}

-- what is found is read; where nothing is, it stops with so many bytes left
abbrev pub found_or : {B : Type 0} → ℕ → List ℕ → Option B → Read B
found_or left rest None = Err (Stopped Faulty left)
found_or left rest (Some b) = Ok (b, rest)

-- what is found by what is read; where nothing is, the fault is at its first byte
abbrev pub found : {A B : Type 0} → (A → Option B) → Reader A → Reader B
found find read bytes = after (read bytes) (λ a rest. found_or (length bytes) rest (find a))

-- a length, and so many bytes
abbrev pub text : Reader (List ℕ)
text = with (number w32) run
