-- Readers of the front of a list of bytes, made of one another.
use Rattle.std.specs.Prelude.{ℕ, zero, suc, ℤ, List, [], ◌∷◌, length, take, drop, Bool, Result, Ok, Err, nat_lt, ◌==◌, if◌then◌else◌, bytes_eq}
use Rattle.std.specs.Int.{Width, w8, byte_len, from_be_bytes, cast_signed}
use Rattle.byte_fields.specs.Stops.{Kind, Faulty, NotYet, Stop, Stopped}

-- what was read and the bytes after it, or the field that stops the reader
abbrev pub Read : Type 0 → Type 0
Read A = Result (A × List ℕ) Stop

abbrev pub Reader : Type 0 → Type 0
Reader A = List ℕ → Read A

-- what was read, and by it what comes next
abbrev pub after : {A B : Type 0} → Read A → (A → List ℕ → Read B) → Read B
after (Ok x) f = f x.0 x.1
after (Err stop) f = Err stop

-- this value, which takes no bytes
abbrev pub given : {A : Type 0} → A → Reader A
given a bytes = Ok (a, bytes)

-- a value that is made of what is read
abbrev pub made : {A B : Type 0} → (A → B) → Reader A → Reader B
made f read bytes = after (read bytes) (λ a rest. Ok (f a, rest))

-- one thing, and then another
abbrev pub both : {A B : Type 0} → Reader A → Reader B → Reader (A × B)
both first second bytes = after (first bytes) (λ a rest. after (second rest) (λ b end. Ok ((a, b), end)))

-- one thing, by which the next is read
abbrev pub with : {A B : Type 0} → Reader A → (A → Reader B) → Reader B
with first second bytes = after (first bytes) second

-- what passes a test; else its first byte is that of a field of this kind
abbrev pub tested : {A : Type 0} → Kind → (A → Bool) → Reader A → Reader A
tested kind test read bytes =
    after (read bytes) (λ a rest. if test a then Ok (a, rest) else Err (Stopped kind (length bytes)))

-- what keeps a rule; else it is a fault
abbrev pub checked : {A : Type 0} → (A → Bool) → Reader A → Reader A
checked = tested Faulty

-- what is built; else it is a lawful field that isn't
abbrev pub built : {A : Type 0} → (A → Bool) → Reader A → Reader A
built = tested NotYet

-- n items, each read by what a state says, which goes on with each item
abbrev pub chained : {S A : Type 0} → (S → Reader A) → (S → A → S) → S → ℕ → Reader (List A)
chained read next state zero bytes = Ok ([], bytes)
chained read next state (suc n) bytes =
    after (read state bytes) (λ a rest. after (chained read next (next state a) n rest) (λ all end. Ok (a ∷ all, end)))

-- n items that know nothing of each other
abbrev pub many : {A : Type 0} → Reader A → ℕ → Reader (List A)
many read = chained {S = Unit {0}} (λ state. read) (λ state a. state) tt

-- so many bytes as they are
abbrev pub run : ℕ → Reader (List ℕ)
run n bytes = if nat_lt (length bytes) n then Err (Stopped Faulty (length bytes)) else Ok (take n bytes, drop n bytes)

-- a number of so many bytes, the highest first
abbrev pub number : Width → Reader ℕ
number w = made (from_be_bytes w) (run (byte_len w))

-- the same in two's complement
abbrev pub signed : Width → Reader ℤ
signed w = made (λ n. cast_signed w n) (number w)

-- bytes that have to be exactly these
abbrev pub mark : List ℕ → Reader (Unit {0})
mark text = made (λ front. tt) (checked (bytes_eq text) (run (length text)))

-- what stands behind bytes that have to be exactly these
abbrev pub behind : {A : Type 0} → List ℕ → Reader A → Reader A
behind text read = made (λ p. p.1) (both (mark text) read)

-- a byte that is one of the tags, and what stands behind it
abbrev pub tagged : {A : Type 0} → (ℕ → Bool) → (ℕ → Reader A) → Reader A
tagged is_tag = with (checked is_tag (number w8))

-- all of the bytes; else the fault is at the first byte behind
abbrev pub whole : {A : Type 0} → Reader A → Reader A
whole read bytes = after (read bytes) (λ a rest. if length rest == 0 then Ok (a, []) else Err (Stopped Faulty (length rest)))
