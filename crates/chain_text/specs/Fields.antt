-- The fields of a line from the left: what is read of one and what stands behind it, or the kind of its fault.
use Rattle.std.specs.Prelude.{ℕ, Bool, List, if◌then◌else◌, is_none, Result, Ok, Err}
use Rattle.std.specs.Option.{ok_or}
use Rattle.chain_text.specs.declared.fault.ChainKind.{ChainKind}
use Rattle.chain_text.specs.declared.fault.ChainKind.TheVariants.{BadWord, BadNumber, BadAddress}
use Rattle.chain_text.specs.Addresses.{address_of}
use Rattle.chain_text.specs.Lines.{next_word}
use Rattle.chain_text.specs.Numbers.{number_of}

-- what is read, or why not
abbrev pub Read : Type 0 → Type 0
Read A = Result A ChainKind

-- what is read of the front of a line, and what stands behind it
abbrev pub Field : Type 0 → Type 0
Field A = List ℕ → Read (A × List ℕ)

-- the ? of the logic: what comes next, if the first gave something
infixl 10 ◌>>=◌
abbrev pub ◌>>=◌ : {A B E : Type 0} → Result A E → (A → Result B E) → Result B E
Ok a >>= next = next a
Err e >>= next = Err e

-- the same where what the first gave is known
infixl 10 ◌>>◌
abbrev pub ◌>>◌ : {A B E : Type 0} → Result A E → Result B E → Result B E
Ok a >> next = next
Err e >> next = Err e

-- nothing is wrong where this is so
abbrev pub must : Bool → ChainKind → Read (Unit {0})
must test kind = if test then Ok tt else Err kind

-- nothing is wrong where this isn't so
abbrev pub must_not : Bool → ChainKind → Read (Unit {0})
must_not test kind = if test then Err kind else Ok tt

-- a word
abbrev pub word : Field (List ℕ)
word line = ok_or (next_word line) BadWord

-- no word is left
abbrev pub end : List ℕ → Read (Unit {0})
end line = must (is_none (next_word line)) BadWord

-- an address
abbrev pub address : Field (List ℕ)
address line = do
  (w, rest) ← word line
  a ← ok_or (address_of w) BadAddress
  Ok (a, rest)

-- a number that is at most so great
abbrev pub number : ℕ → Field ℕ
number most line = do
  (w, rest) ← word line
  n ← ok_or (number_of 0 most w) BadNumber
  Ok (n, rest)
