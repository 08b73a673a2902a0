-- The first lines of a genesis text, and at which line a fault is told.
use Rattle.std.specs.Prelude.{ℕ, ◌+◌, List, [], ◌∷◌, if◌then◌else◌, Result, Ok, Err}
use Rattle.std.specs.Char.{is_ascii}
use Rattle.std.specs.List.{list_all}
use Rattle.std.specs.Str.{bytes_eq}
use Rattle.chain_text.specs.declared.fault.ChainFault.{ChainFault}
use Rattle.chain_text.specs.declared.fault.ChainKind.TheVariants.{BadWord, Missing}
use Rattle.chain_text.specs.Fields.{Read, ◌>>=◌, ◌>>◌, must, word, number, end}
use Rattle.chain_text.specs.Groups.{Group}

-- what is read of a text, or its first fault
abbrev pub Told : Type 0 → Type 0
Told A = Result A ChainFault

-- what is read of a line, or the fault at it
abbrev pub at_line : {A : Type 0} → ℕ → Read A → Told A
at_line at (Ok a) = Ok a
at_line at (Err kind) = Err (record { line = at; kind = kind })

-- each byte of these lines, of which the first has this number, is ASCII
abbrev pub all_ascii : ℕ → List (List ℕ) → Told (Unit {0})
all_ascii at [] = Ok tt
all_ascii at (l ∷ lines) =
    if list_all is_ascii l then all_ascii (at + 1) lines else Err (record { line = at; kind = BadWord })

-- a line of this word and a number that is at most so great
abbrev pub head_line : List ℕ → ℕ → List ℕ → Read ℕ
head_line name most l = do
  (w, words) ← word l
  must (bytes_eq w name) Missing
  (n, words) ← number most words
  end words
  Ok n

-- such a line as the first of the groups, and the others; it is missing in the first, or at the line behind the last
abbrev pub head_number : List ℕ → ℕ → ℕ → List Group → Told (ℕ × List Group)
head_number name most behind [] = Err (record { line = behind; kind = Missing })
head_number name most behind (g ∷ gs) = do
  n ← at_line g.line (head_line name most g.bytes)
  Ok (n, gs)
