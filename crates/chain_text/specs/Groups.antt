-- The lines of a text that say something, each with its number and the script behind it.
use Rattle.std.specs.Prelude.{ℕ, ◌+◌, ◌==◌, Bool, false, ◌&&◌, ◌||◌, List, [], ◌∷◌, ◌++◌, codes, if◌then◌else◌, Option, Some, None, is_none}
use Rattle.std.specs.Str.{bytes_eq}
use Rattle.chain_text.specs.Lines.{next_word}

-- ---- kinds of lines

-- the first word, if there is one, is this
abbrev pub is_first : List ℕ → Option (List ℕ × List ℕ) → Bool
is_first name None = false
is_first name (Some (word, rest)) = bytes_eq word name

-- the line's first word is this
abbrev pub begins_with : List ℕ → List ℕ → Bool
begins_with name line = is_first name (next_word line)

-- the first word is this, and it is the only one
abbrev pub is_only : List ℕ → Option (List ℕ × List ℕ) → Bool
is_only name None = false
is_only name (Some (word, rest)) = bytes_eq word name && is_none (next_word rest)

-- the line behind a script
abbrev pub is_end : List ℕ → Bool
is_end line = is_only (codes "end") (next_word line)

-- the line's very first character is `#`
abbrev pub is_comment : List ℕ → Bool
is_comment [] = false
is_comment (byte ∷ line) = byte == 35

-- the line says nothing: it is a comment, or has no word
abbrev pub is_skipped : List ℕ → Bool
is_skipped line = is_comment line || is_none (next_word line)

-- ---- groups

-- a line with its number, and the text of the script between it and a line `end`
pub record Group : Type 0 where
  pub line : ℕ
  pub bytes : List ℕ
  pub script : Option (List ℕ)

-- a contract line, and the lines of its script so far
pub record Opened : Type 0 where
  pub line : ℕ
  pub bytes : List ℕ
  pub text : List ℕ

-- the contract line with the whole script
abbrev pub closed : Opened → Group
closed o = record { line = o.line; bytes = o.bytes; script = Some o.text }

-- the contract line, where no line `end` comes
abbrev pub unclosed : Opened → Group
unclosed o = record { line = o.line; bytes = o.bytes; script = None }

-- the same with one line more
abbrev pub with_line : Opened → List ℕ → Opened
with_line o line = record o { text = o.text ++ (line ++ 10 ∷ []) }

-- the groups of these lines, of which the first has this number, behind a contract line whose script isn't closed
abbrev pub grouped : Option Opened → ℕ → List (List ℕ) → List Group
grouped None at [] = []
grouped (Some o) at [] = unclosed o ∷ []
grouped None at (line ∷ lines) =
    if is_skipped line then grouped None (at + 1) lines else
    if begins_with (codes "contract") line then grouped (Some (record { line = at; bytes = line; text = [] })) (at + 1) lines else
    record { line = at; bytes = line; script = None } ∷ grouped None (at + 1) lines
grouped (Some o) at (line ∷ lines) =
    if is_end line then closed o ∷ grouped None (at + 1) lines else grouped (Some (with_line o line)) (at + 1) lines

-- the groups of lines that begin with line number `at`
abbrev pub groups : ℕ → List (List ℕ) → List Group
groups = grouped None
