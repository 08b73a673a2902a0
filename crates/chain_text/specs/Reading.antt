-- The state that a genesis text says, or its first fault.
use Rattle.std.specs.Prelude.{ℕ, ◌+◌, ◌-◌, ◌^◌, List, [], ◌∷◌, codes, length, if◌then◌else◌, Option, Some, None, Ok, Err}
use Rattle.std.specs.Str.{bytes_eq}
use Rattle.chain_text.specs.declared.fault.ChainKind.TheVariants.{NoStorage}
use Rattle.ledger_state.specs.Ledger.{Ledger}
use Rattle.ledger_state.specs.Storages.{least_bare}
use Rattle.chain_text.specs.Fields.{◌>>=◌, ◌>>◌}
use Rattle.chain_text.specs.Heads.{Told, all_ascii, at_line, head_number}
use Rattle.chain_text.specs.Genesis.{line}
use Rattle.chain_text.specs.Standing.{Standing, nothing}
use Rattle.chain_text.specs.Groups.{Group, groups}
use Rattle.chain_text.specs.Lines.{lines_of}

-- ---- the lines behind the first two

-- what stands after these lines
abbrev pub all_lines : Standing → List Group → Told Standing
all_lines s [] = Ok s
all_lines s (g ∷ gs) = at_line g.line (line s g) >>= λ next. all_lines next gs

-- the line of a contract
abbrev pub line_at : List ℕ → List (List ℕ × ℕ) → ℕ
line_at a [] = 0
line_at a ((b, at) ∷ lines) = if bytes_eq b a then at else line_at a lines

-- each contract has its storage; the least that has none is told at its line
abbrev pub housed : List (List ℕ × ℕ) → Option (List ℕ) → Told (Unit {0})
housed lines None = Ok tt
housed lines (Some a) = Err (record { line = line_at a lines; kind = NoStorage })

-- the state of what stands after all lines
abbrev pub settled : ℕ → ℕ → Standing → Told Ledger
settled level now s = do
  housed s.lines (least_bare s.book s.cells)
  Ok (record { level = level; now = now; book = s.book; cells = s.cells })

-- ---- the text

-- the state of these lines
abbrev pub ledger_in : List (List ℕ) → Told Ledger
ledger_in lines = do
  all_ascii 1 lines
  (level, gs) ← head_number (codes "level") (10 ^ 9) (length lines + 1) (groups 1 lines)
  (now, gs) ← head_number (codes "now") (2 ^ 63 - 1) (length lines + 1) gs
  s ← all_lines nothing gs
  settled level now s

-- the state that the text says
unfoldable pub genesis_of : List ℕ → Told Ledger
genesis_of text = ledger_in (lines_of text)
