-- What functions inside promise each other: the lines that are left, what is told, and rows as cells.
use Rattle.std.specs.Prelude.{◌≡◌, ℕ, ◌+◌, ◌==◌, Bool, nat_lt, ◌&&◌, ◌||◌, ◌⊎◌, List, [], ◌∷◌, ◌++◌, length, slice_index, Option, None, Some, Result, Ok, Err}
use Rattle.chain_text.specs.declared.fault.ChainFault.{ChainFault}
use Rattle.chain_text.specs.declared.fault.ChainKind.{ChainKind}
use Rattle.chain_text.specs.declared.fault.ChainRefusal.{ChainRefusal}
use Rattle.chain_text.specs.declared.fault.ChainRefusal.TheVariants as refusals
use Rattle.chain_text.specs.declared.fault.LineEnd.{LineEnd}
use Rattle.chain_text.specs.declared.fault.LineEnd.TheVariants as ends
use Rattle.chain_text.specs.Groups.{Group, grouped, groups}
use Rattle.chain_text.specs.Lines.{lines_of}

-- ---- what is told

-- seen by view, the answer is what is wanted, and so is its kind
abbrev pub Answers : {X Y E : Type 0} → (X → Y) → Result X E → Result Y E → Type 0
Answers view (Ok x) wanted = wanted ≡ Ok (view x)
Answers view (Err e) wanted = wanted ≡ Err e

-- the kind of a line's fault, and none where memory ran out
abbrev pub line_kind : LineEnd → Option ChainKind
line_kind ends.NoMemory = None
line_kind (ends.Faulty kind) = Some kind

-- the fault of a text, and none where memory ran out
abbrev pub chain_fault : ChainRefusal → Option ChainFault
chain_fault refusals.NoMemory = None
chain_fault (refusals.Fault fault) = Some fault

-- the end of a line, told of the text
abbrev pub told_at : ℕ → LineEnd → ChainRefusal
told_at line ends.NoMemory = refusals.NoMemory
told_at line (ends.Faulty kind) = refusals.Fault (record { line = line; kind = kind })

-- ---- lines that are left

-- the number of the next line, and the bytes of it and of all behind it
pub record Left : Type 0 where
  pub number : ℕ
  pub rest : List ℕ

-- the lines
abbrev pub left_lines : Left → List (List ℕ)
left_lines left = lines_of left.rest

-- the groups of the lines
abbrev pub left_groups : Left → List Group
left_groups left = groups left.number (left_lines left)

-- the number of the line behind the last
abbrev pub behind : Left → ℕ
behind left = left.number + length (left_lines left)

-- a text is a line and what stands behind its newline, or a line without one
abbrev pub IsParted : List ℕ → List ℕ → List ℕ → Type 0
IsParted text line rest = (text ≡ line ++ 10 ∷ rest) ⊎ ((text ≡ line) × (rest ≡ []))

-- the lines up to `end` are this script's, where a line of this number and these bytes is before them
abbrev pub Closes : Left → Option (List ℕ) → Left → Type 0
Closes old script new =
    (line : ℕ) (bytes : List ℕ) →
    grouped (Some (record { line = line; bytes = bytes; text = [] })) old.number (left_lines old)
    ≡ record { line = line; bytes = bytes; script = script } ∷ left_groups new

-- ---- numbers

-- a word begins with a sign, or with a zero that isn't all of it
abbrev pub begins_otherwise : List ℕ → Bool
begins_otherwise word = nat_lt 0 (length word) && ((slice_index word 0 == 43) || ((slice_index word 0 == 48) && nat_lt 1 (length word)))
