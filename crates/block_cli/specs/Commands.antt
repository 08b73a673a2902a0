-- What can be asked of the program: its commands, the words that ask for them, and the files that they read and write.
use Rattle.std.specs.Prelude.{ℕ, Bool, ◌&&◌, not, ◌==◌, List, [], ◌∷◌, length, codes, if◌then◌else◌, Option, Some, None}
use Rattle.std.specs.List.{list_all}
use Rattle.std.specs.Option.{option_map}
use Rattle.std.specs.Str.{bytes_eq}
use Rattle.block_cli.specs.Numbers.{workers_of}

-- the name of a file
abbrev pub FileName : Type 0
FileName = List ℕ

-- a command with what its words name, in their order
pub data Command : Type 0 where
  Validate : FileName → FileName → FileName → ℕ → Command
  Check : FileName → Command
  Genesis : FileName → FileName → Command
  Show : FileName → Command

-- the files that it reads, in the order in which it reads them
abbrev pub reads : Command → List FileName
reads (Validate state block next workers) = state ∷ block ∷ []
reads (Check code) = code ∷ []
reads (Genesis text state) = text ∷ []
reads (Show state) = state ∷ []

-- the files that it writes, in the order in which it writes them
abbrev pub writes : Command → List FileName
writes (Validate state block next workers) = next ∷ []
writes (Check code) = []
writes (Genesis text state) = state ∷ []
writes (Show state) = []

-- whether a run of it surely ends
abbrev pub SurelyEnds : Command → Type 0
SurelyEnds (Validate state block next workers) = Unit {0}
SurelyEnds (Check code) = Unit {0}
SurelyEnds (Genesis text state) = Unit {0}
SurelyEnds (Show state) = Unit {0}

-- no name of a file is empty
abbrev pub are_names : List FileName → Bool
are_names = list_all (λ name. not (length name == 0))

-- STATE BLOCK NEXT WORKERS, where the block isn't written over
abbrev pub validate_of : List (List ℕ) → Option Command
validate_of (state ∷ block ∷ next ∷ workers ∷ []) =
    if are_names (state ∷ block ∷ next ∷ []) && not (bytes_eq block next)
    then option_map (λ n. Validate state block next n) (workers_of workers)
    else None
validate_of _ = None

-- CODE
abbrev pub check_of : List (List ℕ) → Option Command
check_of (code ∷ []) = if are_names (code ∷ []) then Some (Check code) else None
check_of _ = None

-- TEXT STATE
abbrev pub genesis_of : List (List ℕ) → Option Command
genesis_of (text ∷ state ∷ []) = if are_names (text ∷ state ∷ []) then Some (Genesis text state) else None
genesis_of _ = None

-- STATE
abbrev pub show_of : List (List ℕ) → Option Command
show_of (state ∷ []) = if are_names (state ∷ []) then Some (Show state) else None
show_of _ = None

-- the command that the words ask for, by the first of them
unfoldable pub command_of : List (List ℕ) → Option Command
command_of (verb ∷ words) =
    if bytes_eq verb (codes "validate") then validate_of words
    else if bytes_eq verb (codes "check") then check_of words
    else if bytes_eq verb (codes "genesis") then genesis_of words
    else if bytes_eq verb (codes "show") then show_of words
    else None
command_of [] = None

-- words that are no command end surely, as usage
abbrev pub EndSurely : Option Command → Type 0
EndSurely None = Unit {0}
EndSurely (Some c) = SurelyEnds c
