-- What comes of a command: a status, the text that is printed, and the files that are written.
use Rattle.std.specs.Prelude.{◌≡◌, ℕ, ◌^◌, List, [], ◌∷◌, length, map, find, nat_lt, codes, if◌then◌else◌, Option, Some, None}
use Rattle.std.specs.FinMap.{insert, len}
use Rattle.edge_io.specs.Outside.{Held, most_bytes}
use Rattle.ledger_state.specs.Ledger.{Ledger}
use Rattle.ledger_state.specs.Spelling.{spelling}
use Rattle.block_cli.specs.Commands.{FileName, Command, writes}
use Rattle.block_cli.specs.Report.{bad_input_line, refused_line}
use Rattle.block_cli.specs.declared.status.Status.{Status}
use Rattle.block_cli.specs.declared.status.Status.TheVariants.{Done, Refused, BadInput}

-- a file to be written: its name and its bytes
abbrev pub File : Type 0
File = FileName × List ℕ

-- the files in the order in which they are written
pub record Answer : Type 0 where
  pub status : Status
  pub text : List ℕ
  pub written : List File

-- all is done: the text is printed and the files are written
abbrev pub done : List ℕ → List File → Answer
done text files = record { status = Done; text = text; written = files }

-- a file is at fault, and why; nothing is written
abbrev pub bad_input : FileName → List ℕ → Answer
bad_input name why = record { status = BadInput; text = bad_input_line name why; written = [] }

-- the block is refused, and why; nothing is written
abbrev pub refused : List ℕ → Answer
refused why = record { status = Refused; text = refused_line why; written = [] }

-- ---- no file of more than 64 MiB is read or written

abbrev pub too_long : FileName → Answer
too_long name = bad_input name (codes "TooLong")

-- the first file to be written that is longer
abbrev pub first_too_long : List File → Option File
first_too_long = find (λ file. nat_lt most_bytes (length file.1))

abbrev pub limited_by : Answer → Option File → Answer
limited_by answer None = answer
limited_by answer (Some file) = too_long file.0

-- the answer, unless a file that it writes is too long
abbrev pub limited : Answer → Answer
limited answer = limited_by answer (first_too_long answer.written)

-- ---- files that are written

-- all is done, and the state is written; one of 2^32 cells or more has no file, since its number of cells has 4 bytes
abbrev pub saving : List ℕ → FileName → Ledger → Answer
saving text name s = if nat_lt (len s.cells) (2 ^ 32) then done text ((name, spelling s) ∷ []) else too_long name

-- what an answer to contents may write, by its status: each file of the command, or none
abbrev pub WritesUnder : Command → Status → List File → Type 0
WritesUnder c Done files = map (λ file. file.0) files ≡ writes c
WritesUnder c Refused files = files ≡ []
WritesUnder c BadInput files = files ≡ []
WritesUnder c _ files = ⊥

-- what files hold once these were written, one after another
abbrev pub held_after : Held → List File → Held
held_after held [] = held
held_after held (file ∷ files) = held_after (insert held file.0 file.1) files
