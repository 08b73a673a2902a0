-- What functions inside promise each other of commands, files and the sink.
use Rattle.std.specs.Prelude.{◌≡◌, ℕ, Bool, ◌&&◌, ◌||◌, ◌==◌, nat_lt, slice_index, List, [], length, map, All, Option, Some, None, Result, Ok, Err, OnOk, OnErr, ◌⊎◌}
use Rattle.std.specs.Global.{Vec}
use Rattle.edge_io.specs.Outside.{Outside, Rose, HasRoom, Taken, TakesFirst}
use Rattle.block_cli.specs.declared.command.Command.{Command as Asked}
use Rattle.block_cli.specs.declared.command.Command.TheVariants as asked
use Rattle.block_cli.specs.declared.answer.File.{File as Made}
use Rattle.block_cli.specs.declared.answer.Answer.{Answer as Given}
use Rattle.block_cli.specs.declared.answer.Answer.TheVariants as given
use Rattle.block_cli.specs.declared.input.Unread.{Unread}
use Rattle.block_cli.specs.declared.input.Unread.TheVariants as unread
use Rattle.block_cli.specs.declared.status.Status.{Status}
use Rattle.block_cli.specs.declared.status.Status.TheVariants.{Done, Refused, Usage, ReadFault, WriteFault, NoMemory, BadInput}
use Rattle.block_cli.specs.Commands.{FileName, Command, Check, Genesis, Show, Validate}
use Rattle.block_cli.specs.Report.{cannot_write_line}
use Rattle.block_cli.specs.Answer.{File, Answer, done}
use Rattle.block_cli.specs.Inputs.{AreRead, StopsAtLong, StopsAtFault}
use Rattle.block_cli.specs.Seen.{Seen, SameFiles, AreWritten, StopsWriting, Prints, PrintsAll}
use Rattle.block_cli.specs.Runs.{GivesUp}

-- ---- values as contracts see them

abbrev pub command_in : Asked → Command
command_in (asked.Validate state block next workers) = Validate state.now block.now next.now workers
command_in (asked.Check code) = Check code.now
command_in (asked.Genesis text state) = Genesis text.now state.now
command_in (asked.Show state) = Show state.now

abbrev pub file_in : Made → File
file_in file = (file.name.now, file.bytes.items)

abbrev pub files_in : List Made → List File
files_in = map file_in

abbrev pub answer_in : Given → Answer
answer_in (given.Done text files) = done text.items (files_in files.items)
answer_in (given.Refused text) = record { status = Refused; text = text.items; written = [] }
answer_in (given.BadInput text) = record { status = BadInput; text = text.items; written = [] }

-- the bytes of vectors
abbrev pub bytes_in : List (Vec ℕ) → List (List ℕ)
bytes_in = map (λ (v : Vec ℕ). v.items)

-- ---- words

-- a sign, or a zero that isn't all of the word
abbrev pub begins_otherwise : List ℕ → Bool
begins_otherwise word = nat_lt 0 (length word) && ((slice_index word 0 == 43) || ((slice_index word 0 == 48) && nat_lt 1 (length word)))

-- ---- reading

-- what reading files in order comes to
abbrev pub ReadsAll : List FileName → Outside → Result (Vec (Vec ℕ)) Unread → Outside → Type 0
ReadsAll names old (Ok contents) new = AreRead names (bytes_in contents.items) old
ReadsAll names old (Err unread.NoMemory) new = Unit {0}
ReadsAll names old (Err (unread.CannotRead name)) new = StopsAtFault names name.now old new
ReadsAll names old (Err (unread.TooLong name)) new = StopsAtLong names name.now old new

-- ---- writing

-- there is room for each file
abbrev pub HaveRoom : List File → Outside → Type 0
HaveRoom files seen = All (λ file. HasRoom seen file.0 (length file.1)) files

-- what writing files in order comes to: all are written, or the first that couldn't be is named
abbrev pub WritesAll : List File → Outside → Option FileName → Outside → Type 0
WritesAll files old None new = AreWritten files old new
WritesAll files old (Some name) new = StopsWriting files name old new

-- so much of a text was printed
pub record PrintsOn {E : Type 0} (old : Taken) (text : List ℕ) (result : Result Unit E) (new : Taken) : Type 0 where
  pub count : ℕ
  pub takes : TakesFirst old text count new
  pub ok : OnOk result (count ≡ length text)
  pub err : OnErr result (Rose old.faults new.faults)

-- ---- what is done with an answer

-- its text is printed, and nothing is written
pub record PrintsOnly (answer : Answer) (status : Status) (old new : Seen) : Type 0 where
  pub is : answer.status ≡ status
  pub same : SameFiles old.files new.files
  pub printed : Prints old.sink answer.text new.sink

-- it is written and printed
pub record Saves (answer : Answer) (old new : Seen) : Type 0 where
  pub is : answer.status ≡ Done
  pub written : AreWritten answer.written old.files new.files
  pub printed : PrintsAll old.sink answer.text new.sink

-- it is written, and not all of it printed
pub record SavesUntold (answer : Answer) (old new : Seen) : Type 0 where
  pub is : answer.status ≡ Done
  pub written : AreWritten answer.written old.files new.files
  pub rose : Rose old.sink.faults new.sink.faults
  pub printed : Prints old.sink answer.text new.sink

-- one of its files couldn't be written
pub record SavesPart (answer : Answer) (old new : Seen) : Type 0 where
  pub is : answer.status ≡ Done
  pub name : FileName
  pub stops : StopsWriting answer.written name old.files new.files
  pub printed : Prints old.sink (cannot_write_line name) new.sink

-- by the status that it ends with
abbrev pub Delivers : Answer → Seen → Status → Seen → Type 0
Delivers answer old Done new = Saves answer old new
Delivers answer old Refused new = PrintsOnly answer Refused old new
Delivers answer old Usage new = ⊥
Delivers answer old ReadFault new = ⊥
Delivers answer old WriteFault new = SavesPart answer old new ⊎ SavesUntold answer old new
Delivers answer old NoMemory new = GivesUp old new
Delivers answer old BadInput new = PrintsOnly answer BadInput old new
