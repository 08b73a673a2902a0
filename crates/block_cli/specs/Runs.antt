-- What a run of the program does, by its status; the same for every command.
use Rattle.std.specs.Prelude.{◌≡◌, ℕ, List, Option, Some, None, ◌⊎◌}
use Rattle.edge_io.specs.Outside.{Outside, Rose}
use Rattle.block_cli.specs.Commands.{FileName, Command, command_of, reads}
use Rattle.block_cli.specs.Report.{usage_line, cannot_read_line, cannot_write_line, memory_line}
use Rattle.block_cli.specs.Answer.{Answer, limited, too_long}
use Rattle.block_cli.specs.Meaning.{Means}
use Rattle.block_cli.specs.Inputs.{AreRead, StopsAtLong, StopsAtFault}
use Rattle.block_cli.specs.Seen.{Seen, SameFiles, AreWritten, StopsWriting, Prints, PrintsAll}
use Rattle.block_cli.specs.Statuses.{exit_number}
use Rattle.block_cli.specs.declared.status.Status.{Status}
use Rattle.block_cli.specs.declared.status.Status.TheVariants.{Done, Refused, Usage, ReadFault, WriteFault, NoMemory, BadInput}

-- the answer to the contents of all files that the command reads
pub record OfContents (c : Command) (answer : Answer) (old : Outside) : Type 0 where
  pub contents : List (List ℕ)
  pub read : AreRead (reads c) contents old
  pub meant : Answer
  pub means : Means c contents meant
  pub is : answer ≡ limited meant

-- the answer to a file that is too long to be read
pub record OfLongFile (c : Command) (answer : Answer) (old new : Outside) : Type 0 where
  pub name : FileName
  pub stops : StopsAtLong (reads c) name old new
  pub is : answer ≡ too_long name

-- the answer that comes of what the files hold
abbrev pub Answered : Command → Answer → Outside → Outside → Type 0
Answered c answer old new = OfContents c answer old ⊎ OfLongFile c answer old new

-- 0: the answer is written and printed
pub record Finishes (c : Command) (old new : Seen) : Type 0 where
  pub answer : Answer
  pub answered : Answered c answer old.files new.files
  pub status : answer.status ≡ Done
  pub written : AreWritten answer.written old.files new.files
  pub printed : PrintsAll old.sink answer.text new.sink

-- 1 and 6: the answer is printed, and nothing is written
pub record Tells (c : Command) (status : Status) (old new : Seen) : Type 0 where
  pub answer : Answer
  pub answered : Answered c answer old.files new.files
  pub is : answer.status ≡ status
  pub same : SameFiles old.files new.files
  pub printed : Prints old.sink answer.text new.sink

-- 2: the words are no command
pub record SaysUsage (status : Status) (old new : Seen) : Type 0 where
  pub is : status ≡ Usage
  pub same : SameFiles old.files new.files
  pub printed : Prints old.sink usage_line new.sink

-- 3: a file couldn't be read
pub record FailsToRead (c : Command) (old new : Seen) : Type 0 where
  pub name : FileName
  pub stops : StopsAtFault (reads c) name old.files new.files
  pub same : SameFiles old.files new.files
  pub printed : Prints old.sink (cannot_read_line name) new.sink

-- 4: a file couldn't be written
pub record FailsToWrite (c : Command) (old new : Seen) : Type 0 where
  pub answer : Answer
  pub answered : Answered c answer old.files new.files
  pub status : answer.status ≡ Done
  pub name : FileName
  pub stops : StopsWriting answer.written name old.files new.files
  pub printed : Prints old.sink (cannot_write_line name) new.sink

-- 4 too: the answer is written, and the sink raised its count while it was printed
pub record FailsToPrint (c : Command) (old new : Seen) : Type 0 where
  pub answer : Answer
  pub answered : Answered c answer old.files new.files
  pub status : answer.status ≡ Done
  pub written : AreWritten answer.written old.files new.files
  pub rose : Rose old.sink.faults new.sink.faults
  pub printed : Prints old.sink answer.text new.sink

-- 5: memory ran out, and nothing is written
pub record GivesUp (old new : Seen) : Type 0 where
  pub same : SameFiles old.files new.files
  pub printed : Prints old.sink memory_line new.sink

-- a run of a command, by its status
abbrev pub Performs : Command → Seen → Status → Seen → Type 0
Performs c old Done new = Finishes c old new
Performs c old Refused new = Tells c Refused old new
Performs c old Usage new = ⊥
Performs c old ReadFault new = FailsToRead c old new
Performs c old WriteFault new = FailsToWrite c old new ⊎ FailsToPrint c old new
Performs c old NoMemory new = GivesUp old new
Performs c old BadInput new = Tells c BadInput old new

-- a run of the command, if the words are one
abbrev pub RunsFor : Option Command → Seen → Status → Seen → Type 0
RunsFor None old status new = SaysUsage status old new
RunsFor (Some c) old status new = Performs c old status new

-- a run on these words
abbrev pub Runs : List (List ℕ) → Seen → Status → Seen → Type 0
Runs words old status new = RunsFor (command_of words) old status new

-- an end before there are words: memory ran out, or a word of the process isn't text
abbrev pub EndsEarly : Seen → Status → Seen → Type 0
EndsEarly old NoMemory new = GivesUp old new
EndsEarly old Usage new = SaysUsage Usage old new
EndsEarly old _ new = ⊥

-- a run of the process: on some words, unless it ends before there are any
abbrev pub Starts : Seen → Status → Seen → Type 0
Starts old status new = EndsEarly old status new ⊎ ((words : List (List ℕ)) × Runs words old status new)

-- the number that the process ends with is that of the status of its run
abbrev pub ExitsWith : Seen → ℕ → Seen → Type 0
ExitsWith old number new = (status : Status) × (number ≡ exit_number status) × Starts old status new
