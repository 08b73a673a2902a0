-- When a run has to end by the meaning of its command: no count of its files or of the sink rises.
use Rattle.std.specs.Prelude.{◌≡◌, ℕ, List, map, Contains, Some, ◌⊎◌}
use Rattle.std.specs.FinMap.{get}
use Rattle.edge_io.specs.Outside.{Held, Outside, Rose}
use Rattle.block_cli.specs.Commands.{FileName, Command, command_of, reads, writes}
use Rattle.block_cli.specs.Answer.{Answer, limited}
use Rattle.block_cli.specs.Meaning.{Means}
use Rattle.block_cli.specs.Seen.{Seen}
use Rattle.block_cli.specs.declared.status.Status.{Status}
use Rattle.block_cli.specs.declared.status.Status.TheVariants.{NoMemory}

-- no count of the file rose
pub record IsQuiet (name : FileName) (old new : Outside) : Type 0 where
  pub reads : ¬ Rose (old.read_faults name) (new.read_faults name)
  pub writes : ¬ Rose (old.write_faults name) (new.write_faults name)
  pub longs : ¬ Rose (old.long_reads name) (new.long_reads name)

-- no count of a file that the command reads or writes rose, nor the sink's
pub record AllQuiet (c : Command) (old new : Seen) : Type 0 where
  pub reads : (name : FileName) → Contains (reads c) name → IsQuiet name old.files new.files
  pub writes : (name : FileName) → Contains (writes c) name → IsQuiet name old.files new.files
  pub sink : ¬ Rose old.sink.faults new.sink.faults

-- Where the words are a command, its files hold these contents, and no count rises, the status is that of
-- an answer that the command means by them, want of memory aside.
abbrev pub Completes : List (List ℕ) → Seen → Status → Seen → Type 0
Completes words old status new =
    (c : Command) (held : Held) (contents : List (List ℕ)) →
    command_of words ≡ Some c → old.files.told ≡ Some held →
    map (λ name. get held name) (reads c) ≡ map (λ bytes. Some bytes) contents → AllQuiet c old new →
    (status ≡ NoMemory) ⊎ ((answer : Answer) × Means c contents answer × (status ≡ (limited answer).status))
