-- From what was read, and what was done with the answer to it, to what a run of a command does.
use Rattle.std.proofs.Common.{◌≡◌, ◌≢◌, List, Option, Some, refl, subst, ◌∙◌, inl, inr}
use Rattle.std.specs.Prelude.{IfSome, IsSomeAnd, codes}
use Rattle.std.specs.FinMap.{get}
use Rattle.edge_io.specs.Outside.{Held, Outside, GoesOn}
use Rattle.block_cli.specs.Commands.{FileName, Command, reads}
use Rattle.block_cli.specs.Report.{bad_input_line}
use Rattle.block_cli.specs.Answer.{File, Answer, held_after, too_long}
use Rattle.block_cli.specs.Inputs.{StopsAtLong}
use Rattle.block_cli.specs.Seen.{Seen, SameFiles, AreWritten, StopsWriting, Prints}
use Rattle.block_cli.specs.Runs.{Answered, Performs, Tells}
use Rattle.block_cli.specs.Inside.{Delivers}
use Rattle.block_cli.specs.declared.status.Status.{Status}
use Rattle.block_cli.specs.declared.status.Status.TheVariants.{Done, Refused, Usage, ReadFault, WriteFault, NoMemory, BadInput}
use Rattle.block_cli.proofs.FileLists.{earlier}

written_since : (files : List File) (old mid new : Outside) → mid.told ≡ old.told → AreWritten files mid new → AreWritten files old new
written_since files old mid new same written = subst (λ (told : Option Held). IfSome told (λ held. new.told ≡ Some (held_after held files))) same written

stopped_since : (files : List File) (name : FileName) (old mid new : Outside) → GoesOn old mid → mid.told ≡ old.told → StopsWriting files name mid new → StopsWriting files name old new
stopped_since files name old mid new goes same s = record {
  before = s.before;
  bytes = s.bytes;
  after = s.after;
  order = s.order;
  rose = earlier (old.write_faults name) (mid.write_faults name) (new.write_faults name) (goes.writes name) s.rose;
  others = subst (λ (told : Option Held). IfSome told (λ held. IsSomeAnd new.told (λ now. (q : FileName) → q ≢ name → get now q ≡ get (held_after held s.before) q))) same s.others;
}

-- what was done with the answer after the reading
pub ended : (c : Command) (answer : Answer) (old mid new : Seen) (status : Status) → GoesOn old.files mid.files → SameFiles old.files mid.files → mid.sink ≡ old.sink →
    ((last : Outside) → Answered c answer old.files last) → Delivers answer mid status new → Performs c old status new
ended c answer old mid new Done goes same sink answered delivers = record { answer = answer; answered = answered new.files; status = delivers.is; written = written_since answer.written old.files mid.files new.files same delivers.written; printed = rw (← sink) delivers.printed }
ended c answer old mid new Refused goes same sink answered delivers = record { answer = answer; answered = answered new.files; is = delivers.is; same = delivers.same ∙ same; printed = rw (← sink) delivers.printed }
ended c answer old mid new BadInput goes same sink answered delivers = record { answer = answer; answered = answered new.files; is = delivers.is; same = delivers.same ∙ same; printed = rw (← sink) delivers.printed }
ended c answer old mid new Usage goes same sink answered delivers = absurd delivers
ended c answer old mid new ReadFault goes same sink answered delivers = absurd delivers
ended c answer old mid new NoMemory goes same sink answered delivers = record { same = delivers.same ∙ same; printed = rw (← sink) delivers.printed }
ended c answer old mid new WriteFault goes same sink answered (inl part) = inl (record { answer = answer; answered = answered new.files; status = part.is; name = part.name; stops = stopped_since answer.written part.name old.files mid.files new.files goes same part.stops; printed = rw (← sink) part.printed })
ended c answer old mid new WriteFault goes same sink answered (inr untold) = inr (record { answer = answer; answered = answered new.files; status = untold.is; written = written_since answer.written old.files mid.files new.files same untold.written; rose = rw (← sink) untold.rose; printed = rw (← sink) untold.printed })

-- the first file that isn't read whole is too long, and that is printed
pub long_told : (c : Command) (name : FileName) (old new : Seen) → StopsAtLong (reads c) name old.files new.files → SameFiles old.files new.files → Prints old.sink (bad_input_line name (codes "TooLong")) new.sink → Tells c BadInput old new
long_told c name old new stops same printed = record { answer = too_long name; answered = inr (record { name = name; stops = stops; is = refl }); is = refl; same = same; printed = printed }
