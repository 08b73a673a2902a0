-- The disk and the output: counts, and nothing told.
use Rattle.std.specs.Prelude.{ℕ, ◌^◌, List, Option, Some, None, Result, Ok, Err}
use Rattle.std.specs.Global.{Vec}
use Rattle.edge_io.specs.Outside.{Outside, Taken, next}
use Rattle.edge_io.specs.declared.files.Failed.{Failed}
use Rattle.edge_io.specs.declared.files.ReadEnd.{ReadEnd}
use Rattle.edge_io.specs.declared.files.ReadEnd.TheVariants as ends

-- one count of each kind, which stands for every name
pub record DiskCounts : Type 0 where
  pub read_faults : ℕ
  pub write_faults : ℕ
  pub long_reads : ℕ

-- what a program sees of the disk: every name has room for every length
abbrev pub outside_of : DiskCounts → Outside
outside_of counts = record {
  told = None;
  read_faults = λ _. counts.read_faults;
  write_faults = λ _. counts.write_faults;
  long_reads = λ _. counts.long_reads;
  room = λ _. Some (2 ^ 64);
}

-- the counts after a read that ended so
abbrev pub after_read : DiskCounts → Result (Vec ℕ) ReadEnd → DiskCounts
after_read old (Ok v) = old
after_read old (Err ends.Failed) = record old { read_faults = next old.read_faults }
after_read old (Err ends.TooLong) = record old { long_reads = next old.long_reads }
after_read old (Err ends.NoMemory) = old

-- the counts after a write that ended so
abbrev pub after_write : DiskCounts → Result Unit Failed → DiskCounts
after_write old (Ok _) = old
after_write old (Err _) = record old { write_faults = next old.write_faults }

-- an output: what its writer holds where that is known, and the count of faults
pub record Output : Type 0 where
  pub written : Option (List ℕ)
  pub faults : ℕ

-- what a program sees of an output: nothing is told
abbrev pub taken_of : Output → Taken
taken_of output = record { bytes = None; faults = output.faults }

-- the count of faults after a piece that ended so
abbrev pub faults_after : ℕ → Result ℕ Failed → ℕ
faults_after faults (Ok n) = faults
faults_after faults (Err _) = next faults
