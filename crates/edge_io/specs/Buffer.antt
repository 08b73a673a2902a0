-- A sink in memory: what it took, and what each call makes of it.
use Rattle.std.specs.Prelude.{ℕ, ◌-◌, ◌==◌, ◌||◌, Bool, List, ◌++◌, take, Some, Result, Ok, Err}
use Rattle.edge_io.specs.Outside.{Taken, next}
use Rattle.edge_io.specs.Shelf.{is_due}
use Rattle.edge_io.specs.declared.files.Failed.{Failed}

-- bytes taken, room for so many more, how many pieces were offered, which of them fail, and how many did
pub record Buffer : Type 0 where
  pub bytes : List ℕ
  pub room : ℕ
  pub calls : ℕ
  pub failing : List ℕ
  pub faults : ℕ

-- what a program sees of a sink in memory
abbrev pub taken_of : Buffer → Taken
taken_of b = record { bytes = Some b.bytes; faults = b.faults }

-- the piece that comes next fails: its number is due, or no room is left
abbrev pub piece_due : Buffer → Bool
piece_due b = is_due b.failing b.calls || b.room == 0

-- what a piece leaves: its first bytes are taken, or its fault is counted
abbrev pub after_piece : Buffer → List ℕ → Result ℕ Failed → Buffer
after_piece old piece (Ok n) = record old { bytes = old.bytes ++ take n piece; room = old.room - n; calls = next old.calls }
after_piece old piece (Err _) = record old { calls = next old.calls; faults = next old.faults }
