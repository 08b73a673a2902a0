-- What is seen of the files and of the sink, and what a run leaves of them.
use Rattle.std.specs.Prelude.{◌≡◌, ◌≢◌, ℕ, List, ◌∷◌, ◌++◌, length, Some, IfSome, IsSomeAnd, ◌⊎◌}
use Rattle.std.specs.FinMap.{get}
use Rattle.edge_io.specs.Outside.{Outside, Rose, Taken, TakesFirst}
use Rattle.block_cli.specs.Commands.{FileName}
use Rattle.block_cli.specs.Answer.{File, held_after}

-- what is seen from outside
pub record Seen : Type 0 where
  pub files : Outside
  pub sink : Taken

abbrev pub seen_of : Outside → Taken → Seen
seen_of files sink = record { files = files; sink = sink }

-- each file holds what it held
abbrev pub SameFiles : Outside → Outside → Type 0
SameFiles old new = new.told ≡ old.told

-- these files hold what was written, all others what they held
abbrev pub AreWritten : List File → Outside → Outside → Type 0
AreWritten files old new = IfSome old.told (λ held. new.told ≡ Some (held_after held files))

-- of these files one couldn't be written: those before it are written, and all others hold what they held
pub record StopsWriting (files : List File) (name : FileName) (old new : Outside) : Type 0 where
  pub before : List File
  pub bytes : List ℕ
  pub after : List File
  pub order : files ≡ before ++ (name, bytes) ∷ after
  pub rose : Rose (old.write_faults name) (new.write_faults name)
  pub others : IfSome old.told (λ held. IsSomeAnd new.told (λ now.
      (q : FileName) → q ≢ name → get now q ≡ get (held_after held before) q))

-- a beginning of the text was taken: all of it, unless the sink's count rose
pub record Prints (old : Taken) (text : List ℕ) (new : Taken) : Type 0 where
  pub count : ℕ
  pub takes : TakesFirst old text count new
  pub whole : (count ≡ length text) ⊎ Rose old.faults new.faults

-- all of the text was taken
abbrev pub PrintsAll : Taken → List ℕ → Taken → Type 0
PrintsAll old text new = TakesFirst old text (length text) new
