-- What is seen of files and of a sink, and what each call on them may do.
use Rattle.std.specs.Prelude.{◌≡◌, ◌≢◌, ℕ, ◌+◌, ◌-◌, ◌^◌, ◌≤◌, ◌<◌, min, max, List, ◌++◌, length, take, Option, Some, is_some, IfSome, IsSomeAnd, Result, IsErrOf, IfOk, OnOk, OnErr}
use Rattle.std.specs.Global.{Vec}
use Rattle.std.specs.FinMap.{FinMap, get, insert}
use Rattle.std.specs.Ordering.{nat_cmp}
use Rattle.std.specs.Cmp.Lexicographic.{slice_cmp}
use Rattle.edge_io.specs.declared.files.Failed.{Failed}
use Rattle.edge_io.specs.declared.files.ReadEnd.{ReadEnd}
use Rattle.edge_io.specs.declared.files.ReadEnd.TheVariants as ends

-- what files hold: a finite map from names to bytes
abbrev pub Held : Type 0
Held = FinMap (slice_cmp nat_cmp) (List ℕ)

-- a count rose: it is greater now, or stands at its last value
abbrev pub Rose : ℕ → ℕ → Type 0
Rose before now = min (before + 1) (2 ^ 64 - 1) ≤ now

-- one more, but not past the last value of a count
abbrev pub next : ℕ → ℕ
next n = max n (min (n + 1) (2 ^ 64 - 1))

-- the longest file that is read: 64 MiB
abbrev pub most_bytes : ℕ
most_bytes = 67108864

-- files: their contents where these are told; for each name three counts, and a room where there is one
pub record Outside : Type 0 where
  pub told : Option Held
  pub read_faults : List ℕ → ℕ
  pub write_faults : List ℕ → ℕ
  pub long_reads : List ℕ → ℕ
  pub room : List ℕ → Option ℕ

-- the name has a room for that many bytes
abbrev pub HasRoom : Outside → List ℕ → ℕ → Type 0
HasRoom seen name n = IsSomeAnd (seen.room name) (λ most. n ≤ most)

-- no count falls, no room falls, and contents stay told or untold
pub record GoesOn (old new : Outside) : Type 0 where
  pub reads : (q : List ℕ) → old.read_faults q ≤ new.read_faults q
  pub writes : (q : List ℕ) → old.write_faults q ≤ new.write_faults q
  pub longs : (q : List ℕ) → old.long_reads q ≤ new.long_reads q
  pub rooms : (q : List ℕ) (n : ℕ) → HasRoom old q n → HasRoom new q n
  pub tells : is_some new.told ≡ is_some old.told

-- a name has the counts that it had
abbrev pub SameCounts : Outside → Outside → List ℕ → Type 0
SameCounts old new q = (new.read_faults q ≡ old.read_faults q) × (new.write_faults q ≡ old.write_faults q) × (new.long_reads q ≡ old.long_reads q)

-- all other names have the counts that they had
abbrev pub SameOthers : Outside → Outside → List ℕ → Type 0
SameOthers old new name = (q : List ℕ) → q ≢ name → SameCounts old new q

-- a read: the told bytes of at most 64 MiB, or a fault that its own count tells; contents stay
pub record ReadsFile (old : Outside) (name : List ℕ) (result : Result (Vec ℕ) ReadEnd) (new : Outside) : Type 0 where
  pub goes : GoesOn old new
  pub same : new.told ≡ old.told
  pub short : IfOk result (λ v. length v.items ≤ most_bytes)
  pub bytes : IfOk result (λ v. IfSome old.told (λ held. get held name ≡ Some v.items))
  pub failed : IsErrOf result ends.Failed → Rose (old.read_faults name) (new.read_faults name)
  pub long : IsErrOf result ends.TooLong → Rose (old.long_reads name) (new.long_reads name)
  pub longer : IsErrOf result ends.TooLong → IfSome old.told (λ held. IsSomeAnd (get held name) (λ b. most_bytes < length b))
  pub gave_up : IsErrOf result ends.NoMemory → new ≡ old

-- a room for so many bytes is made; contents and counts stay
pub record MakesRoom {E : Type 0} (old : Outside) (name : List ℕ) (n : ℕ) (result : Result Unit E) (new : Outside) : Type 0 where
  pub goes : GoesOn old new
  pub same : new.told ≡ old.told
  pub counts : (q : List ℕ) → SameCounts old new q
  pub room : OnOk result (HasRoom new name n)
  pub gave_up : OnErr result (new ≡ old)

-- a write: the bytes are the whole content, or a fault that its count tells; other contents stay
pub record WritesFile (old : Outside) (name bytes : List ℕ) (result : Result Unit Failed) (new : Outside) : Type 0 where
  pub goes : GoesOn old new
  pub written : OnOk result (IfSome old.told (λ held. new.told ≡ Some (insert held name bytes)))
  pub others : OnErr result (IfSome old.told (λ held. IfSome new.told (λ now. (q : List ℕ) → q ≢ name → get now q ≡ get held q)))
  pub failed : OnErr result (Rose (old.write_faults name) (new.write_faults name))

-- a sink: the bytes that it took where these are told, and its count of faults
pub record Taken : Type 0 where
  pub bytes : Option (List ℕ)
  pub faults : ℕ

-- so many first bytes of a text were taken, and nothing else
pub record TakesFirst (old : Taken) (text : List ℕ) (n : ℕ) (new : Taken) : Type 0 where
  pub later : old.faults ≤ new.faults
  pub tells : is_some new.bytes ≡ is_some old.bytes
  pub within : n ≤ length text
  pub taken : IfSome old.bytes (λ before. new.bytes ≡ Some (before ++ take n text))

-- a piece is offered: at least one byte of it is taken, or nothing is and the count of faults rose
pub record TakesPiece (old : Taken) (piece : List ℕ) (result : Result ℕ Failed) (new : Taken) : Type 0 where
  pub ok : IfOk result (λ n. (0 < n) × TakesFirst old piece n new)
  pub err : OnErr result (TakesFirst old piece 0 new)
  pub failed : OnErr result (Rose old.faults new.faults)
