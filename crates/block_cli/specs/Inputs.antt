-- The files that a command reads, in their order: all are read whole, or one is the first that isn't.
use Rattle.std.specs.Prelude.{◌≡◌, ℕ, ◌≤◌, ◌<◌, List, ◌∷◌, ◌++◌, length, map, All, Some, IfSome, IsSomeAnd}
use Rattle.std.specs.FinMap.{get}
use Rattle.edge_io.specs.Outside.{Outside, Rose, most_bytes}
use Rattle.block_cli.specs.Commands.{FileName}

-- each of the files is read whole: at most 64 MiB, which are what the file holds where contents are told
pub record AreRead (names : List FileName) (contents : List (List ℕ)) (seen : Outside) : Type 0 where
  pub count : length contents ≡ length names
  pub short : All (λ bytes. length bytes ≤ most_bytes) contents
  pub told : IfSome seen.told (λ held. map (λ name. get held name) names ≡ map (λ bytes. Some bytes) contents)

-- the file is one of these, and those before it are read whole
pub record Reaches (names : List FileName) (name : FileName) (seen : Outside) : Type 0 where
  pub before : List FileName
  pub after : List FileName
  pub order : names ≡ before ++ name ∷ after
  pub contents : List (List ℕ)
  pub read : AreRead before contents seen

-- the first file that isn't read whole has more than 64 MiB, where contents are told, and raised its count
pub record StopsAtLong (names : List FileName) (name : FileName) (old new : Outside) : Type 0 where
  pub reached : Reaches names name old
  pub long : IfSome old.told (λ held. IsSomeAnd (get held name) (λ bytes. most_bytes < length bytes))
  pub rose : Rose (old.long_reads name) (new.long_reads name)

-- the first file that isn't read whole raised its count of read faults
pub record StopsAtFault (names : List FileName) (name : FileName) (old new : Outside) : Type 0 where
  pub reached : Reaches names name old
  pub rose : Rose (old.read_faults name) (new.read_faults name)
