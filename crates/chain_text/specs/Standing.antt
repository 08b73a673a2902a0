-- What stands after the lines of a genesis text so far.
use Rattle.std.specs.Prelude.{ℕ, List, [], ◌∷◌}
use Rattle.std.specs.Ordering.{nat_cmp}
use Rattle.std.specs.Cmp.Lexicographic.{slice_cmp}
use Rattle.std.specs.FinMap.{empty, insert}
use Rattle.std.specs.FinSet as set
use Rattle.data_nodes.specs.Storage.{Entry as MapEntry, Kept}
use Rattle.cell_names.specs.declared.cell.Cell.TheVariants.{Storage, Entry}
use Rattle.cell_names.specs.Contents.{Contents, with_balance}
use Rattle.code_book.specs.Books.{Contracts}

-- a set of addresses
abbrev pub Addresses : Type 0
Addresses = set.FinSet (slice_cmp nat_cmp)

-- the contracts so far, the line of each in the order of the lines, the addresses that had a line of their balance and of their storage, and what stands in cells
pub record Standing : Type 0 where
  pub book : Contracts
  pub lines : List (List ℕ × ℕ)
  pub balanced : Addresses
  pub stored : Addresses
  pub cells : Contents

-- before the first line
abbrev pub nothing : Standing
nothing = record { book = empty; lines = []; balanced = set.empty; stored = set.empty; cells = empty }

-- ---- one line more

-- the same with a balance
abbrev pub with_amount : Standing → List ℕ → ℕ → Standing
with_amount s a n = record s { balanced = set.insert s.balanced a; cells = with_balance s.cells a n }

-- the cells with these entries of a contract's big maps
abbrev pub with_entries : List ℕ → List MapEntry → Contents → Contents
with_entries a [] cells = cells
with_entries a ((place, key, v) ∷ entries) cells = with_entries a entries (insert cells (Entry a place key) v)

-- the same with a contract's storage and the entries of its big maps
abbrev pub with_storage : Standing → List ℕ → Kept → Standing
with_storage s a kept = record s { stored = set.insert s.stored a; cells = with_entries a kept.1 (insert s.cells (Storage a) kept.0) }
