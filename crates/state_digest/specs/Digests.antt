-- Digests that are kept of a state, with shelves that tell in which bucket each cell is; and what an update asks.
use Rattle.std.specs.Prelude.{◌≡◌, ℕ, zero, suc, ◌+◌, ◌<◌, ◌==◌, Bool, false, if◌then◌else◌, List, [], ◌∷◌, ◌++◌, length, map, Option, Some, None, slice_get}
use Rattle.std.specs.List.{Contains, list_any}
use Rattle.std.specs.FinMap.{entries, get}
use Rattle.value_core.specs.declared.val.Val.{Val}
use Rattle.cell_names.specs.declared.cell.Cell.{Cell}
use Rattle.cell_names.specs.Contents.{Contents}
use Rattle.ledger_state.specs.Ledger.{Ledger}
use Rattle.state_digest.specs.declared.digests.Digests.{Digests}
use Rattle.state_digest.specs.declared.shelves.Shelf.{Shelf}
use Rattle.state_digest.specs.Digest.{book_digest, bucket_digest, bucket_of}

-- ---- digests of a state

-- the first of these cells
abbrev pub first_cell : List (Cell × Val) → Option Cell
first_cell [] = None
first_cell (e ∷ cells) = Some e.0

-- the shelf of a run of cells: the first of them, and the bucket of each
pub record IsShelfOf (run : List (Cell × Val)) (shelf : Shelf) : Type 0 where
  pub first : first_cell run ≡ Some shelf.first
  pub numbers : map (λ e. bucket_of e.0) run ≡ shelf.numbers.items

-- the cells are cut into runs, with a shelf for each
abbrev pub AreShelved : List (Cell × Val) → List Shelf → Type 0
AreShelved cells [] = cells ≡ []
AreShelved cells (shelf ∷ others) = (run : List (Cell × Val)) × ((rest : List (Cell × Val)) × ((cells ≡ run ++ rest) × (IsShelfOf run shelf × AreShelved rest others)))

-- the digests of this state's book and of each bucket of its cells, and the shelves of these
pub record AreDigestsOf (s : Ledger) (d : Digests) : Type 0 where
  pub kept : d.spent ≡ false
  pub book : d.book ≡ book_digest s.book
  pub count : length d.buckets.items ≡ 256
  pub each : (k : ℕ) → k < 256 → slice_get d.buckets.items k ≡ Some (bucket_digest k s.cells)
  pub shelves : AreShelved (entries s.cells) d.shelves.items

-- ---- an update

-- two states' cells differ at most in these
abbrev pub DifferAtMostIn : List Cell → Contents → Contents → Type 0
DifferAtMostIn touched old new = (c : Cell) → ¬ Contains touched c → get old c ≡ get new c

-- the digests of some state before: with the same book, and other cells at most where they were touched
pub record AreDigestsBefore (s : Ledger) (touched : List Cell) (d : Digests) : Type 0 where
  pub before : Ledger
  pub digests : AreDigestsOf before d
  pub book : before.book ≡ s.book
  pub cells : DifferAtMostIn touched before.cells s.cells

-- whether a touched cell is in the bucket
abbrev pub is_touched : List Cell → ℕ → Bool
is_touched touched k = list_any (λ c. bucket_of c == k) touched

-- how many numbers below n pass a test
unfoldable pub how_many : (ℕ → Bool) → ℕ → ℕ
how_many test zero = 0
how_many test (suc n) = how_many test n + (if test n then 1 else 0)

-- ---- updates one after another

-- each state has the book of the one before, and differs from it at most in the cells that stand with it
abbrev pub AreStates : Ledger → List (Ledger × List Cell) → Type 0
AreStates s [] = Unit {0}
AreStates s (t ∷ more) = (s.book ≡ t.0.book) × (DifferAtMostIn t.1 s.cells t.0.cells × AreStates t.0 more)

-- the last of the states
abbrev pub last_state : Ledger → List (Ledger × List Cell) → Ledger
last_state s [] = s
last_state s (t ∷ more) = last_state t.0 more

-- digests after an update to each of the states, as `update` promises it of one
abbrev pub AreUpdated : Digests → List (Ledger × List Cell) → Digests → Type 0
AreUpdated d [] e = d ≡ e
AreUpdated d (t ∷ more) e = (next : Digests) × ((AreDigestsBefore t.0 t.1 d → AreDigestsOf t.0 next) × AreUpdated next more e)
