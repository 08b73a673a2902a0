-- Shelves that are made of the cells that are left, while these go into their buckets.
use Rattle.std.specs.Prelude.{◌≡◌, ℕ, Bool, true, false, List, [], ◌∷◌, ◌++◌, map, Option, Some, None, IsTrue}
use Rattle.std.specs.List.{list_all}
use Rattle.std.specs.FinMap.{is_sorted}
use Rattle.value_core.specs.declared.val.Val.{Val}
use Rattle.cell_names.specs.declared.cell.Cell.{Cell}
use Rattle.cell_names.specs.Cells.{cell_cmp}
use Rattle.state_digest.specs.declared.buckets.Bucket.{Bucket}
use Rattle.state_digest.specs.declared.shelves.Shelf.{Shelf}
use Rattle.state_digest.specs.Bounds.{is_under, starts_under}
use Rattle.state_digest.specs.Digest.{bucket_of}
use Rattle.state_digest.specs.Digests.{AreShelved, IsShelfOf}
use Rattle.state_digest.specs.Texts.{HoldTexts}
use Rattle.state_digest.specs.Touched.{rises, untouched}

-- a cell with its value
abbrev pub Held : Type 0
Held = Cell × Val

-- the buckets of cells
abbrev pub numbers_of : List Held → List ℕ
numbers_of run = map (λ e. bucket_of e.0) run

-- the first cell of the next shelf
abbrev pub bound_of : List Shelf → Option Cell
bound_of [] = None
bound_of (shelf ∷ others) = Some shelf.first

-- all of these cells stand under the bound
abbrev pub all_under : Option Cell → List Held → Bool
all_under bound run = list_all (λ e. is_under bound e.0) run

-- a run of cells went by, each into its bucket
pub record WentBy (run old new : List Held) (before after : List Bucket) : Type 0 where
  pub cut : old ≡ run ++ new
  pub texts : (marks : ℕ → Bool) (passed : List Held) → HoldTexts marks passed before → HoldTexts marks (passed ++ run) after

-- the same of cells under the bound, whose numbers stand behind the others
pub record AreNumbered (bound : Option Cell) (old new : List Held) (before after : List Bucket) (front all : List ℕ) : Type 0 where
  pub run : List Held
  pub went : WentBy run old new before after
  pub under : all_under bound run ≡ true
  pub numbers : all ≡ front ++ numbers_of run

-- the same of cells under the bound, for which there is a shelf
pub record AreOnShelf (bound : Option Cell) (old new : List Held) (before after : List Bucket) (made : Shelf) : Type 0 where
  pub run : List Held
  pub went : WentBy run old new before after
  pub under : all_under bound run ≡ true
  pub shelf : IsShelfOf run made

-- no cell went by, and none is left under the bound
pub record IsAtEnd (bound : Option Cell) (old new : List Held) (before after : List Bucket) : Type 0 where
  pub stop : starts_under bound old ≡ false
  pub rows : new ≡ old
  pub buckets : after ≡ before

-- all cells under the bound went by, and there are shelves for them behind the others
pub record AreOnShelves (bound : Option Cell) (old new : List Held) (before after : List Bucket) (shelves all : List Shelf) : Type 0 where
  pub run : List Held
  pub went : WentBy run old new before after
  pub under : all_under bound run ≡ true
  pub stop : starts_under bound new ≡ false
  pub shelved : (passed : List Held) → AreShelved passed shelves → AreShelved (passed ++ run) all

-- shelves of cells that are those that are left, but for touched ones
pub record MayBeRenewed (shelves : List Shelf) (touched : List Cell) (rows : List Held) : Type 0 where
  pub cells : List Held
  pub shelved : AreShelved cells shelves
  pub sorted : IsTrue (is_sorted cell_cmp cells)
  pub ascending : IsTrue (is_sorted cell_cmp rows)
  pub rising : IsTrue (rises touched)
  pub alike : untouched touched cells ≡ untouched touched rows

-- there are shelves for all of these cells, which are in their buckets
pub record AreRenewed (cells : List Held) (shelves : List Shelf) (before after : List Bucket) : Type 0 where
  pub shelved : AreShelved cells shelves
  pub texts : (marks : ℕ → Bool) → HoldTexts marks [] before → HoldTexts marks cells after
