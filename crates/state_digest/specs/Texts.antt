-- The cells that are left of a walk, and the texts of buckets while cells go by.
use Rattle.std.specs.Prelude.{◌≡◌, ℕ, ◌<◌, ◌≤◌, Bool, true, false, if◌then◌else◌, List, [], ◌∷◌, length, Option, Some, None, IsTrue, slice_index_or}
use Rattle.std.specs.List.{AllByRecursion}
use Rattle.sha2.specs.Sha256.{sha256}
use Rattle.value_core.specs.declared.val.Val.{Val}
use Rattle.value_core.specs.Depth.{depth_of}
use Rattle.value_core.specs.Sound.{is_plain}
use Rattle.cell_names.specs.declared.cell.Cell.{Cell}
use Rattle.cell_names.specs.Spelling.{CanBeSpelt}
use Rattle.state_digest.specs.declared.buckets.Bucket.{Bucket}
use Rattle.state_digest.specs.Digest.{text_of}

-- ---- a walk

-- a cell whose name and value have spellings
pub record IsWritable (e : Cell × Val) : Type 0 where
  pub cell : CanBeSpelt e.0
  pub plain : IsTrue (is_plain e.1)
  pub deep : depth_of e.1 ≤ 128

-- all of them have
abbrev pub AreWritable : List (Cell × Val) → Type 0
AreWritable cells = AllByRecursion IsWritable cells

-- the next cell, and those behind it
abbrev pub rows_left : Option (Cell × Val) → List (Cell × Val) → List (Cell × Val)
rows_left None rest = []
rows_left (Some e) rest = (e.0, e.1) ∷ rest

-- ---- texts

-- a text, where its bucket is marked
abbrev pub kept : Bool → List ℕ → List ℕ
kept false text = []
kept true text = text

-- a bucket as it is marked, with its text
pub record HoldsText (marked : Bool) (text : List ℕ) (bucket : Bucket) : Type 0 where
  pub mark : bucket.marked ≡ marked
  pub holds : bucket.text.items ≡ kept marked text

-- all buckets as they are marked, with their texts of the cells that went by
pub record HoldTexts (marks : ℕ → Bool) (passed : List (Cell × Val)) (buckets : List Bucket) : Type 0 where
  pub count : length buckets ≡ 256
  pub each : (k : ℕ) (d : Bucket) → k < 256 → HoldsText (marks k) (text_of k passed) (slice_index_or buckets k d)

-- the digests of marked buckets are those of these cells, and the others are as before
abbrev pub AreHashed : (ℕ → Bool) → List (Cell × Val) → List (List ℕ) → List (List ℕ) → Type 0
AreHashed marks cells old new = (k : ℕ) (d : List ℕ) → k < 256 → slice_index_or new k d ≡ (if marks k then sha256 (text_of k cells) else slice_index_or old k d)
