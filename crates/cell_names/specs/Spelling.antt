-- The bytes of cells and footprints.
use Rattle.std.specs.Prelude.{ℕ, ◌<◌, ◌≤◌, List, [], ◌∷◌, ◌++◌, length, IsTrue}
use Rattle.std.specs.Int.{w8, w32, to_be_bytes}
use Rattle.std.specs.List.{flat_map, AllByRecursion}
use Rattle.value_core.specs.declared.val.Val.{Val}
use Rattle.value_core.specs.Lawful.{is_lawful_address}
use Rattle.value_core.specs.Sound.{is_plain}
use Rattle.value_core.specs.Depth.{depth_of}
use Rattle.value_codec.specs.declared.tag.TheConstants.{KEY_VALUE}
use Rattle.value_codec.specs.Spelling.{spell, has_tags, IsSpelt}
use Rattle.cell_names.specs.declared.cell.Cell.{Cell}
use Rattle.cell_names.specs.declared.cell.Cell.TheVariants.{Balance, Storage, Entry}
use Rattle.cell_names.specs.declared.footprint.TheConstants.{MOST_CELLS}
use Rattle.cell_names.specs.declared.mode.Mode.{Mode}
use Rattle.cell_names.specs.declared.mode.Mode.TheVariants.{Read, Credit, Own}
use Rattle.cell_names.specs.Footprints.{ascends}

-- ---- the spelling

-- the kind, then the address; of an entry also the place and the key
abbrev pub spell_cell : Cell → List ℕ
spell_cell (Balance address) = 0 ∷ address
spell_cell (Storage address) = 1 ∷ address
spell_cell (Entry address place key) = 2 ∷ (address ++ (to_be_bytes w8 place ++ spell key))

-- one byte
abbrev pub spell_mode : Mode → List ℕ
spell_mode Read = 0 ∷ []
spell_mode Credit = 1 ∷ []
spell_mode Own = 2 ∷ []

-- the cell, then the mode
abbrev pub spell_touch : Cell × Mode → List ℕ
spell_touch t = spell_cell t.0 ++ spell_mode t.1

-- the number of cells, then each with its mode
abbrev pub spell_footprint : List (Cell × Mode) → List ℕ
spell_footprint f = to_be_bytes w32 (length f) ++ flat_map spell_touch f

-- ---- which have one

-- an address is 22 bytes, the first 0 or 1; a place is below 16, and a key has no list, set, map or big map
abbrev pub IsCell : Cell → Type 0
IsCell (Balance address) = IsTrue (is_lawful_address address)
IsCell (Storage address) = IsTrue (is_lawful_address address)
IsCell (Entry address place key) =
    IsTrue (is_lawful_address address) × ((place < 16) × IsSpelt KEY_VALUE 128 key)

-- cells that ascend
pub record AreTouches (f : List (Cell × Mode)) : Type 0 where
  pub ascending : IsTrue (ascends f)
  pub cells : AllByRecursion (λ t. IsCell t.0) f

-- no more of them than one operation may touch
pub record IsFootprint (f : List (Cell × Mode)) : Type 0 where
  pub few : length f ≤ MOST_CELLS
  pub touches : AreTouches f

-- ---- the condition of the writers

-- a place of a storage, and a plain key, at most 128 deep and without lists, sets, maps and big maps
pub record IsNamed (place : ℕ) (key : Val) : Type 0 where
  pub within : place < 16
  pub plain : IsTrue (is_plain key)
  pub tags : IsTrue (has_tags KEY_VALUE key)
  pub deep : depth_of key ≤ 128

-- a cell that can be written as bytes, where its address is one
abbrev pub CanBeSpelt : Cell → Type 0
CanBeSpelt (Balance address) = Unit {0}
CanBeSpelt (Storage address) = Unit {0}
CanBeSpelt (Entry address place key) = IsNamed place key
