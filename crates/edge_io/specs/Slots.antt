-- The slots in which files in memory stand, as a list, and the maps that they are.
use Rattle.std.specs.Prelude.{◌≡◌, ℕ, zero, suc, true, false, cond, if◌then◌else◌, List, [], ◌∷◌, Option, Some, None}
use Rattle.std.specs.Str.{bytes_eq}
use Rattle.std.specs.FinMap as map
use Rattle.edge_io.specs.Outside.{Held}
use Rattle.edge_io.specs.Shelf.{Marks, Marked}

-- a name with its file, where there is one, and its marks
pub record SlotView : Type 0 where
  pub name : List ℕ
  pub file : Option (List ℕ)
  pub marks : Marks

-- the first slot of a name
abbrev pub slot_at : List SlotView → List ℕ → Option SlotView
slot_at [] q = None
slot_at (s ∷ ss) q = if bytes_eq q s.name then Some s else slot_at ss q

-- one file more, or one name without a file
abbrev pub with_file : Held → List ℕ → Option (List ℕ) → Held
with_file held name (Some bytes) = map.insert held name bytes
with_file held name None = map.remove held name

-- the files of all slots
abbrev pub held_of : List SlotView → Held
held_of [] = map.empty
held_of (s ∷ ss) = with_file (held_of ss) s.name s.file

-- the marks of all slots
abbrev pub marked_of : List SlotView → Marked
marked_of [] = map.empty
marked_of (s ∷ ss) = map.insert (marked_of ss) s.name s.marks

-- the first slot of the name stands at that place
abbrev pub IsPlaceOf : List SlotView → List ℕ → ℕ → Type 0
IsPlaceOf [] name i = ⊥
IsPlaceOf (s ∷ ss) name zero = bytes_eq name s.name ≡ true
IsPlaceOf (s ∷ ss) name (suc i) = (bytes_eq name s.name ≡ false) × IsPlaceOf ss name i

-- of the name another entry stands in the slots, and of all others what stood there
pub record Puts (old : List SlotView) (name : List ℕ) (e : SlotView) (new : List SlotView) : Type 0 where
  pub found : (q : List ℕ) → slot_at new q ≡ cond (bytes_eq q name) (Some e) (slot_at old q)
