-- Which operations touched a cell, and the first of them that an operation conflicts with unordered.
use Rattle.std.specs.Prelude.{ℕ, suc, List, [], ◌∷◌, ◌++◌, Bool, not, ◌&&◌, nat_le, min, Option, Some, None, if◌then◌else◌}
use Rattle.std.specs.Option.{option_map}
use Rattle.std.specs.Ordering.{eq_by_cmp}
use Rattle.std.specs.BTreeMap.{BTreeMap, get}
use Rattle.std.specs.Global.{Vec}
use Rattle.cell_names.specs.declared.cell.Cell.{Cell}
use Rattle.cell_names.specs.declared.mode.Mode.{Mode}
use Rattle.cell_names.specs.Modes.{conflicts}
use Rattle.cell_names.specs.Cells.{cell_cmp}
use Rattle.cell_names.specs.Footprints.{mode_of}
use Rattle.join_schedule.specs.Sets.{is_marked}

-- one operation's touch of a cell, if it touches it
abbrev pub one_touch : ℕ → Option Mode → List (ℕ × Mode)
one_touch n None = []
one_touch n (Some m) = (n, m) ∷ []

-- the touches of a cell by operations that are numbered from n on, in their order
abbrev pub touchers : ℕ → List (List (Cell × Mode)) → Cell → List (ℕ × Mode)
touchers n [] c = []
touchers n (f ∷ fs) c = one_touch n (mode_of f c) ++ touchers (suc n) fs c

-- the touches that a map of them has at a cell
abbrev pub items_of : Option (Vec (ℕ × Mode)) → List (ℕ × Mode)
items_of None = []
items_of (Some touches) = touches.items

abbrev pub touches_at : BTreeMap Cell (Vec (ℕ × Mode)) → Cell → List (ℕ × Mode)
touches_at map c = items_of (get cell_cmp map c)

-- the touch that is noted at a cell, if it is this one
abbrev pub noted_at : Cell → Cell → ℕ × Mode → List (ℕ × Mode)
noted_at c cell t = if eq_by_cmp cell_cmp cell c then t ∷ [] else []

-- a conflicting touch by an operation that isn't marked
abbrev pub is_apart : List Bool → Mode → ℕ × Mode → Bool
is_apart row m t = conflicts t.1 m && not (is_marked row t.0)

-- the lesser of an operation and of another, if there is one
abbrev pub least_with : ℕ → Option ℕ → Option ℕ
least_with i None = Some i
least_with i (Some k) = Some (min i k)

-- the least operation among these touches that is apart
abbrev pub least_apart : List Bool → Mode → List (ℕ × Mode) → Option ℕ
least_apart row m [] = None
least_apart row m (t ∷ ts) = if is_apart row m t then least_with t.0 (least_apart row m ts) else least_apart row m ts

-- the lesser operation, and of the same operation the first
abbrev pub sooner : Option (ℕ × Cell) → Option (ℕ × Cell) → Option (ℕ × Cell)
sooner None y = y
sooner (Some x) None = Some x
sooner (Some x) (Some y) = if nat_le x.0 y.0 then Some x else Some y

-- the least operation that is apart in one of these cells, and the first such cell
abbrev pub first_apart : List Bool → (Cell → List (ℕ × Mode)) → List (Cell × Mode) → Option (ℕ × Cell)
first_apart row touched [] = None
first_apart row touched (t ∷ ts) = sooner (option_map (λ i. (i, t.0)) (least_apart row t.1 (touched t.0))) (first_apart row touched ts)
