-- Tables of types: levels, each of which names its parts by the numbers of those before it.
use Rattle.std.specs.Prelude.{◌≡◌, ℕ, ◌+◌, ◌<◌, Bool, true, ◌&&◌, List, [], ◌∷◌, ◌++◌, length, get_or, map, nat_lt, Option, None, Some}
use Rattle.std.specs.List.{list_all}
use Rattle.value_core.specs.declared.ty.Ty.{Ty}
use Rattle.value_core.specs.declared.ty.Ty.TheVariants as type
use Rattle.michelson_code.specs.declared.operands.Level.{Level}
use Rattle.michelson_code.specs.declared.operands.Level.TheVariants as level
use Rattle.michelson_code.specs.Typing.{level_type}

-- ---- levels

-- the parts of a level
abbrev pub parts_in : {P : Type 0} → Level P → List P
parts_in (level.Option p) = p ∷ []
parts_in (level.Or p q) = p ∷ q ∷ []
parts_in (level.Pair p q) = p ∷ q ∷ []
parts_in (level.List p) = p ∷ []
parts_in (level.Set p) = p ∷ []
parts_in (level.Map p q) = p ∷ q ∷ []
parts_in (level.BigMap p q) = p ∷ q ∷ []
parts_in (level.Contract p) = p ∷ []
parts_in _ = []

-- each number is below another
abbrev pub are_below : ℕ → List ℕ → Bool
are_below n ids = list_all (λ id. nat_lt id n) ids

-- ---- types by their numbers

-- the type of a number
abbrev pub type_at : List Ty → ℕ → Ty
type_at table id = get_or table id type.Unit

-- the types of a stack
abbrev pub types_at : List Ty → List ℕ → List Ty
types_at table ids = map (type_at table) ids

-- each number has a type
abbrev pub are_in : List Ty → List ℕ → Bool
are_in table ids = are_below (length table) ids

-- no type stands twice
abbrev pub IsDistinct : List Ty → Type 0
IsDistinct table = (i j : ℕ) → i < length table → j < length table → type_at table i ≡ type_at table j → i ≡ j

-- more types stand behind those of before
pub record Grows (old new : List Ty) : Type 0 where
  pub more : List Ty
  pub is : new ≡ old ++ more

-- ---- tables by their levels

-- the types that levels make, behind those that are made already
abbrev pub types_from : List Ty → List (Level ℕ) → List Ty
types_from made [] = made
types_from made (l ∷ ls) = types_from (made ++ level_type (type_at made) l ∷ []) ls

-- the parts of each level stand before it
abbrev pub have_parts : ℕ → List (Level ℕ) → Bool
have_parts n [] = true
have_parts n (l ∷ ls) = are_below n (parts_in l) && have_parts (n + 1) ls

-- a number and its type
pub record IsTypeOf (table : List Ty) (id : ℕ) (t : Ty) : Type 0 where
  pub within : id < length table
  pub is : type_at table id ≡ t

-- one of the types has such a level, or none
abbrev pub IsRow : List Ty → Level ℕ → Option ℕ → Type 0
IsRow table l None = (id : ℕ) → id < length table → type_at table id ≡ level_type (type_at table) l → ⊥
IsRow table l (Some id) = IsTypeOf table id (level_type (type_at table) l)
