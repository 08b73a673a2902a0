-- Stacks of numbers, and what letters stand for once all are known.
use Rattle.std.specs.Prelude.{◌≡◌, ℕ, IsTrue, List, [], ◌∷◌}
use Rattle.value_core.specs.declared.ty.Ty.{Ty}
use Rattle.michelson_code.specs.declared.operands.Level.{Level}
use Rattle.michelson_code.specs.Typing.{Choice, level_type}
use Rattle.michelson_typer.specs.declared.results.Chosen.{Chosen}
use Rattle.michelson_typer.specs.Matching.{written_types}
use Rattle.michelson_typer.specs.Tables.{are_in, parts_in, type_at, types_at}

-- a stack of numbers, and its types
pub record IsStackOf (table : List Ty) (ids : List ℕ) (types : List Ty) : Type 0 where
  pub within : IsTrue (are_in table ids)
  pub is : types_at table ids ≡ types

-- a level of numbers, and its type
pub record IsLevelFor (table : List Ty) (l : Level ℕ) (t : Ty) : Type 0 where
  pub within : IsTrue (are_in table (parts_in l))
  pub is : level_type (type_at table) l ≡ t

-- the numbers that letters stand for
abbrev pub numbers_of : Chosen → List ℕ
numbers_of c = c.a ∷ c.b ∷ c.k ∷ c.written.t ∷ c.written.u ∷ []

-- the types that letters stand for
abbrev pub choice_of : List Ty → Chosen → Choice
choice_of table c = record {
  a = type_at table c.a;
  b = type_at table c.b;
  k = type_at table c.k;
  written = written_types table c.written;
}
