-- Rows: a level of a type, and what is asked of the type as a whole.
use Rattle.std.specs.Prelude.{◌≡◌, IsTrue, List, map}
use Rattle.value_core.specs.declared.ty.Ty.{Ty}
use Rattle.michelson_code.specs.declared.operands.Level.{Level}
use Rattle.michelson_typer.specs.declared.extent.Extent.{Extent}
use Rattle.michelson_typer.specs.Extents.{extent_of}
use Rattle.michelson_typer.specs.Tables.{IsDistinct, have_parts, types_from}
use Rattle.std.specs.Prelude.{ℕ, []}

-- the levels of rows
abbrev pub levels_of : List (Level ℕ × Extent) → List (Level ℕ)
levels_of rows = map (λ e. e.0) rows

-- the types of rows
abbrev pub table_of : List (Level ℕ × Extent) → List Ty
table_of rows = types_from [] (levels_of rows)

-- each part stands before, each extent is that of the type, and no type stands twice
pub record AreRows (rows : List (Level ℕ × Extent)) : Type 0 where
  pub parts : IsTrue (have_parts 0 (levels_of rows))
  pub extents : map (λ e. e.1) rows ≡ map extent_of (table_of rows)
  pub distinct : IsDistinct (table_of rows)
