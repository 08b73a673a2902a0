-- What is declared above, and what is bound around.
use Rattle.std.specs.Prelude.{Bool, List, Option, [], codes, false, is_some, true, ℕ, ◌||◌, ◌∷◌}
use Rattle.ligo_typer.specs.declared.builtin.Builtin.{Builtin}
use Rattle.ligo_typer.specs.declared.builtin.Builtin.TheVariants as builtin
use Rattle.ligo_typer.specs.declared.source_type.SrcTy.{SrcTy}
use Rattle.ligo_typer.specs.declared.source_type.SrcTy.TheVariants as type
use Rattle.ligo_typer.specs.Names.{Named, first_of, look}

-- ---- types

-- the types that the language declares
abbrev pub built_in_types : Named SrcTy
built_in_types =
    (codes "int", type.Int) ∷ (codes "nat", type.Nat) ∷ (codes "tez", type.Tez) ∷ (codes "string", type.Text)
    ∷ (codes "bytes", type.Bytes) ∷ (codes "bool", type.Bool) ∷ (codes "unit", type.Unit) ∷ (codes "address", type.Addr)
    ∷ (codes "timestamp", type.Time) ∷ (codes "operation", type.Operation) ∷ []

-- ---- values

-- what a name of a value stands for
pub data Meaning : Type 0 where
  -- a bound value of the type
  Local : SrcTy → Meaning
  -- the constant of that number, of the type
  Constant : ℕ → SrcTy → Meaning
  -- the function of that number, the types of its params, and that of its result
  Function : ℕ → List SrcTy → SrcTy → Meaning
  -- the recursive function around
  Itself : List SrcTy → SrcTy → Meaning
  -- `true` or `false`
  Truth : Bool → Meaning
  -- a function of the language
  Predefined : Builtin → Meaning

abbrev pub Scope : Type 0
Scope = Named Meaning

-- the values that the language declares
abbrev pub built_in_values : Scope
built_in_values =
    (codes "true", Truth true) ∷ (codes "false", Truth false) ∷ (codes "not", Predefined builtin.Not)
    ∷ (codes "int", Predefined builtin.Int) ∷ (codes "abs", Predefined builtin.Abs)
    ∷ (codes "is_nat", Predefined builtin.IsNat) ∷ (codes "failwith", Predefined builtin.Failwith) ∷ []

-- what a name of a value stands for
abbrev pub meaning_of : Scope → List ℕ → Option Meaning
meaning_of scope word = first_of (look word scope) (look word built_in_values)

-- ---- what is declared above a declaration, each the latest first
pub record Known : Type 0 where
  -- the types by their names
  pub types : Named SrcTy
  -- the types that are declared by their fields or cases
  pub shapes : List SrcTy
  -- the values by their names
  pub values : Scope

-- what a name of a type stands for
abbrev pub type_named : Known → List ℕ → Option SrcTy
type_named known word = first_of (look word known.types) (look word built_in_types)

-- a type or a value of the name is declared
abbrev pub is_declared : Known → List ℕ → Bool
is_declared known word = is_some (look word known.types) || is_some (look word known.values)
