-- Pairs to the right, taken apart into so many.
use Rattle.std.specs.Prelude.{◌≡◌, ℕ, List, [], ◌∷◌, ◌++◌, length, suc}
use Rattle.value_core.specs.declared.ty.Ty.{Ty}
use Rattle.michelson_code.specs.Typing.{comb_type}
use Rattle.michelson_typer.specs.Stacks.{IsStackOf}
use Rattle.michelson_typer.specs.Tables.{types_at}

-- the type is so many types in pairs to the right
pub record IsComb (t : Ty) (n : ℕ) : Type 0 where
  pub items : List Ty
  pub last : Ty
  pub count : suc (length items) ≡ n
  pub is : t ≡ comb_type items last

-- these numbers have its types
pub record HasItems (table : List Ty) (t : Ty) (n : ℕ) (ids : List ℕ) : Type 0 where
  pub comb : IsComb t n
  pub numbers : IsStackOf table ids (comb.items ++ comb.last ∷ [])

-- the top of the stack is so many types in pairs to the right
pub record StartsWithComb (table : List Ty) (stack : List ℕ) (n : ℕ) : Type 0 where
  pub items : List Ty
  pub last : Ty
  pub below : List Ty
  pub count : suc (length items) ≡ n
  pub stands : types_at table stack ≡ comb_type items last ∷ below

-- these numbers have its types, and those below
pub record IsUnpaired (table : List Ty) (stack : List ℕ) (n : ℕ) (made : List ℕ) : Type 0 where
  pub comb : StartsWithComb table stack n
  pub numbers : IsStackOf table made (comb.items ++ comb.last ∷ comb.below)
