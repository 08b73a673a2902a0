-- The first cell of what is left of a walk.
use Rattle.std.proofs.Common.{◌≡◌, List, [], ◌∷◌, Option, refl, sym, subst}
use Rattle.std.specs.Prelude.{MatchOption, slice_get}
use Rattle.cell_blocks.specs.Blocks.{Held}

-- the first of a list, or that it has none
abbrev pub IsFirst : List Held → Option Held → Type 0
IsFirst all first = MatchOption first (all ≡ []) (λ row. (rest : List Held) × (all ≡ (row.0, row.1) ∷ rest))

first_of : (all : List Held) → IsFirst all (slice_get all 0)
first_of [] = refl
first_of (e ∷ es) = (es, refl)

pub first_is : (r : Option Held) (all now : List Held) → r ≡ slice_get all 0 → all ≡ now → IsFirst now r
first_is r all now read same = subst (λ (l : List Held). IsFirst l r) same (subst (λ (o : Option Held). IsFirst all o) (sym read) (first_of all))
