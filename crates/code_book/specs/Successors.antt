-- The contract with the least address above a given one.
use Rattle.std.specs.Prelude.{◌≡◌, ◌≢◌, ℕ, true, List, Option, Some, None}
use Rattle.std.specs.declared.cmp.Ordering.TheVariants.{Less}
use Rattle.std.specs.Ordering.{nat_cmp}
use Rattle.std.specs.Cmp.Lexicographic.{slice_cmp}
use Rattle.std.specs.FinMap.{get, contains_key}
use Rattle.michelson_code.specs.declared.script.Script.{Script}
use Rattle.code_book.specs.Books.{Contracts}

-- the address is above the given one, if one is given
abbrev pub IsAbove : Option (List ℕ) → List ℕ → Type 0
IsAbove None address = Unit {0}
IsAbove (Some given) address = slice_cmp nat_cmp given address ≡ Less

-- the contract of the least address above the given one
pub record IsNext (book : Contracts) (given : Option (List ℕ)) (address : List ℕ) (s : Script) : Type 0 where
  pub stands : get book address ≡ Some s
  pub above : IsAbove given address
  pub least : (other : List ℕ) → contains_key book other ≡ true → IsAbove given other → slice_cmp nat_cmp other address ≢ Less

-- no contract's address is above the given one
abbrev pub NoneAbove : Contracts → Option (List ℕ) → Type 0
NoneAbove book given = (other : List ℕ) → contains_key book other ≡ true → ¬ IsAbove given other
