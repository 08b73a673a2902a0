-- The contracts of a book in a row, by address, and where one stands.
use Rattle.std.specs.Prelude.{◌≡◌, ℕ, ◌<◌, ◌≤◌, List, length, map, IsTrue, Option, slice_index_or}
use Rattle.std.specs.Ordering.{nat_cmp}
use Rattle.std.specs.Cmp.Lexicographic.{slice_cmp}
use Rattle.std.specs.FinMap.{from_sorted, is_sorted}
use Rattle.value_core.specs.declared.ty.Ty.{Ty}
use Rattle.value_core.specs.declared.ty.Ty.TheVariants as type
use Rattle.michelson_code.specs.declared.script.Script.{Script}
use Rattle.michelson_code.specs.declared.typed.Typed.{Typed}
use Rattle.code_book.specs.Books.{Contracts, IsBook}
use Rattle.code_book.specs.Successors.{IsAbove}

-- contracts with their addresses
abbrev pub Row : Type 0
Row = List (List ℕ × Typed)

-- the addresses strictly rise
abbrev pub Ascends : Row → Type 0
Ascends row = IsTrue (is_sorted (slice_cmp nat_cmp) row)

-- an address with its script
abbrev pub script_entry : List ℕ × Typed → List ℕ × Script
script_entry e = (e.0, e.1.script)

-- the book that a row is
abbrev pub book_of : Row → Contracts
book_of row = from_sorted (map script_entry row)

-- what the row of a book keeps, and the unit type beside it
pub record IsRow (row : Row) (unit : Ty) : Type 0 where
  pub ascend : Ascends row
  pub book : IsBook (book_of row)
  pub takes_unit : unit ≡ type.Unit

-- the addresses from place i on are those above the given one
pub record IsCut (row : Row) (given : Option (List ℕ)) (i : ℕ) : Type 0 where
  pub below : (k : ℕ) (d : List ℕ × Typed) → k < i → k < length row → ¬ IsAbove given (slice_index_or row k d).0
  pub above : (k : ℕ) (d : List ℕ × Typed) → i ≤ k → k < length row → IsAbove given (slice_index_or row k d).0
