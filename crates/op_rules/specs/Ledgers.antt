-- The cells of a ledger by its book, and accesses that may be made on them.
use Rattle.std.specs.Prelude.{◌≡◌, ℕ, true, List, [], ◌∷◌}
use Rattle.std.specs.FinMap.{contains_key}
use Rattle.cell_names.specs.declared.access.Access.{Access}
use Rattle.cell_names.specs.declared.cell.Cell.TheVariants.{Storage}
use Rattle.cell_names.specs.Conditions.{IsCovered}
use Rattle.cell_names.specs.Contents.{Contents}
use Rattle.code_book.specs.Books.{Contracts}
use Rattle.code_book.specs.Fits.{fits_access}
use Rattle.op_rules.specs.Course.{Applied, End, Failed, Past, Serial}
use Rattle.op_rules.specs.Replies.{AreLawful, flight_by, flight_of}

-- each value fits the book, no balance of 0 stands, all money is below 2^63, nothing is in flight, and each contract has its storage
pub record AreLedgerCells (book : Contracts) (m : Contents) : Type 0 where
  pub lawful : AreLawful book m 0
  pub storages : (address : List ℕ) → contains_key book address ≡ true → contains_key m (Storage address) ≡ true

-- ---- accesses

-- an access fits the book, and a credit is at most what is in flight
pub record IsFit (book : Contracts) (f : ℕ) (a : Access) : Type 0 where
  pub fits : fits_access book a ≡ true
  pub covered : IsCovered f a

-- each of the accesses is fit with what is in flight when it is made
abbrev pub AreFitFrom : Contracts → ℕ → Past → Type 0
AreFitFrom book f [] = Unit {0}
AreFitFrom book f (e ∷ past) = IsFit book f e.0 × AreFitFrom book (flight_by e.0 e.1 f) past

-- what is applied leaves nothing in flight
abbrev pub IsSettled : End → Past → Type 0
IsSettled (Applied m) past = flight_of past ≡ 0
IsSettled (Failed y) past = Unit {0}

-- all accesses of an operation are fit, and it leaves nothing in flight where it is applied
pub record MakesFit (book : Contracts) (s : Serial) : Type 0 where
  pub accesses : AreFitFrom book 0 s.course.past
  pub settled : IsSettled s.end s.course.past
