-- When a book is a store's.
use Rattle.std.specs.Prelude.{◌≡◌, ℕ, ◌+◌, ◌<◌, ◌^◌, true, List, Some, IsSome}
use Rattle.std.specs.FinMap.{get, contains_key}
use Rattle.value_core.specs.declared.val.Val.{Val}
use Rattle.cell_names.specs.declared.cell.Cell.{Cell}
use Rattle.cell_names.specs.declared.cell.Cell.TheVariants.{Storage}
use Rattle.cell_names.specs.declared.mode.Mode.TheVariants.{Read}
use Rattle.cell_names.specs.declared.access.Access.{Access}
use Rattle.cell_names.specs.Contents.{IsTidy}
use Rattle.cell_names.specs.Supply.{supply}
use Rattle.cell_names.specs.Conditions.{Seen, IsLentIn}
use Rattle.code_book.specs.Books.{Contracts}
use Rattle.code_book.specs.Fits.{fits, fits_access}

-- the book is the store's
pub record IsBookOf (book : Contracts) (seen : Seen) : Type 0 where
  -- each access that is fit for the book is fit for the store
  pub fit : (a : Access) → fits_access book a ≡ true → seen.fits a ≡ true
  -- each value that the store holds fits the book
  pub values : (c : Cell) (v : Val) → get seen.cells c ≡ Some v → fits book c v ≡ true
  -- each storage of a contract of the book that the store lends in mode Read is there
  pub storages : (address : List ℕ) → contains_key book address ≡ true → IsLentIn (seen.lent (Storage address)) Read → IsSome (get seen.cells (Storage address))
  -- no balance of 0 stands, and all money, with what is in flight, stays below 2^63
  pub tidy : IsTidy seen.cells
  pub money : supply seen.cells + seen.flight < 2 ^ 63
