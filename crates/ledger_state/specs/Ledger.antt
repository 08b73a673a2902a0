-- States: a head, a book, and what stands in cells.
use Rattle.std.specs.Prelude.{◌≡◌, ℕ, ◌<◌, ◌^◌, true, List, Some}
use Rattle.std.specs.FinMap.{get, contains_key}
use Rattle.value_core.specs.declared.val.Val.{Val}
use Rattle.cell_names.specs.declared.cell.Cell.{Cell}
use Rattle.cell_names.specs.declared.cell.Cell.TheVariants.{Storage}
use Rattle.cell_names.specs.Contents.{Contents, IsTidy}
use Rattle.cell_names.specs.Supply.{supply}
use Rattle.code_book.specs.Books.{Contracts, IsBook}
use Rattle.code_book.specs.Fits.{fits}

-- a state, as contracts see it
pub record Ledger : Type 0 where
  pub level : ℕ
  pub now : ℕ
  pub book : Contracts
  pub cells : Contents

-- what stands in the cells of a state by its book
pub record AreCells (book : Contracts) (cells : Contents) : Type 0 where
  -- each value fits its cell by the book
  pub values : (c : Cell) (v : Val) → get cells c ≡ Some v → fits book c v ≡ true
  -- each contract has its storage
  pub storages : (address : List ℕ) → contains_key book address ≡ true → contains_key cells (Storage address) ≡ true
  -- no balance of 0 stands, and the supply is below 2^63
  pub tidy : IsTidy cells
  pub supply : supply cells < 2 ^ 63

-- what every state keeps
pub record IsLedger (s : Ledger) : Type 0 where
  pub level : s.level < 2 ^ 32
  pub now : s.now < 2 ^ 64
  pub book : IsBook s.book
  pub cells : AreCells s.book s.cells
