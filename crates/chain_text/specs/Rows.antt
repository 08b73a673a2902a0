-- What functions inside promise of the rows of cells, in the order of the lines, and of the state that is built of them.
use Rattle.std.specs.Prelude.{◌≡◌, ℕ, ◌<◌, ◌^◌, true, false, List, [], ◌∷◌, None, Ok}
use Rattle.std.specs.FinMap.{contains_key, empty, get, insert}
use Rattle.std.specs.FinSet as set
use Rattle.std.specs.List.{AllByRecursion}
use Rattle.value_core.specs.declared.val.Val.{Val}
use Rattle.cell_names.specs.declared.cell.Cell.{Cell}
use Rattle.cell_names.specs.declared.cell.Cell.TheVariants.{Balance, Storage, Entry}
use Rattle.cell_names.specs.Contents.{Contents}
use Rattle.cell_names.specs.Supply.{supply}
use Rattle.code_book.specs.Books.{Contracts}
use Rattle.code_book.specs.Fits.{fits}
use Rattle.data_nodes.specs.Storage.{Entry as MapEntry, entries_ascend}
use Rattle.ledger_state.specs.Building.{added}
use Rattle.ledger_state.specs.declared.fault.BuildFault.{BuildFault}
use Rattle.ledger_state.specs.declared.fault.BuildFault.TheVariants as faults
use Rattle.chain_text.specs.declared.fault.ChainKind.TheVariants.{NoStorage}
use Rattle.chain_text.specs.declared.fault.ChainRefusal.{ChainRefusal}
use Rattle.chain_text.specs.declared.fault.ChainRefusal.TheVariants as refusals
use Rattle.chain_text.specs.Standing.{Addresses}
use Rattle.chain_text.specs.Reading.{line_at}

-- a cell with its value
abbrev pub Row : Type 0
Row = Cell × Val

-- the cells with these rows, one after another
abbrev pub gathered : Contents → List Row → Contents
gathered cells [] = cells
gathered cells ((c, v) ∷ rows) = gathered (insert cells c v) rows

-- a line of the cell's contract or account stood
abbrev pub IsSeen : Addresses → Addresses → Cell → Type 0
IsSeen balanced stored (Balance a) = set.contains balanced a ≡ true
IsSeen balanced stored (Storage a) = set.contains stored a ≡ true
IsSeen balanced stored (Entry a place key) = set.contains stored a ≡ true

-- what the rows of lawful lines keep: they make these cells, there is no reason against a row, and what is counted beside them is so
pub record AreRows (book : Contracts) (rows : List Row) (cells : Contents) (balanced stored : Addresses) (amount : ℕ) : Type 0 where
  pub added : added book 0 empty rows ≡ Ok cells
  pub money : supply cells ≡ amount
  pub within : amount < 2 ^ 63
  pub balances : (a : List ℕ) → set.contains balanced a ≡ false → contains_key cells (Balance a) ≡ false
  pub storages : (a : List ℕ) → set.contains stored a ≡ false → contains_key cells (Storage a) ≡ false
  pub entries : (a : List ℕ) (place : ℕ) (key : Val) → set.contains stored a ≡ false → contains_key cells (Entry a place key) ≡ false

-- these entries of a contract's big maps ascend, each fits its cell, and none of the cells is there
pub record AreFree (book : Contracts) (cells : Contents) (a : List ℕ) (entries : List MapEntry) : Type 0 where
  pub ascending : entries_ascend entries ≡ true
  pub fit : AllByRecursion (λ e. fits book (Entry a e.0 e.1) e.2 ≡ true) entries
  pub free : AllByRecursion (λ e. get cells (Entry a e.0 e.1) ≡ None) entries

-- a reason against the rows as a whole, and not against one of them
abbrev pub IsOfWhole : BuildFault → Type 0
IsOfWhole faults.NoMemory = Unit {0}
IsOfWhole (faults.NoStorage a) = Unit {0}
IsOfWhole _ = ⊥

-- such a reason, told of the text
abbrev pub refusal_of : List (List ℕ × ℕ) → BuildFault → ChainRefusal
refusal_of lines (faults.NoStorage a) = refusals.Fault (record { line = line_at a lines; kind = NoStorage })
refusal_of lines _ = refusals.NoMemory
