-- What a contract sees of the ledger while its code runs.
use Rattle.std.specs.Prelude.{ℕ, ◌==◌, ◌&&◌, Bool, false, List, [], ◌∷◌, Result, Ok, Err, if◌then◌else◌}
use Rattle.std.specs.FinMap.{FinMap, entries, from_sorted}
use Rattle.std.specs.Str.{bytes_eq}
use Rattle.value_core.specs.declared.val.Val.{Val}
use Rattle.value_core.specs.declared.ty.Ty.{Ty}
use Rattle.value_core.specs.Order.{order}
use Rattle.michelson_rules.specs.World.{World}
use Rattle.cell_names.specs.declared.cell.Cell.{Cell}
use Rattle.cell_names.specs.declared.cell.Cell.TheVariants.{Balance, Storage, Entry}
use Rattle.cell_names.specs.Contents.{Contents, balance}
use Rattle.code_book.specs.declared.fault.NoEntry.{NoEntry}
use Rattle.code_book.specs.Books.{Contracts}
use Rattle.code_book.specs.Entries.{entry_of}
use Rattle.op_rules.specs.SameType.{is_same_type}

-- a cell's key and value before others, where it is an entry of the contract's big map at the place
abbrev pub entry_before : List ℕ → ℕ → Cell → Val → List (Val × Val) → List (Val × Val)
entry_before self place (Balance address) v more = more
entry_before self place (Storage address) v more = more
entry_before self place (Entry address p key) v more = if bytes_eq address self && p == place then (key, v) ∷ more else more

-- the entries of a big map among all cells
abbrev pub entries_at : List ℕ → ℕ → List (Cell × Val) → List (Val × Val)
entries_at self place [] = []
entries_at self place (e ∷ more) = entry_before self place e.0 e.1 (entries_at self place more)

-- the big map of a contract at a place
abbrev pub map_at : Contents → List ℕ → ℕ → FinMap order Val
map_at m self place = from_sorted (entries_at self place (entries m))

-- whether what was found is an entry of this type
abbrev pub is_of_type : Ty → Result Ty NoEntry → Bool
is_of_type t (Ok found) = is_same_type found t
is_of_type t (Err missing) = false

-- the big maps and the balance of the contract, and which entries stand with which types
abbrev pub world_of : Contracts → Contents → List ℕ → World
world_of book m self = record {
  map_at = map_at m self;
  balance = balance m self;
  stands = λ address name t. is_of_type t (entry_of book address name);
}
