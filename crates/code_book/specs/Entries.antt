-- The entries that may be called, by the account's address.
use Rattle.std.specs.Prelude.{ℕ, List, codes, if◌then◌else◌, Option, Some, None, Result, Ok, Err}
use Rattle.std.specs.FinMap.{get}
use Rattle.std.specs.Str.{bytes_eq}
use Rattle.value_core.specs.declared.ty.Ty.{Ty}
use Rattle.value_core.specs.declared.ty.Ty.TheVariants as type
use Rattle.michelson_code.specs.declared.script.Script.{Script}
use Rattle.michelson_code.specs.Entries.{entry_type}
use Rattle.cell_names.specs.Accounts.{is_implicit}
use Rattle.code_book.specs.declared.fault.NoEntry.{NoEntry}
use Rattle.code_book.specs.declared.fault.NoEntry.TheVariants.{NoSuchContract, NoSuchEntry}
use Rattle.code_book.specs.Books.{Contracts}

-- the type of an entry, if there is one
abbrev pub found : Option Ty → Result Ty NoEntry
found None = Err NoSuchEntry
found (Some t) = Ok t

-- an implicit account has the entry `default`, which takes the unit
abbrev pub implicit_entry : List ℕ → Option Ty
implicit_entry name = if bytes_eq name (codes "default") then Some type.Unit else None

-- the entry of a contract, if there is one
abbrev pub contract_entry : Option Script → List ℕ → Result Ty NoEntry
contract_entry None name = Err NoSuchContract
contract_entry (Some s) name = found (entry_type s name)

-- what the entry of this name takes
abbrev pub entry_of : Contracts → List ℕ → List ℕ → Result Ty NoEntry
entry_of book address name = if is_implicit address then found (implicit_entry name) else contract_entry (get book address) name
