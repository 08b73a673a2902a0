-- Whether each contract has its storage.
use Rattle.std.specs.Prelude.{ℕ, if◌then◌else◌, Bool, is_none, List, [], ◌∷◌, Option, Some, None}
use Rattle.std.specs.FinMap.{contains_key, entries}
use Rattle.michelson_code.specs.declared.script.Script.{Script}
use Rattle.cell_names.specs.declared.cell.Cell.TheVariants.{Storage}
use Rattle.cell_names.specs.Contents.{Contents}
use Rattle.code_book.specs.Books.{Contracts}

-- the first of these contracts whose storage isn't there
abbrev pub first_bare : Contents → List (List ℕ × Script) → Option (List ℕ)
first_bare cells [] = None
first_bare cells ((address, s) ∷ more) = if contains_key cells (Storage address) then first_bare cells more else Some address

-- the contract with the least address whose storage isn't there
abbrev pub least_bare : Contracts → Contents → Option (List ℕ)
least_bare book cells = first_bare cells (entries book)

-- each contract has its storage
abbrev pub has_storages : Contracts → Contents → Bool
has_storages book cells = is_none (least_bare book cells)
