-- Contracts without a storage: there is none exactly where each contract has its storage.
use Rattle.std.proofs.Common.{◌≡◌, ℕ, true, false, List, [], ◌∷◌, Option, Some, None, refl, ap, ◌∙◌}
use Rattle.std.specs.Prelude.{if◌then◌else◌, is_none, is_some}
use Rattle.std.specs.List.{AllByRecursion}
use Rattle.std.specs.FinMap.{contains_key, entries, get}
use Rattle.michelson_code.specs.declared.script.Script.{Script}
use Rattle.cell_names.specs.declared.cell.Cell.TheVariants.{Storage}
use Rattle.cell_names.specs.Contents.{Contents}
use Rattle.code_book.specs.Books.{Contracts}
use Rattle.ledger_state.specs.Storages.{first_bare, has_storages, least_bare}
use Rattle.ledger_state.proofs.BookLaws.{Row, total, ties}
use Rattle.ledger_state.proofs.Entries.{each_held, held_each}

-- the storage of the contract is there
abbrev pub IsHoused : Contents → Row → Type 0
IsHoused cells c = contains_key cells (Storage c.0) ≡ true

all_housed : (cells : Contents) (rows : List Row) → is_none (first_bare cells rows) ≡ true → AllByRecursion (IsHoused cells) rows
all_housed cells [] h = tt
all_housed cells (c ∷ rows) h =
    elim (contains_key cells (Storage c.0)) as (λ b. contains_key cells (Storage c.0) ≡ b → is_none (if b then first_bare cells rows else Some c.0) ≡ true → AllByRecursion (IsHoused cells) (c ∷ rows)) [
      | true ↦ λ here rest. (here, all_housed cells rows rest)
      | false ↦ λ _ no. absurd cc
    ] refl h

housed_all : (cells : Contents) (rows : List Row) → AllByRecursion (IsHoused cells) rows → first_bare cells rows ≡ None
housed_all cells [] all = refl
housed_all cells (c ∷ rows) all = ap (λ b. if b then first_bare cells rows else Some c.0) all.0 ∙ housed_all cells rows all.1

some_of : (o : Option Script) → is_some o ≡ true → (s : Script) × (o ≡ Some s)
some_of None h = absurd cc
some_of (Some s) h = (s, refl)

pub housed_from : (book : Contracts) (cells : Contents) → has_storages book cells ≡ true → (address : List ℕ) → contains_key book address ≡ true → contains_key cells (Storage address) ≡ true
housed_from book cells h address known =
    let s = some_of (get book address) known in
    each_held total (IsHoused cells) ties book (all_housed cells (entries book) h) address s.0 s.1

pub none_is_bare : (book : Contracts) (cells : Contents) → ((address : List ℕ) → contains_key book address ≡ true → contains_key cells (Storage address) ≡ true) → least_bare book cells ≡ None
none_is_bare book cells housed =
    housed_all cells (entries book) (held_each total (IsHoused cells) book (λ address s e. housed address (ap is_some e)))

pub housed_to : (book : Contracts) (cells : Contents) → ((address : List ℕ) → contains_key book address ≡ true → contains_key cells (Storage address) ≡ true) → has_storages book cells ≡ true
housed_to book cells housed = ap is_none (none_is_bare book cells housed)
