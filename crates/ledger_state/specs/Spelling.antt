-- The one spelling of a state as the bytes of a file.
use Rattle.std.specs.Prelude.{◌≡◌, ℕ, ◌<◌, ◌^◌, List, [], ◌∷◌, ◌++◌, length, Some}
use Rattle.std.specs.List.{flat_map}
use Rattle.std.specs.Int.{w32, w64, to_be_bytes}
use Rattle.std.specs.FinMap.{entries, get, len}
use Rattle.value_core.specs.declared.val.Val.{Val}
use Rattle.value_codec.specs.declared.tag.TheConstants.{ANY_VALUE}
use Rattle.value_codec.specs.Spelling.{spell, IsSpelt}
use Rattle.michelson_code.specs.declared.script.Script.{Script}
use Rattle.michelson_reader.specs.Printed.{script_text}
use Rattle.michelson_reader.specs.Script.{IsScriptOf}
use Rattle.cell_names.specs.declared.cell.Cell.{Cell}
use Rattle.cell_names.specs.Contents.{Contents}
use Rattle.cell_names.specs.Spelling.{spell_cell, IsCell}
use Rattle.code_book.specs.Books.{Contracts}
use Rattle.ledger_state.specs.Ledger.{Ledger, IsLedger}

-- ---- the spelling

-- 'FJS1'
abbrev pub magic : List ℕ
magic = 0x46 ∷ 0x4a ∷ 0x53 ∷ 0x31 ∷ []

-- a text with its length before it
abbrev pub spell_text : List ℕ → List ℕ
spell_text text = to_be_bytes w32 (length text) ++ text

-- a contract: its address, then its script as it is printed
abbrev pub spell_contract : List ℕ × Script → List ℕ
spell_contract (address, s) = address ++ spell_text (script_text s)

-- the number of contracts, then each in the order of the addresses
abbrev pub spell_book : Contracts → List ℕ
spell_book book = to_be_bytes w32 (len book) ++ flat_map spell_contract (entries book)

-- a cell's name, then its value
abbrev pub spell_held : Cell × Val → List ℕ
spell_held (c, v) = spell_cell c ++ spell v

-- the number of cells, then each in their order
abbrev pub spell_cells : Contents → List ℕ
spell_cells cells = to_be_bytes w32 (len cells) ++ flat_map spell_held (entries cells)

-- the magic, the level, `now`, the contracts and the cells
abbrev pub spelling : Ledger → List ℕ
spelling s = magic ++ (to_be_bytes w32 s.level ++ (to_be_bytes w64 s.now ++ (spell_book s.book ++ spell_cells s.cells)))

-- ---- which have one

-- each script is the one that its printed text is read as
abbrev pub AreWritable : Contracts → Type 0
AreWritable book = (address : List ℕ) (s : Script) → get book address ≡ Some s → IsScriptOf (script_text s) s

-- each cell has a spelling, and so has its value
abbrev pub AreSpelt : Contents → Type 0
AreSpelt cells = (c : Cell) (v : Val) → get cells c ≡ Some v → IsCell c × IsSpelt ANY_VALUE 128 v

-- a state that has a spelling; so has each state in memory that has fewer than 2^32 cells
pub record CanBeStored (s : Ledger) : Type 0 where
  pub lawful : IsLedger s
  pub few : len s.cells < 2 ^ 32
  pub scripts : AreWritable s.book
  pub cells : AreSpelt s.cells
