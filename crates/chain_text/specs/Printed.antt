-- The text that is printed for a state.
use Rattle.std.specs.Prelude.{ℕ, List, [], ◌∷◌, ◌++◌, codes, if◌then◌else◌, Option, Some, None}
use Rattle.std.specs.List.{flat_map}
use Rattle.std.specs.Fmt.{decimal}
use Rattle.std.specs.FinMap.{entries, get}
use Rattle.std.specs.Str.{bytes_eq}
use Rattle.value_core.specs.declared.val.Val.{Val}
use Rattle.micheline_text.specs.Printed.{printed}
use Rattle.michelson_code.specs.declared.script.Script.{Script}
use Rattle.data_nodes.specs.Printed.{node_of}
use Rattle.data_nodes.specs.Storage.{Entry as MapEntry, with_entries}
use Rattle.cell_names.specs.declared.cell.Cell.{Cell}
use Rattle.cell_names.specs.declared.cell.Cell.TheVariants.{Balance, Storage, Entry}
use Rattle.cell_names.specs.Accounts.{is_implicit}
use Rattle.cell_names.specs.Contents.{Contents, amount_of, balance}
use Rattle.ledger_state.specs.Ledger.{Ledger}
use Rattle.chain_text.specs.PrintedLines.{address_line, balance_text, line_text, script_lines}

-- ---- lines

-- the line of a storage, with the entries of its big maps in their places
abbrev pub storage_text : List ℕ → List MapEntry → Option Val → List ℕ
storage_text a entries None = []
storage_text a entries (Some v) = address_line (codes "storage") a (printed (node_of (with_entries entries v)))

-- the line of an implicit account's balance, and nothing for other cells
abbrev pub account_text : Cell × Val → List ℕ
account_text (Balance a, v) = if is_implicit a then balance_text a (amount_of v) else []
account_text (Storage a, v) = []
account_text (Entry a place key, v) = []

-- ---- contracts

-- the entry of a contract's big map that a cell is, if it is one
abbrev pub entry_in : List ℕ → Cell × Val → List MapEntry
entry_in a (Balance b, v) = []
entry_in a (Storage b, v) = []
entry_in a (Entry b place key, v) = if bytes_eq b a then (place, key, v) ∷ [] else []

-- the entries of a contract's big maps
abbrev pub entries_of : Contents → List ℕ → List MapEntry
entries_of cells a = flat_map (entry_in a) (entries cells)

-- a contract's line, its script up to `end`, and its balance
abbrev pub head_text : Contents → List ℕ × Script → List ℕ
head_text cells (a, s) = script_lines a s ++ balance_text a (balance cells a)

-- the same, and its storage
abbrev pub contract_text : Contents → List ℕ × Script → List ℕ
contract_text cells (a, s) = head_text cells (a, s) ++ storage_text a (entries_of cells a) (get cells (Storage a))

-- ---- states

-- level and now, the balances of implicit accounts, then each contract, both by address
abbrev pub genesis_text : Ledger → List ℕ
genesis_text s =
    line_text (codes "level") (decimal s.level) ++ (line_text (codes "now") (decimal s.now) ++
    (flat_map account_text (entries s.cells) ++ flat_map (contract_text s.cells) (entries s.book)))
