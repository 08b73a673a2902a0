-- Reading the contracts of a state: their number, and each with its script.
use Rattle.std.specs.Prelude.{ℕ, ◌&&◌, Bool, true, not, List, Option, Some, None, nat_le}
use Rattle.std.specs.Int.{w32}
use Rattle.std.specs.Ordering.{is_lt, nat_cmp}
use Rattle.std.specs.Cmp.Lexicographic.{slice_cmp}
use Rattle.std.specs.FinMap.{from_sorted}
use Rattle.byte_fields.specs.Readers.{Reader, number, made, both, with, checked, chained}
use Rattle.value_codec.specs.Reading.{address}
use Rattle.michelson_code.specs.declared.script.Script.{Script}
use Rattle.cell_names.specs.Accounts.{is_implicit}
use Rattle.code_book.specs.declared.book.TheConstants.{MOST_CONTRACTS}
use Rattle.code_book.specs.Books.{Contracts}
use Rattle.ledger_state.specs.Found.{found, text}
use Rattle.ledger_state.specs.Scripts.{script_of}

-- a script that may run, as it is printed; else the fault is at its length
abbrev pub script : Reader Script
script = found script_of text

-- the address is above the last one, if there is one
abbrev pub is_above_address : Option (List ℕ) → List ℕ → Bool
is_above_address None a = true
is_above_address (Some last) a = is_lt (slice_cmp nat_cmp last a)

-- it is a contract's, and above the last one
abbrev pub is_next : Option (List ℕ) → List ℕ → Bool
is_next last a = not (is_implicit a) && is_above_address last a

-- a contract, told at its first byte where its address isn't the next
abbrev pub contract : Option (List ℕ) → Reader (List ℕ × Script)
contract last = both (checked (is_next last) address) script

-- the address above which the next one has to be
abbrev pub next_address : Option (List ℕ) → List ℕ × Script → Option (List ℕ)
next_address last c = Some c.0

-- the number of contracts, then so many
abbrev pub contracts : Reader (List (List ℕ × Script))
contracts = with (checked (λ n. nat_le n MOST_CONTRACTS) (number w32)) (chained contract next_address None)

-- the contracts, by their addresses
abbrev pub book : Reader Contracts
book = made from_sorted contracts
