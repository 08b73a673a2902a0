-- Reading a ledger from the front of its file, and where it stops.
use Rattle.std.specs.Prelude.{ℕ, ◌+◌, ◌^◌, ◌&&◌, Bool, true, List, length, Option, Some, None, Result, nat_lt, nat_le, ◌==◌, map}
use Rattle.std.specs.Int.{w8, w32, w64}
use Rattle.std.specs.Ordering.{is_lt, nat_cmp}
use Rattle.std.specs.Cmp.Lexicographic.{slice_cmp}
use Rattle.std.specs.FinMap.{from_sorted}
use Rattle.byte_fields.specs.Stops.{Stop}
use Rattle.byte_fields.specs.Readers.{Reader, number, made, both, with, checked, built, chained, behind, whole}
use Rattle.byte_fields.specs.Told.{alone}
use Rattle.value_core.specs.declared.val.Val.{Val}
use Rattle.value_core.specs.declared.val.Val.TheOpen as one
use Rattle.value_core.specs.declared.val.Val.TheViews.{out-Val}
use Rattle.value_core.specs.Layer.{Layer}
use Rattle.value_codec.specs.declared.tag.TheConstants.{ANY_VALUE}
use Rattle.value_codec.specs.Reading.{address, value}
use Rattle.cell_names.specs.Accounts.{is_implicit}
use Rattle.plain_ledger.specs.declared.holding.Holding.{Holding}
use Rattle.plain_ledger.specs.Ledger.{Ledger, pair}
use Rattle.plain_ledger.specs.Spelling.{magic}

-- how much money one level of a value is
abbrev pub amount_level : Layer Val → ℕ
amount_level (one.Mutez n) = n
amount_level _ = 0

-- how much money a value is, and 0 where it is none
abbrev pub amount_of : Val → ℕ
amount_of v = amount_level (out-Val v)

-- an amount above 0 with which the supply stays below 2^63
abbrev pub is_room : ℕ → ℕ → Bool
is_room total n = nat_lt 0 n && nat_lt (total + n) (2 ^ 63)

-- a value that may stand in a cell behind cells of so much: an amount of an implicit account
abbrev pub fits : List ℕ → ℕ → Val → Bool
fits a total v = is_implicit a && is_room total (amount_of v)

-- the three kinds of cells, of which balances are built
abbrev pub kind : Reader ℕ
kind = built (λ k. k == 0) (checked (λ k. nat_le k 2) (number w8))

-- the address of a balance, behind its kind
abbrev pub account : Reader (List ℕ)
account = made (λ p. p.1) (both kind address)

-- the address is above the last one, if there is one
abbrev pub is_above : Option (List ℕ) → List ℕ → Bool
is_above None a = true
is_above (Some last) a = is_lt (slice_cmp nat_cmp last a)

-- a balance that stands above the last one, told at its first byte
abbrev pub name : Option (List ℕ) → Reader (List ℕ)
name last = checked (is_above last) account

-- the value of a cell, which is read whole before it is judged
abbrev pub amount : List ℕ → ℕ → Reader ℕ
amount a total = made amount_of (checked (fits a total) (value ANY_VALUE 128))

-- what stands before a cell: the address of the last one and the supply so far
abbrev pub Before : Type 0
Before = Option (List ℕ) × ℕ

-- what stands before the next cell
abbrev pub next : Before → Holding → Before
next before h = (Some h.address, before.1 + h.amount)

-- a cell and its value, by what stands before
abbrev pub holding : Before → Reader Holding
holding before = with (name before.0) (λ a. made (λ n. record { address = a; amount = n }) (amount a before.1))

-- so many cells
abbrev pub cells : ℕ → Reader (List Holding)
cells = chained holding next (None, 0)

-- the number of contracts: at most 1,024, of which one or more aren't built
abbrev pub contracts : Reader ℕ
contracts = built (λ n. n == 0) (checked (λ n. nat_le n 1024) (number w32))

-- the contracts, and then the cells with their number before them
abbrev pub book : Reader (List Holding)
book = made (λ p. p.1) (both contracts (with (number w32) cells))

-- all of the bytes
unfoldable pub ledger : Reader Ledger
ledger =
    whole (made (λ p. record { level = p.0; now = p.1.0; balances = from_sorted (map pair p.1.1) })
    (behind magic (both (number w32) (both (number w64) book))))

-- the ledger, or the place of the fault or of what isn't built
abbrev pub ledger_of : List ℕ → Result Ledger Stop
ledger_of bytes = alone (length bytes) (ledger bytes)
