-- The one spelling of a ledger as the bytes of a file.
use Rattle.std.specs.Prelude.{ℕ, ◌<◌, ◌^◌, List, [], ◌∷◌, ◌++◌}
use Rattle.std.specs.List.{flat_map}
use Rattle.std.specs.Int.{w32, w64, to_be_bytes}
use Rattle.std.specs.FinMap.{entries, len}
use Rattle.plain_ledger.specs.Ledger.{Ledger, BalanceEntry, AreBalances}

-- 'FJS1'
abbrev pub magic : List ℕ
magic = 0x46 ∷ 0x4a ∷ 0x53 ∷ 0x31 ∷ []

-- a cell's name, the tag of a balance and the address, and its value, the tag of an amount and the amount
abbrev pub cell : BalanceEntry → List ℕ
cell e = (0 ∷ e.0) ++ (5 ∷ to_be_bytes w64 e.1)

-- magic, level, now, no contracts, the number of cells, and the cells in the order of their addresses
abbrev pub spelling : Ledger → List ℕ
spelling s =
    magic ++ to_be_bytes w32 s.level ++ to_be_bytes w64 s.now ++ to_be_bytes w32 0
    ++ to_be_bytes w32 (len s.balances) ++ flat_map cell (entries s.balances)

-- what has a spelling
pub record IsLedger (s : Ledger) : Type 0 where
  pub level : s.level < 2 ^ 32
  pub now : s.now < 2 ^ 64
  pub few : len s.balances < 2 ^ 32
  pub balances : AreBalances s.balances
