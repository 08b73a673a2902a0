-- One plain transfer, run on the balances alone: the meaning of an operation of a block.
use Rattle.std.specs.Prelude.{ℕ, ◌+◌, ◌-◌, true, false, ◌==◌, nat_lt, List, [], if◌then◌else◌}
use Rattle.cell_names.specs.declared.cell.Cell.{Cell}
use Rattle.cell_names.specs.declared.cell.Cell.TheVariants.{Balance}
use Rattle.cell_names.specs.declared.mode.Mode.{Mode}
use Rattle.cell_names.specs.declared.mode.Mode.TheVariants.{Credit, Own}
use Rattle.cell_names.specs.Footprints.{touched}
use Rattle.plain_ledger.specs.Ledger.{Balances, balance, with_balance}
use Rattle.transfer_blocks.specs.declared.transfer.Receipt.{Receipt}
use Rattle.transfer_blocks.specs.declared.transfer.Transfer.{Transfer}

-- the account, which has as much, gives it
abbrev pub debited : Balances → List ℕ → ℕ → Balances
debited m address amount = with_balance m address (balance m address - amount)

-- the account gets so much
abbrev pub credited : Balances → List ℕ → ℕ → Balances
credited m address amount = with_balance m address (balance m address + amount)

-- what a transfer leaves: the balances, its receipt and its footprint
pub record Ran : Type 0 where
  pub balances : Balances
  pub receipt : Receipt
  pub footprint : List (Cell × Mode)

-- plain transfers use no gas
abbrev pub applied : Receipt
applied = record { applied = true; gas = 0 }

-- BalanceTooLow
abbrev pub too_low : Receipt
too_low = record { applied = false; gas = 0 }

-- the source is touched, since it is read and changed
abbrev pub debit_cells : Transfer → List (Cell × Mode)
debit_cells t = touched [] (Balance t.source) Own

-- and then the destination, of which nothing is learnt
abbrev pub paid_cells : Transfer → List (Cell × Mode)
paid_cells t = touched (debit_cells t) (Balance t.dest) Credit

-- a transfer of nothing touches nothing; else the source is debited, unless it has too little, and then the destination credited
unfoldable pub serial : Balances → Transfer → Ran
serial m t =
    if t.amount == 0 then record { balances = m; receipt = applied; footprint = [] }
    else if nat_lt (balance m t.source) t.amount then record { balances = m; receipt = too_low; footprint = debit_cells t }
    else record {
      balances = credited (debited m t.source t.amount) t.dest t.amount;
      receipt = applied;
      footprint = paid_cells t;
    }
