-- Plain transfers, run one by one: the meaning of the operations of a block.
use Rattle.std.specs.Prelude.{List, [], ◌∷◌}
use Rattle.cell_names.specs.declared.cell.Cell.{Cell}
use Rattle.cell_names.specs.declared.mode.Mode.{Mode}
use Rattle.cell_names.specs.Accounts.{IsImplicit}
use Rattle.plain_ledger.specs.Ledger.{Balances, Ledger}
use Rattle.transfer_blocks.specs.declared.transfer.Receipt.{Receipt}
use Rattle.transfer_blocks.specs.declared.transfer.Transfer.{Transfer}
use Rattle.plain_transfers.specs.Serial.{serial}

-- what transfers leave: the balances, and the receipt and the footprint of each
pub record Run : Type 0 where
  pub balances : Balances
  pub receipts : List Receipt
  pub footprints : List (List (Cell × Mode))

-- each on the balances that those before it leave
abbrev pub run_on : Balances → List Transfer → Run
run_on m [] = record { balances = m; receipts = []; footprints = [] }
run_on m (t ∷ ts) =
    let first = serial m t in
    let rest = run_on first.balances ts in
    record { balances = rest.balances; receipts = first.receipt ∷ rest.receipts; footprints = first.footprint ∷ rest.footprints }

-- the operations of a block, on the state that it stands on
abbrev pub run_all : Ledger → List Transfer → Run
run_all s ops = run_on s.balances ops

-- from one implicit account to another, or to itself
pub record IsPlain (t : Transfer) : Type 0 where
  pub source : IsImplicit t.source
  pub dest : IsImplicit t.dest
