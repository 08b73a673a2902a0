-- Balances that changed, kept apart from those of the state that they stand on.
use Rattle.std.specs.Prelude.{List, [], ◌∷◌, All, map}
use Rattle.std.specs.Ordering.{nat_cmp}
use Rattle.std.specs.Cmp.Lexicographic.{slice_cmp}
use Rattle.std.specs.List.Sorted.{IsStrictlySortedBy}
use Rattle.cell_names.specs.Accounts.{IsImplicit}
use Rattle.plain_ledger.specs.declared.holding.Holding.{Holding}
use Rattle.plain_ledger.specs.Ledger.{BalanceEntry, Balances, with_balance, AreBalances}

-- the balances with these written over them
abbrev pub over : Balances → List BalanceEntry → Balances
over m [] = m
over m (e ∷ es) = with_balance (over m es) e.0 e.1

-- an entry as a holding
abbrev pub holding_of : BalanceEntry → Holding
holding_of e = record { address = e.0; amount = e.1 }

-- what changes over balances keep
pub record AreChanges (m : Balances) (es : List BalanceEntry) : Type 0 where
  pub ascend : IsStrictlySortedBy (slice_cmp nat_cmp) (map (λ e. e.0) es)
  pub accounts : All IsImplicit (map (λ e. e.0) es)
  pub lawful : AreBalances (over m es)
