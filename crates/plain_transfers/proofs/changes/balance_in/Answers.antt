-- An account has what was written, or else what it had.
use Rattle.std.proofs.Common.{sym, ◌∙◌}
use Rattle.plain_transfers.proofs.Over.{balance-over_some, balance-over_none}
use Rattle.plain_transfers.proofs.changes.balance_in.Goals as goal

pub returns-in-Some : goal.returns-in-Some
returns-in-Some c = sym (balance-over_some _ c.args.changes.now.entries _ _ (sym c.in-Some.ensures.value))

pub returns-in-None : goal.returns-in-None
returns-in-None c = c.balance.ensures ∙ sym (balance-over_none _ c.args.changes.now.entries _ (sym c.in-None.ensures.value))
