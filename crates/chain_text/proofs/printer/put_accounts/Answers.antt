-- Row by row.
use Rattle.std.proofs.Common.{◌++◌}
use Rattle.std.specs.FinMap.{entries}
use Rattle.std.specs.List.{flat_map}
use Rattle.ledger_state.proofs.Turns.{one_written}
use Rattle.chain_text.specs.Printed.{account_text}
use Rattle.chain_text.proofs.printer.put_accounts.Goals as goal

pub loop-row-preserved : goal.loop-row-preserved
loop-row-preserved c =
    one_written account_text c.loop-row.out.items c.put_account.new.out.items (c.args.out.now.items ++ flat_map account_text (entries c.args.cells.now.cells)) c.in-Some.row c.loop-row.walk c.next.new.self
    c.in-Some.ensures c.in_ok-put_account.ensures c.loop-row.invariant
