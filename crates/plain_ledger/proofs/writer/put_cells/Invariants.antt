use Rattle.std.proofs.Common.{◌≡◌, ◌++◌, take}
use Rattle.std.specs.Prelude.{map}
use Rattle.std.specs.List.{flat_map}
use Rattle.plain_ledger.specs.Ledger.{pair}
use Rattle.plain_ledger.specs.Spelling.{cell}
use Rattle.plain_ledger.proofs.writer.put_cells.Given as goal

abbrev pub invariant-loop-holding : goal.invariant-loop-holding
invariant-loop-holding l = l.out.items ≡ l.fn.out.items ++ flat_map cell (map pair (take l.holding-index l.holdings))
