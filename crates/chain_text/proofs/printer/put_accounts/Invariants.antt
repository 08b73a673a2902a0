-- What is printed so far, and what is left.
use Rattle.std.proofs.Common.{◌≡◌, ◌++◌, length}
use Rattle.std.specs.FinMap.{entries}
use Rattle.std.specs.List.{flat_map}
use Rattle.chain_text.specs.Printed.{account_text}
use Rattle.chain_text.proofs.printer.put_accounts.Given as goal

abbrev pub invariant-loop-row : goal.invariant-loop-row
invariant-loop-row l = l.out.items ++ flat_map account_text l.walk ≡ l.fn.out.items ++ flat_map account_text (entries l.cells.cells)

abbrev pub decreases-loop-row : goal.decreases-loop-row
decreases-loop-row l = length l.walk
