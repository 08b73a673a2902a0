-- What is printed so far, and the contracts and entries that are left.
use Rattle.std.proofs.Common.{◌++◌}
use Rattle.std.specs.FinMap.{entries}
use Rattle.std.specs.List.{flat_map}
use Rattle.chain_text.specs.Printed.{contract_text}
use Rattle.chain_text.proofs.PrintedContracts.{ArePrinted}
use Rattle.chain_text.proofs.printer.put_contracts.Given as goal

abbrev pub invariant-loop : goal.invariant-loop
invariant-loop l =
    ArePrinted l.cells.cells l.book l.last l.entries l.count l.counter l.out.items (l.fn.out.items ++ flat_map (contract_text l.cells.cells) (entries l.book))
