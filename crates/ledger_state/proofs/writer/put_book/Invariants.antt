use Rattle.std.proofs.Common.{◌≡◌, ◌+◌, ◌≤◌, ◌++◌, length}
use Rattle.std.specs.List.{flat_map, AllByRecursion}
use Rattle.std.specs.FinMap.{entries}
use Rattle.ledger_state.specs.Spelling.{spell_book, spell_contract}
use Rattle.ledger_state.proofs.Turns.{IsAgain, rest_of}
use Rattle.ledger_state.proofs.writer.put_book.Given as goal

abbrev pub invariant-loop : goal.invariant-loop
invariant-loop l = record {
  left : length (rest_of l.book l.last) + l.counter ≤ l.count;
  written : l.out.items ++ flat_map spell_contract (rest_of l.book l.last) ≡ l.fn.out.items ++ spell_book l.book;
  again : AllByRecursion IsAgain (rest_of l.book l.last) → AllByRecursion IsAgain (entries l.book);
}
