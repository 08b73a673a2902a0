-- What stands where the addresses above the given one begin is the least of them.
use Rattle.std.proofs.Common.{subst}
use Rattle.std.specs.Option.{option_copied}
use Rattle.code_book.specs.Books.{Contracts}
use Rattle.code_book.specs.Successors.{IsNext, NoneAbove}
use Rattle.code_book.proofs.Cuts.{next_at, none_at}
use Rattle.code_book.proofs.book.Book.after.Goals as goal

pub returns-in-Some : goal.returns-in-Some
returns-in-Some c =
    subst (λ (b : Contracts). IsNext b (option_copied c.args.a) c.in-Some.contract.now.0 c.in-Some.contract.now.1.script) c.self.view_is
    (next_at c.as_slice-row.result.now c.self.inside.contracts.items (option_copied c.args.a) c.place_above.result c.in-Some.contract.now
    c.as_slice-row.ensures.value c.self.invariant.ascend c.place_above.ensures c.in-Some.ensures.lookup.3.0 c.in-Some.ensures.lookup.1)

pub returns-in-None : goal.returns-in-None
returns-in-None c =
    subst (λ (b : Contracts). NoneAbove b (option_copied c.args.a)) c.self.view_is
    (none_at c.as_slice-row.result.now c.self.inside.contracts.items (option_copied c.args.a) c.place_above.result
    c.as_slice-row.ensures.value c.self.invariant.ascend c.place_above.ensures c.in-None.ensures.lookup.3)
