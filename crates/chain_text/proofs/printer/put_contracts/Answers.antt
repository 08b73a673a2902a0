-- From one contract to the next, until none is left.
use Rattle.std.proofs.Common.{◌≡◌, List, [], ◌++◌, Option, ℕ, subst, ◌∙◌}
use Rattle.std.specs.FinMap.{entries}
use Rattle.std.specs.List.{flat_map}
use Rattle.code_book.specs.Successors.{IsNext, NoneAbove}
use Rattle.ledger_state.proofs.Turns.{all_written, few_begun, nothing_left, rest_of}
use Rattle.chain_text.specs.Printed.{contract_text}
use Rattle.chain_text.proofs.PrintedContracts.{none_printed, one_printed}
use Rattle.chain_text.proofs.printer.put_contracts.Goals as goal

pub loop-init : goal.loop-init
loop-init c =
    none_printed c.args.cells.now.cells c.args.book.now c.new-entries.result c.len-count.result c.args.out.now.items c.new-entries.ensures
    (few_begun c.args.book.now c.len-count.result c.len-count.ensures.length)

pub returns-in-None : goal.returns-in-None
returns-in-None c =
    let none : rest_of c.args.book.now c.loop.last ≡ [] =
    nothing_left c.args.book.now c.loop.last (subst (λ (o : Option (List ℕ)). NoneAbove c.args.book.now o) c.as_ref.ensures.value c.in-None.ensures) in
    all_written (contract_text c.args.cells.now.cells) c.loop.out.items (c.args.out.now.items ++ flat_map (contract_text c.args.cells.now.cells) (entries c.args.book.now))
    (rest_of c.args.book.now c.loop.last) none c.loop.invariant.written

pub loop-preserved : goal.loop-preserved
loop-preserved c =
    let next : IsNext c.args.book.now c.loop.last c.in-Some.address.now c.in-Some.typed.now.script =
    subst (λ (o : Option (List ℕ)). IsNext c.args.book.now o c.in-Some.address.now c.in-Some.typed.now.script) c.as_ref.ensures.value c.in-Some.ensures in
    one_printed c.args.cells.now.cells c.args.book.now c.loop.last c.loop.entries c.of.new.self c.len-count.result c.loop.counter c.loop.out.items c.put_contract.new.out.items c.put_storage.new.out.items
    (c.args.out.now.items ++ flat_map (contract_text c.args.cells.now.cells) (entries c.args.book.now)) c.in-Some.address.now c.in-Some.typed.now.script c.as_slice.result.now
    c.loop.invariant next c.in_ok-put_contract-in-Some.ensures (c.as_slice.ensures.value ∙ c.in_ok-maps-in-Some.ensures.found) c.in_ok-put_storage-in-Some.ensures c.in_ok-maps-in-Some.ensures.sorted c.in_ok-maps-in-Some.ensures.others
