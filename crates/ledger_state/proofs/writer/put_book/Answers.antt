-- From one contract to the next, until none is left.
use Rattle.std.proofs.Common.{◌≡◌, ℕ, List, [], ◌∷◌, ◌++◌, Option, Some, subst}
use Rattle.std.specs.FinMap.{entries}
use Rattle.code_book.specs.Successors.{IsNext, NoneAbove}
use Rattle.ledger_state.specs.Spelling.{spell_book, spell_contract}
use Rattle.ledger_state.proofs.BookLaws.{Row}
use Rattle.ledger_state.proofs.Turns.{IsAgain, all_begun, all_hold, all_writable, all_written, begun, few_begun, fewer_left, next_left, none_left, nothing_left, one_holds, one_written, rest_of}
use Rattle.ledger_state.proofs.writer.put_book.Goals as goal

pub loop-init : goal.loop-init
loop-init c = record {
  left = few_begun c.args.book.now c.len-count.result c.len-count.ensures.length;
  written = begun c.args.book.now c.args.out.now.items c.to_be_bytes.result c.extend_from_slice.new.self.items c.len-count.result
      c.in_ok-extend_from_slice.ensures.items c.to_be_bytes.ensures c.len-count.ensures.length;
  again = all_begun c.args.book.now;
}

pub put_contract-requires : goal.put_contract-requires
put_contract-requires c =
    let next : IsNext c.args.book.now c.loop.last c.in-Some.address.now c.in-Some.typed.now.script =
    subst (λ (o : Option (List ℕ)). IsNext c.args.book.now o c.in-Some.address.now c.in-Some.typed.now.script) c.as_ref.ensures.value c.in-Some.ensures in
    c.len-count.ensures.book.listed c.in-Some.address.now c.in-Some.typed.now.script next.stands

pub returns-in-None-clause-written : goal.returns-in-None-clause-written
returns-in-None-clause-written c =
    let none : rest_of c.args.book.now c.loop.last ≡ [] =
    nothing_left c.args.book.now c.loop.last (subst (λ (o : Option (List ℕ)). NoneAbove c.args.book.now o) c.as_ref.ensures.value c.in-None.ensures) in
    all_written spell_contract c.loop.out.items (c.args.out.now.items ++ spell_book c.args.book.now) (rest_of c.args.book.now c.loop.last) none c.loop.invariant.written

pub returns-in-None-clause-again : goal.returns-in-None-clause-again
returns-in-None-clause-again c =
    let none : rest_of c.args.book.now c.loop.last ≡ [] =
    nothing_left c.args.book.now c.loop.last (subst (λ (o : Option (List ℕ)). NoneAbove c.args.book.now o) c.as_ref.ensures.value c.in-None.ensures) in
    all_writable c.args.book.now (all_hold IsAgain (entries c.args.book.now) (rest_of c.args.book.now c.loop.last) none c.loop.invariant.again)

pub loop-preserved : goal.loop-preserved
loop-preserved c =
    let e : Row = (c.in-Some.address.now, c.in-Some.typed.now.script) in
    let next : IsNext c.args.book.now c.loop.last c.in-Some.address.now c.in-Some.typed.now.script =
    subst (λ (o : Option (List ℕ)). IsNext c.args.book.now o c.in-Some.address.now c.in-Some.typed.now.script) c.as_ref.ensures.value c.in-Some.ensures in
    let rest : rest_of c.args.book.now c.loop.last ≡ e ∷ rest_of c.args.book.now (Some c.in-Some.address.now) = next_left c.args.book.now c.loop.last c.in-Some.address.now c.in-Some.typed.now.script next in
    record {
      left = fewer_left c.args.book.now c.loop.last c.in-Some.address.now c.in-Some.typed.now.script c.len-count.result c.loop.counter next c.loop.invariant.left;
      written = one_written spell_contract c.loop.out.items c.put_contract.new.out.items (c.args.out.now.items ++ spell_book c.args.book.now) e
          (rest_of c.args.book.now c.loop.last) (rest_of c.args.book.now (Some c.in-Some.address.now)) rest c.in_ok-put_contract-in-Some.ensures.written c.loop.invariant.written;
      again = one_holds IsAgain (entries c.args.book.now) e
          (rest_of c.args.book.now c.loop.last) (rest_of c.args.book.now (Some c.in-Some.address.now)) rest c.in_ok-put_contract-in-Some.ensures.again c.loop.invariant.again;
    }

pub returns-clause-again : goal.returns-clause-again
returns-clause-again c =
    let none : rest_of c.args.book.now c.loop.last ≡ [] = none_left (rest_of c.args.book.now c.loop.last) c.len-count.result c.loop.counter c.loop.invariant.left c.loop-test.false in
    all_writable c.args.book.now (all_hold IsAgain (entries c.args.book.now) (rest_of c.args.book.now c.loop.last) none c.loop.invariant.again)
