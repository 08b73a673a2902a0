-- From one contract to the next.
use Rattle.std.proofs.Common.{◌<◌, ◌≤◌, None, ap, ◌∙◌, arith}
use Rattle.std.specs.FinMap.{entries, len, len-empty}
use Rattle.byte_fields.specs.Readers.{chained}
use Rattle.byte_fields.specs.Told.{read_stop}
use Rattle.byte_fields.proofs.Loops.{ends, is_done}
use Rattle.michelson_code.specs.declared.script.Script.{Script}
use Rattle.ledger_state.specs.BookReading.{contract, next_address}
use Rattle.ledger_state.proofs.BookLaws.{by_bytes}
use Rattle.ledger_state.proofs.Growing.{begins, none_below, nothing, one_contract, still_below}
use Rattle.ledger_state.proofs.Listing.{may_be_added, one_more}
use Rattle.ledger_state.proofs.contracts.contracts_at.Goals as goal

pub loop-init : goal.loop-init
loop-init c =
    let none = ap entries c.new-book.ensures ∙ nothing by_bytes in
    record {
      below = none_below c.new-book.result None none;
      count = ap len c.new-book.ensures ∙ len-empty by_bytes Script;
      so_far = begins contract next_address None (entries c.new-book.result) c.args.count c.args.bytes.now none;
    }

pub list-requires : goal.list-requires
list-requires c =
    let few : c.args.count ≤ 1024 = c.requires in
    let room : len c.loop.book < 1024 = omega arith in
    may_be_added c.loop.last c.loop.book c.in-Ok.contract.0 c.in-Ok.contract.1.script c.loop.invariant.below c.in-Ok.ensures.above room c.in-Ok.ensures.listed

pub loop-preserved : goal.loop-preserved
loop-preserved c = record {
  below = still_below c.loop.book c.list.new.book c.loop.last c.in-Ok.contract.0 c.in-Ok.contract.1.script c.loop.invariant.below c.in-Ok.ensures.above c.in_ok-list-in-Ok.ensures.added;
  count = one_more c.loop.last c.loop.book c.list.new.book c.in-Ok.contract.0 c.in-Ok.contract.1.script c.loop.counter c.loop.invariant.below c.in-Ok.ensures.above c.in_ok-list-in-Ok.ensures.added c.loop.invariant.count;
  so_far = one_contract c.loop.last c.loop.book c.list.new.book c.in-Ok.contract.0 c.in-Ok.contract.1.script c.args.count c.loop.counter c.loop.rest.now c.in-Ok.after.now
      (chained contract next_address None c.args.count c.args.bytes.now)
      c.loop.invariant.below c.in-Ok.ensures.above c.in_ok-list-in-Ok.ensures.added c.in-Ok.ensures.read c.loop-test.true c.loop.invariant.so_far;
}

pub returns-in-Err : goal.returns-in-Err
returns-in-Err c =
    ends (read_stop c.in-Err.stop) contract next_address c.loop.last (entries c.loop.book) c.args.count c.loop.counter c.loop.rest.now (chained contract next_address None c.args.count c.args.bytes.now)
    c.loop-test.true c.in-Err.ensures.read c.loop.invariant.so_far

pub returns : goal.returns
returns c =
    is_done contract next_address c.loop.last (entries c.loop.book) c.args.count c.loop.counter c.loop.rest.now (chained contract next_address None c.args.count c.args.bytes.now)
    c.loop-test.false c.loop.invariant.so_far
