-- From one contract to the next, until one has no storage or none is left.
use Rattle.std.proofs.Common.{ap}
use Rattle.ledger_state.specs.Storages.{first_bare}
use Rattle.ledger_state.proofs.Bare.{first_is, first_is_later, none_is_first, one_fewer}
use Rattle.ledger_state.proofs.Turns.{all_left, few_begun, none_bare, none_left, rest_of}
use Rattle.ledger_state.proofs.storages.least_bare.Goals as goal

pub loop-init : goal.loop-init
loop-init c = record {
  left = few_begun c.args.book.now c.len-count.result c.len-count.ensures.length;
  so_far = ap (first_bare c.args.cells.now.cells) (all_left c.args.book.now);
}

pub returns-then-not-has_storage : goal.returns-then-not-has_storage
returns-then-not-has_storage c =
    first_is c.args.book.now c.args.cells.now.cells _ c.loop.last c.as_ref.ensures.value c.loop.invariant.so_far c.in-Some.address.now _ c.has_storage.result c.in-Some.ensures c.has_storage.ensures c.if-not-has_storage.true

pub loop-preserved : goal.loop-preserved
loop-preserved c = record {
  left = one_fewer c.args.book.now _ c.loop.last c.in-Some.address.now _ c.len-count.result c.loop.counter c.as_ref.ensures.value c.in-Some.ensures c.loop.invariant.left;
  so_far = first_is_later c.args.book.now c.args.cells.now.cells _ c.loop.last c.as_ref.ensures.value c.loop.invariant.so_far c.in-Some.address.now _ c.has_storage.result c.in-Some.ensures c.has_storage.ensures c.if-not-has_storage.false;
}

pub returns-in-None : goal.returns-in-None
returns-in-None c = none_is_first c.args.book.now c.args.cells.now.cells _ c.loop.last c.as_ref.ensures.value c.loop.invariant.so_far c.in-None.ensures

pub returns : goal.returns
returns c =
    none_bare c.args.book.now c.args.cells.now.cells (rest_of c.args.book.now c.loop.last)
    (none_left (rest_of c.args.book.now c.loop.last) c.len-count.result c.loop.counter c.loop.invariant.left c.loop-test.false) c.loop.invariant.so_far
