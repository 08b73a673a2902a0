-- One more part of a pair, big maps, and what stays as it is.
use Rattle.std.proofs.Common.{◌<◌, ap, arith}
use Rattle.value_core.specs.declared.val.Val.{size-Val}
use Rattle.value_core.proofs.Smaller.{smaller_pair}
use Rattle.data_nodes.proofs.JoinedStorage.{joined_turn}
use Rattle.data_nodes.proofs.joining.+joined.Goals as goal

pub loop-rest-preserved : goal.loop-rest-preserved
loop-rest-preserved t c =
    let turn = joined_turn c.args.entries.now _ c.loop-rest.rest.now c.in-Pair.first c.in-Pair.behind c.loop-rest.firsts c.in-Pair.is c.loop-rest.invariant.same in
    let smaller : size-Val c.in-Pair.behind < size-Val c.loop-rest.rest.now = smaller_pair _ _ _ c.in-Pair.is in
    record {
      same = cc (turn, c.in_ok-joined-in-Pair.ensures, c.in_ok-push-in-Pair.ensures.ok, c.get.ensures, c.get-rest.ensures);
      no_deeper = omega (arith, smaller, ap size-Val c.get-rest.ensures, c.loop-rest.invariant.no_deeper);
    }
