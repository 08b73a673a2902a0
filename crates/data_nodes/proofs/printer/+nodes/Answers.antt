-- One more part of the comb.
use Rattle.std.proofs.Common.{◌<◌, ap, arith}
use Rattle.value_core.specs.declared.val.Val.{size-Val}
use Rattle.value_core.proofs.Smaller.{smaller_pair}
use Rattle.data_nodes.proofs.PrintedNodes.{comb_turn}
use Rattle.data_nodes.proofs.printer.+nodes.Goals as goal

pub comb_node-loop-last-preserved : goal.comb_node-loop-last-preserved
comb_node-loop-last-preserved t c =
    let turn = comb_turn _ c.loop-last.firsts c.loop-last.last.now c.in-Pair.next c.in-Pair.behind c.in-Pair.is c.loop-last.invariant.made in
    let smaller : size-Val c.in-Pair.behind < size-Val c.loop-last.last.now = smaller_pair _ _ _ c.in-Pair.is in
    record {
      made = cc (turn, c.in_ok-data_node-2.ensures, c.in_ok-push-2.ensures.ok, c.get.ensures, c.get-last.ensures);
      no_deeper = omega (arith, smaller, ap size-Val c.get-last.ensures, c.loop-last.invariant.no_deeper);
    }
