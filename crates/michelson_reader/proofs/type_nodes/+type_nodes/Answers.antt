-- One first part more.
use Rattle.std.proofs.Common.{rules}
use Rattle.value_core.specs.declared.ty.Ty.TheViews.{the_lemmas}
use Rattle.michelson_reader.specs.Printed.{type_node}
use Rattle.michelson_reader.proofs.TypeCombs.{one_more_first}
use Rattle.michelson_reader.proofs.type_nodes.+type_nodes.Goals as goal

pub type_node-loop-rest-preserved : goal.type_node-loop-rest-preserved
type_node-loop-rest-preserved t c =
    let more = one_more_first (type_node c.args.t.now) c.loop-rest.firsts c.loop-rest.rest.now c.in-Pair.first c.in-Pair.second c.in-Pair.is c.loop-rest.invariant.node in
    record {
      node = cc (more, c.in_ok-type_node.ensures, c.in_ok-push.ensures.ok);
      no_deeper = search (rules, the_lemmas);
    }
