-- One pair more round the last.
use Rattle.std.proofs.Common.{◌≡◌, ap, ◌∙◌}
use Rattle.value_core.specs.Combs.{comb}
use Rattle.micheline_text.specs.declared.node.Node.{Node}
use Rattle.michelson_reader.specs.Printing.{pair_node}
use Rattle.michelson_reader.proofs.TypeCombs.{one_more_pair}
use Rattle.michelson_reader.proofs.type_nodes.pairs.Goals as goal

pub loop-first-preserved : goal.loop-first-preserved
loop-first-preserved c =
    let first : Node = c.in-Some.first in
    let pair : c.in_ok-made.made ≡ pair_node first c.loop-first.made = cc (c.in_ok-made.ensures, c.in_ok-two.ensures, c.new.ensures) in
    let more = one_more_pair (comb pair_node c.args.firsts c.args.last) c.loop-first.firsts c.pop.new.self first c.loop-first.made c.in-Some.ensures c.loop-first.invariant in
    ap (comb pair_node c.pop.new.self) pair ∙ more
