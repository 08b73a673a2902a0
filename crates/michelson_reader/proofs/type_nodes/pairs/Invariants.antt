-- The pairs so far stand behind the first parts that are left.
use Rattle.std.proofs.Common.{◌≡◌, length}
use Rattle.value_core.specs.Combs.{comb}
use Rattle.michelson_reader.specs.Printing.{pair_node}
use Rattle.michelson_reader.proofs.type_nodes.pairs.Given as goal

abbrev pub invariant-loop-first : goal.invariant-loop-first
invariant-loop-first l = comb pair_node l.firsts l.made ≡ comb pair_node l.fn.firsts l.fn.last

abbrev pub decreases-loop-first : goal.decreases-loop-first
decreases-loop-first l = length l.firsts
