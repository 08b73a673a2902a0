-- The comb is that of the nodes that are left and of what was made so far.
use Rattle.std.proofs.Common.{◌≡◌, length}
use Rattle.value_core.specs.Combs.{comb}
use Rattle.data_nodes.specs.Printing.{paired}
use Rattle.data_nodes.proofs.printer.pairs.Given as goal

abbrev pub invariant-loop-part : goal.invariant-loop-part
invariant-loop-part l = comb paired l.fn.firsts l.fn.last ≡ comb paired l.firsts l.made

abbrev pub decreases-loop-part : goal.decreases-loop-part
decreases-loop-part l = length l.firsts
