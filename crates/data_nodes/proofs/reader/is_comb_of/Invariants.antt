-- The items are as many where those that are left are.
use Rattle.std.proofs.Common.{◌≡◌, length, map}
use Rattle.data_nodes.specs.Readers.{is_comb_of}
use Rattle.data_nodes.specs.Faults.{reader}
use Rattle.data_nodes.proofs.reader.is_comb_of.Given as goal

abbrev pub invariant-loop-left : goal.invariant-loop-left
invariant-loop-left l = is_comb_of (map reader l.left) l.behind ≡ is_comb_of (map reader l.fn.nodes) l.fn.t

abbrev pub decreases-loop-left : goal.decreases-loop-left
decreases-loop-left l = length l.left
