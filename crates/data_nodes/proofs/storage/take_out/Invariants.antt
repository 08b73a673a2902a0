-- What was taken stands before the entries that are left, from the last one on.
use Rattle.std.proofs.Common.{◌≡◌, ◌++◌, length, map, reverse}
use Rattle.data_nodes.proofs.storage.take_out.Given as goal

abbrev pub invariant-loop-k : goal.invariant-loop-k
invariant-loop-k l = l.taken.items ++ map (λ e. (l.place, e.0, e.1)) (reverse l.left) ≡ map (λ e. (l.place, e.0, e.1)) (reverse l.fn.pairs)

abbrev pub decreases-loop-k : goal.decreases-loop-k
decreases-loop-k l = length l.left
