-- The sides of a node stand before it.
use Rattle.map_versions.proofs.trees.Trees.+copy_into.Given as goal

abbrev pub decreases-copy_into : goal.decreases-copy_into
decreases-copy_into l = l.tree
