-- The sides of a node stand before it.
use Rattle.map_versions.proofs.trees.Trees.+find.Given as goal

abbrev pub decreases-find : goal.decreases-find
decreases-find l = l.tree
