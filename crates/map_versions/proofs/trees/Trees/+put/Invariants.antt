-- The sides of a node stand before it.
use Rattle.map_versions.proofs.trees.Trees.+put.Given as goal

abbrev pub decreases-put : goal.decreases-put
decreases-put l = l.tree
