-- Numbered trees: nodes, each of which names its sides by the numbers of those before it. Number 0 is the empty tree, n the n-th node.
use Rattle.std.specs.Prelude.{◌≡◌, ℕ, ◌+◌, ◌<◌, ◌≤◌, Bool, true, ◌&&◌, List, [], ◌∷◌, ◌++◌, length, nat_le, nat_lt}
use Rattle.michelson_rules.specs.Runs.{Changes, changes_of}
use Rattle.map_versions.specs.declared.trees.Node.{Node}
use Rattle.map_versions.specs.Forest.{Forest, joined}

-- the changes of a node: those of its left side, its own, and those of its right side
abbrev pub under : Changes → List Changes → Node → Changes
under made trees node = joined (record { made = made; trees = trees }) node.left node.change node.right

-- the changes of each node, behind those of nodes before
abbrev pub trees_from : Changes → List Changes → List Node → List Changes
trees_from made trees [] = trees
trees_from made trees (node ∷ nodes) = trees_from made (trees ++ under made trees node ∷ []) nodes

-- the change of a node is among so many, and its sides are among so many trees
abbrev pub stands : ℕ → ℕ → Node → Bool
stands changes trees node = nat_lt node.change changes && (nat_le node.left trees && nat_le node.right trees)

-- each node stands behind its sides
abbrev pub all_stand : ℕ → ℕ → List Node → Bool
all_stand changes trees [] = true
all_stand changes trees (node ∷ nodes) = stands changes trees node && all_stand changes (trees + 1) nodes

-- the node of a tree
pub record IsNode (f : Forest) (tree : ℕ) (node : Node) : Type 0 where
  pub within : tree ≤ length f.trees
  pub left_below : node.left < tree
  pub right_below : node.right < tree
  pub change_within : node.change < length f.made
  pub is : changes_of tree f.trees ≡ joined f node.left node.change node.right
