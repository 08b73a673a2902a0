-- Trees as callers see them: the changes that were made, and those of each tree.
use Rattle.std.specs.Prelude.{◌≡◌, ℕ, ◌<◌, ◌≤◌, List, ◌∷◌, ◌++◌, length}
use Rattle.value_core.specs.Order.{order}
use Rattle.value_core.specs.Sorted.{put}
use Rattle.michelson_rules.specs.Runs.{Changes, changes_of}
use Rattle.map_versions.specs.Changed.{change_at}

-- the changes that were made, and those of each tree from the first node on
pub record Forest : Type 0 where
  pub made : Changes
  pub trees : List Changes

-- no change more, and more trees behind those of before
pub record Grows (old new : Forest) : Type 0 where
  pub made : new.made ≡ old.made
  pub more : List Changes
  pub trees : new.trees ≡ old.trees ++ more

-- a tree and its changes
pub record IsTree (f : Forest) (tree : ℕ) (changes : Changes) : Type 0 where
  pub within : tree ≤ length f.trees
  pub is : changes_of tree f.trees ≡ changes

-- two trees and a change, which may be joined
pub record AreThere (f : Forest) (left change right : ℕ) : Type 0 where
  pub left_within : left ≤ length f.trees
  pub change_within : change < length f.made
  pub right_within : right ≤ length f.trees

-- the changes of two trees and one between them
abbrev pub joined : Forest → ℕ → ℕ → ℕ → Changes
joined f left change right = changes_of left f.trees ++ change_at f.made change ∷ changes_of right f.trees

-- the changes of a tree with one more
abbrev pub changed : Forest → ℕ → ℕ → Changes
changed f tree change = put order (change_at f.made change).0 (change_at f.made change).1 (changes_of tree f.trees)
