-- Versions as trees: each has a root, and the changes of that tree.
use Rattle.std.specs.Prelude.{ℕ, zero, suc, Bool, ◌&&◌, List, get_or, length, map, nat_le}
use Rattle.value_core.specs.Sorted.{keys_of}
use Rattle.value_core.specs.Sound.{ascends}
use Rattle.michelson_rules.specs.Runs.{Changes, changes_of}

-- the changes of each version, by its root
abbrev pub versions_of : List Changes → List ℕ → List Changes
versions_of trees roots = map (λ root. changes_of root trees) roots

-- the root of a version; where there is no version, the empty tree
abbrev pub root_of : ℕ → List ℕ → ℕ
root_of zero roots = 0
root_of (suc n) roots = get_or roots n 0

-- a root is one of the trees, and its changes ascend by key
abbrev pub is_root : List Changes → ℕ → Bool
is_root trees root = nat_le root (length trees) && ascends (keys_of (changes_of root trees))
