-- A big map with a change: its version, what stands beside, and that its changes ascend.
use Rattle.std.specs.Prelude.{List, ℕ, suc, [], ◌∷◌, ◌++◌, length, IsTrue, Option, ⊤}
use Rattle.std.specs.List.{AllByRecursion}
use Rattle.value_core.specs.declared.val.Val.{Val}
use Rattle.value_core.specs.Order.{order}
use Rattle.value_core.specs.Sorted.{keys_of, put}
use Rattle.value_core.specs.Sound.{ascends}
use Rattle.michelson_rules.specs.BigMaps.{Keyed}
use Rattle.michelson_rules.specs.Runs.{Beside, Changes, Ending, Return, changes_of}

-- a key, and a version of a big map at the place
abbrev pub key_in : Val → ℕ → ℕ → Keyed
key_in key place version = record { key = key; place = place; version = version; below = [] }

-- the version that a change makes
abbrev pub next_version : Beside → ℕ
next_version beside = suc (length beside.versions)

-- what stands beside after a change
abbrev pub beside_after : Keyed → Option Val → Beside → Beside
beside_after k choice beside =
    record { turns = beside.turns; versions = beside.versions ++ put order k.key choice (changes_of k.version beside.versions) ∷ [] }

-- changes ascend by key
abbrev pub AreAscending : Changes → Type 0
AreAscending changes = IsTrue (ascends (keys_of changes))

-- so do those of each version
abbrev pub AllAscend : List Changes → Type 0
AllAscend versions = AllByRecursion AreAscending versions

-- and those that are returned
abbrev pub ReturnsAscending : {A : Type 0} → Ending A → Type 0
ReturnsAscending (Return a beside) = AllAscend beside.versions
ReturnsAscending _ = ⊤
