-- Results that are tested for their size: which they are, and how large they may be.
use Rattle.std.specs.Prelude.{◌≤◌, Bool, true, false, List, [], ◌∷◌, ⊤}
use Rattle.value_core.specs.declared.val.Val.{Val}
use Rattle.value_core.specs.Size.{size_of}
use Rattle.michelson_code.specs.declared.instr.Instr.TheOpen as one
use Rattle.michelson_code.specs.declared.instr.Instr.TheOpen.{Instr-F}
use Rattle.michelson_rules.specs.Answers.{Answer, Gives}
use Rattle.michelson_rules.specs.Runs.{Ending, Return}

-- the instructions whose results are tested for their size; of `GET_AND_UPDATE` it is the map
abbrev pub tests_size : {A : Type 0} → Instr-F A → Bool
tests_size one.Pair = true
tests_size (one.PairN n) = true
tests_size one.Cons = true
tests_size one.Concat = true
tests_size one.Update = true
tests_size one.TransferTokens = true
tests_size _ = false

-- at most 4,096 leaves
abbrev pub IsSmall : Val → Type 0
IsSmall v = size_of v ≤ 4096

-- the one result is small
abbrev pub GivesSmall : Answer → Type 0
GivesSmall (Gives (v ∷ [])) = IsSmall v
GivesSmall (Gives vs) = ⊥
GivesSmall _ = ⊤

-- the second of two results is small
abbrev pub GivesSmallBelow : Answer → Type 0
GivesSmallBelow (Gives (old ∷ v ∷ [])) = IsSmall v
GivesSmallBelow (Gives vs) = ⊥
GivesSmallBelow _ = ⊤

-- what is returned has a small value on top
abbrev pub ReturnsSmall : Ending (List Val) → Type 0
ReturnsSmall (Return (v ∷ stack) beside) = IsSmall v
ReturnsSmall (Return [] beside) = ⊥
ReturnsSmall _ = ⊤
