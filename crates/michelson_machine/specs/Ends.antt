-- What the end of a run says of what comes of it.
use Rattle.std.specs.Prelude.{◌≡◌, ℕ, List, ◌++◌, Some}
use Rattle.value_core.specs.declared.val.Val.{Val}
use Rattle.michelson_rules.specs.Runs.{Failed, Return}
use Rattle.michelson_rules.specs.Metered.{Ended, Outcome}
use Rattle.michelson_rules.specs.Returned.{big_maps_in, returned, unversioned}
use Rattle.michelson_machine.specs.declared.end.End.{End}
use Rattle.michelson_machine.specs.declared.end.End.TheVariants as end

-- a return gives what is returned, a failure its cause, and both what is left
abbrev pub IsEnd : Outcome (List Val) → End → Type 0
IsEnd (Ended (Return stack beside) left) (end.Return ops storage changes rest) =
    (returned beside.versions stack ≡ Some (record { ops = ops; storage = storage; changes = changes })) × (rest ≡ left)
IsEnd (Ended (Failed y) left) (end.Fail why rest) = (why ≡ y) × (rest ≡ left)
IsEnd _ _ = ⊥

-- an entry whose big maps have no versions
abbrev pub unversioned_entry : Val × Val → Val × Val
unversioned_entry e = (unversioned e.0, unversioned e.1)

-- the big maps of an entry
abbrev pub big_maps_of_entry : Val × Val → List (ℕ × ℕ)
big_maps_of_entry e = big_maps_in e.0 ++ big_maps_in e.1
