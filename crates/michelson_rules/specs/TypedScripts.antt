-- Calls of typed scripts: what they begin with, and what is true of what they return.
use Rattle.std.specs.Prelude.{◌≡◌, List, [], ◌∷◌, Bool, true, not, ◌&&◌, IsTrue, Some, ⊤}
use Rattle.std.specs.List.{AllByRecursion, slice_get}
use Rattle.std.specs.Ordering.{is_gt, is_lt}
use Rattle.value_core.specs.declared.ty.Ty.{Ty}
use Rattle.value_core.specs.declared.ty.Ty.TheVariants as type
use Rattle.value_core.specs.declared.val.Emit.{Emit}
use Rattle.value_core.specs.declared.val.Val.{Val}
use Rattle.value_core.specs.declared.val.Val.TheVariants as value
use Rattle.value_core.specs.BigMaps.{big_maps_of, is_placed}
use Rattle.value_core.specs.Settled.{is_settled}
use Rattle.value_core.specs.Sound.{is_plain}
use Rattle.value_core.specs.Typed.{has_type}
use Rattle.michelson_code.specs.declared.script.Script.{Script}
use Rattle.michelson_code.specs.declared.why.Why.{Why}
use Rattle.michelson_code.specs.TypedScript.{IsTypedScript}
use Rattle.michelson_rules.specs.declared.ask.Env.{Env}
use Rattle.michelson_rules.specs.Metered.{Asked, Ended, Outcome}
use Rattle.michelson_rules.specs.Returned.{Change, Returned, change_order, returned}
use Rattle.michelson_rules.specs.Runs.{Beside, Failed, Missed, Return}
use Rattle.michelson_rules.specs.TypedValues.{FitsMaps, IsChangeOf, IsInRange}
use Rattle.michelson_rules.specs.World.{World}

-- a call of a typed script: its param and storage have the script's types, and each big map stands at its own place, unchanged
pub record IsTypedCall (s : Script) (env : Env) (w : World) (param storage : Val) : Type 0 where
  pub script : IsTypedScript s
  pub param_typed : IsTrue (has_type param s.param)
  pub storage_typed : IsTrue (has_type storage s.storage)
  pub places : IsTrue (is_placed storage s.storage)
  pub settled : IsTrue (is_settled storage)
  pub range : IsInRange env
  pub maps : FitsMaps (big_maps_of s.storage) w

-- ---- what is returned

-- each change is not above the next, by place and then by key
abbrev pub changes_ascend : List Change → Bool
changes_ascend [] = true
changes_ascend (a ∷ []) = true
changes_ascend (a ∷ b ∷ more) = not (is_gt (change_order a b)) && changes_ascend (b ∷ more)

-- each change is below the next, so nothing is changed twice
abbrev pub changes_rise : List Change → Bool
changes_rise [] = true
changes_rise (a ∷ []) = true
changes_rise (a ∷ b ∷ more) = is_lt (change_order a b) && changes_rise (b ∷ more)

-- a change has a key and an item of the types of its place
abbrev pub IsChangeIn : List (Ty × Ty) → Change → Type 0
IsChangeIn maps c = (k t : Ty) × (slice_get maps c.0 ≡ Some (k, t)) × IsChangeOf k t (c.1, c.2)

-- an operation is one that may stand in a list of operations
abbrev pub IsEmitted : Emit → Type 0
IsEmitted emit = IsTrue (has_type (value.Operation emit) type.Operation)

-- what is returned has the script's types, without versions and with its changes in order; where no big map was moved nothing is changed twice
pub record IsTypedReturn (s : Script) (r : Returned) : Type 0 where
  pub storage : IsTrue (has_type r.storage s.storage)
  pub plain : IsTrue (is_plain r.storage)
  pub ascending : IsTrue (changes_ascend r.changes)
  pub changes : AllByRecursion (IsChangeIn (big_maps_of s.storage)) r.changes
  pub once : IsTrue (is_placed r.storage s.storage) → IsTrue (changes_rise r.changes)
  pub ops : AllByRecursion IsEmitted r.ops

-- the stack at the end returns something, which is so typed
abbrev pub ReturnsTyped : Script → List Val → Beside → Type 0
ReturnsTyped s stack beside = (r : Returned) × (returned beside.versions stack ≡ Some r) × IsTypedReturn s r

-- whatever a run comes to returns is so, whatever is asked on the way
abbrev pub WhereReturned : {A : Type 0} → (A → Beside → Type 0) → Outcome A → Type 0
WhereReturned P (Ended (Return a beside) left) = P a beside
WhereReturned P (Ended (Failed y) left) = ⊤
WhereReturned P (Ended Missed left) = ⊤
WhereReturned P (Asked a left next) = WhereReturned P next

-- whatever a run comes to, it fails for such a cause alone
abbrev pub WhereFailed : {A : Type 0} → (Why → Type 0) → Outcome A → Type 0
WhereFailed P (Ended (Return a beside) left) = ⊤
WhereFailed P (Ended (Failed y) left) = P y
WhereFailed P (Ended Missed left) = ⊤
WhereFailed P (Asked a left next) = WhereFailed P next
