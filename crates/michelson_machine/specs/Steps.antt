-- What a step leaves of a run.
use Rattle.std.specs.Prelude.{◌≡◌, ℕ, ◌∷◌, ◌+◌, ◌≤◌, List, Option, Some, None, Result, IfOk}
use Rattle.value_core.specs.declared.val.Val.TheViews.{out-Val}
use Rattle.value_core.specs.declared.val.Val.{Val}
use Rattle.value_core.specs.declared.val.Val.TheOpen as is
use Rattle.value_core.specs.Layer.{Layer}
use Rattle.value_core.specs.Sorted.{keys_of}
use Rattle.michelson_code.specs.declared.instr.Instr.{Instr}
use Rattle.michelson_code.specs.declared.instr.Instr.TheFolds.{map-Instr}
use Rattle.michelson_code.specs.declared.instr.Instr.TheOpen.{Instr-F}
use Rattle.michelson_code.specs.declared.instr.Instr.TheViews.{out-Instr}
use Rattle.michelson_rules.specs.Answers.{Answered}
use Rattle.michelson_rules.specs.BigMaps.{Keyed}
use Rattle.michelson_rules.specs.Rules.{act, answered, charges, rule, rules}
use Rattle.michelson_rules.specs.World.{World, reply_of}
use Rattle.michelson_rules.specs.Runs.{Beside, Failed, Return, Run, ends, in_a_turn, then_do}
use Rattle.michelson_rules.specs.Bodies.{Meaning}
use Rattle.michelson_rules.specs.Metered.{Asked, Ended, NeverMisses, Outcome}
use Rattle.michelson_machine.specs.declared.frame.Frame.{Frame}
use Rattle.michelson_machine.specs.declared.look.Key.{Key}
use Rattle.michelson_machine.specs.declared.state.State.{State}
use Rattle.michelson_machine.specs.declared.state.Step.{Step}
use Rattle.michelson_machine.specs.declared.state.Step.TheVariants as step
use Rattle.michelson_machine.specs.Resume.{does, answer_does, ask_of, beside_of, first, outcome_at, work_at}

-- what a step says of what comes
abbrev pub Foretells : World → Step → Outcome (List Val) → State → Type 0
Foretells w step.On before m = before ≡ outcome_at w m
Foretells w (step.Ask look) before m = before ≡ Asked (ask_of look) m.left (first w (answer_does look (reply_of w (ask_of look))) m)
Foretells w (step.Fail y) before m = before ≡ Ended (Failed y) m.left
Foretells w step.Return before m = before ≡ Ended (Return m.stack (beside_of m)) m.left

-- where this is done first and nothing is missed, a step says what comes, in every world
abbrev pub Enacts : {E : Type 0} → (World → Meaning) → State → State → Result Step E → Type 0
Enacts meaning old new result = IfOk result (λ step. (w : World) → NeverMisses (first w (meaning w) old) → Foretells w step (first w (meaning w) old) new)

-- the same of the next step
abbrev pub Resumes : {E : Type 0} → State → State → Result Step E → Type 0
Resumes old new result = IfOk result (λ step. (w : World) → NeverMisses (outcome_at w old) → Foretells w step (outcome_at w old) new)

-- what a step that isn't the last takes from the work
abbrev pub toll : Step → ℕ
toll step.On = 1
toll (step.Ask look) = 1
toll (step.Fail y) = 0
toll step.Return = 0

-- the work has fallen but for so much
abbrev pub Nearer : {E : Type 0} → ℕ → State → State → Result Step E → Type 0
Nearer n old new result = IfOk result (λ step. work_at new + toll step ≤ work_at old + n)

-- what a code does in a state
abbrev pub runs : State → World → List Instr → Meaning
runs m w = rules charges m.script.now m.env w

-- what a frame does in a state
abbrev pub follows : State → World → Frame → Meaning
follows m w = does m.script.now m.env w

-- a body for a turn, and then the next
abbrev pub started : Meaning → Meaning → Meaning
started body next stack = in_a_turn (λ b. then_do (body stack b) next)

-- what is made of operands alone, in every world
abbrev pub plainly : (List Val → Answered) → World → Meaning
plainly f w stack = answered (f stack)

-- the keys of a map; a list has none, and nothing else is mapped
abbrev pub keys_in : Layer Val → Option (Option (List Val))
keys_in (is.List items) = Some None
keys_in (is.Map entries) = Some (Some (keys_of entries))
keys_in _ = None

-- what one level of an instruction does in a state, once it is paid for
abbrev pub act_at : State → World → Instr-F Instr → Meaning
act_at m w x = act charges m.script.now m.env w (map-Instr Instr Meaning (rule charges m.script.now m.env w) x)

-- what an instruction does in a state, once it is paid for
abbrev pub acted : State → World → Instr → Meaning
acted m w i = act_at m w (out-Instr i)

-- ---- big maps

-- a key, with the stack below the big map
abbrev pub keyed_on : Key → List Val → Keyed
keyed_on k stack = record { key = k.key; place = k.place; version = k.version; below = stack }

-- an item on a stack, and a value above it where there is one
abbrev pub above : Option Val → List Val → Val → List Val
above None stack m = m ∷ stack
above (Some old) stack m = old ∷ m ∷ stack

-- the stack is this
abbrev pub ends_on : List Val → Beside → Run (List Val)
ends_on stack beside = ends (Return stack beside)

-- the place and the version of a big map
abbrev pub place_at : Layer Val → Option (ℕ × ℕ)
place_at (is.BigMap place version) = Some (place, version)
place_at _ = None

-- of a value that may be there
abbrev pub place_in : Option Val → Option (ℕ × ℕ)
place_in None = None
place_in (Some v) = place_at (out-Val v)
