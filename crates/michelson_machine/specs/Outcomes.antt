-- What comes of a machine, and what a turn says of it.
use Rattle.std.specs.Prelude.{◌≡◌, ℕ, ◌+◌, ◌*◌, List, Bool, true, false, Option, Some, None}
use Rattle.value_core.specs.declared.val.Val.{Val}
use Rattle.michelson_rules.specs.declared.ask.Ask.{Ask}
use Rattle.michelson_rules.specs.World.{World, reply_of}
use Rattle.michelson_rules.specs.Runs.{Missed}
use Rattle.michelson_rules.specs.Metered.{Asked, Ended, Outcome}
use Rattle.michelson_machine.specs.declared.end.Turn.{Turn}
use Rattle.michelson_machine.specs.declared.end.Turn.TheVariants as turn
use Rattle.michelson_machine.specs.declared.machine.Machine.{Machine}
use Rattle.michelson_machine.specs.declared.machine.Phase.{Phase}
use Rattle.michelson_machine.specs.declared.machine.Phase.TheVariants as phase
use Rattle.michelson_machine.specs.declared.state.State.{State}
use Rattle.michelson_machine.specs.Ends.{IsEnd}
use Rattle.michelson_machine.specs.Resume.{answer_does, ask_of, first, outcome_at, work_at}

-- of a state in a phase
abbrev pub come_of : World → State → Phase → Outcome (List Val)
come_of w s phase.Ready = outcome_at w s
come_of w s (phase.Told look v) = first w (answer_does look v) s
come_of w s (phase.Awaits look) = Ended Missed s.left
come_of w s phase.Spent = Ended Missed s.left

-- what comes of a machine that awaits nothing and isn't done
abbrev pub outcome : World → Machine → Outcome (List Val)
outcome w m = come_of w m.state m.phase

-- in a phase
abbrev pub is_ready_in : Phase → Bool
is_ready_in phase.Ready = true
is_ready_in (phase.Told look v) = true
is_ready_in (phase.Awaits look) = false
is_ready_in phase.Spent = false

-- a machine awaits nothing and isn't done
abbrev pub is_ready : Machine → Bool
is_ready m = is_ready_in m.phase

-- a machine is done, or wanted memory
abbrev pub IsSpent : Machine → Type 0
IsSpent m = m.phase ≡ phase.Spent

-- in a phase
abbrev pub awaited_in : Phase → Option Ask
awaited_in (phase.Awaits look) = Some (ask_of look)
awaited_in _ = None

-- the question whose answer a machine awaits
abbrev pub awaits : Machine → Option Ask
awaits m = awaited_in m.phase

-- the question that a turn asks
abbrev pub asked_in : Turn → Option Ask
asked_in (turn.Ask a) = Some a
asked_in (turn.Done e) = None

-- of a state in a phase
abbrev pub told_in : World → State → Option Val → Phase → Outcome (List Val)
told_in w s v (phase.Awaits look) = first w (answer_does look v) s
told_in w s v _ = Ended Missed s.left

-- what comes of a machine that awaits an answer, after this one
abbrev pub answered_by : World → Machine → Option Val → Outcome (List Val)
answered_by w m v = told_in w m.state v m.phase

-- a question is asked, with what is left, and what comes after its answer; or the end is told
abbrev pub Turns : World → Turn → Outcome (List Val) → Machine → Type 0
Turns w (turn.Ask a) before m = before ≡ Asked a m.state.left (answered_by w m (reply_of w a))
Turns w (turn.Done e) before m = IsEnd before e

-- a wait counts for one
abbrev pub wait_in : Phase → ℕ
wait_in (phase.Awaits look) = 1
wait_in _ = 0

-- what falls with each answer
abbrev pub work : Machine → ℕ
work m = 2 * work_at m.state + wait_in m.phase
