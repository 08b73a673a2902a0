-- What is left of a run, from a state of the machine.
use Rattle.std.specs.Prelude.{ℕ, ◌+◌, ◌*◌, List, [], ◌∷◌, ◌++◌, length, reverse, Option, Some, None, is_some}
use Rattle.value_core.specs.declared.val.Val.{Val}
use Rattle.value_core.specs.declared.val.Val.TheVariants as value
use Rattle.value_core.specs.Layer.{Layer}
use Rattle.michelson_code.specs.declared.script.Script.{Script}
use Rattle.michelson_rules.specs.declared.ask.Ask.{Ask}
use Rattle.michelson_rules.specs.declared.ask.Ask.TheVariants as ask
use Rattle.michelson_rules.specs.declared.ask.Env.{Env}
use Rattle.michelson_rules.specs.World.{World}
use Rattle.michelson_rules.specs.Runs.{Beside, Missed, Return, Run, Take, ends, marked, then_do}
use Rattle.michelson_rules.specs.Answers.{sized}
use Rattle.michelson_rules.specs.Collections.{option}
use Rattle.michelson_rules.specs.BigMaps.{Keyed, room_of, with_change}
use Rattle.michelson_rules.specs.Bodies.{Again, Meaning, each, looped, results, while_left, while_true}
use Rattle.michelson_rules.specs.Rules.{answered, charges, rules}
use Rattle.michelson_rules.specs.Metered.{Outcome, outcome_of}
use Rattle.michelson_machine.specs.declared.frame.While.{While}
use Rattle.michelson_machine.specs.declared.frame.While.TheVariants as while
use Rattle.michelson_machine.specs.declared.frame.Frame.{Frame}
use Rattle.michelson_machine.specs.declared.frame.Frame.TheVariants as frame
use Rattle.michelson_machine.specs.declared.look.Change.{Change}
use Rattle.michelson_machine.specs.declared.look.Look.{Look}
use Rattle.michelson_machine.specs.declared.look.Look.TheVariants as look
use Rattle.michelson_machine.specs.declared.state.State.{State}

-- ---- frames

-- when a loop goes on
abbrev pub loops_on : While → Layer Val → List Val → Again
loops_on while.True = while_true
loops_on while.Left = while_left

-- keys with these values
abbrev pub entries_of : List Val → List Val → List (Val × Val)
entries_of [] vs = []
entries_of (k ∷ ks) [] = []
entries_of (k ∷ ks) (v ∷ vs) = (k, v) ∷ entries_of ks vs

-- a list of results, or a map of keys with them
abbrev pub made_of : Option (List Val) → List Val → Val
made_of None vs = value.List vs
made_of (Some keys) vs = value.Map (entries_of keys vs)

-- what `MAP` leaves in the end
abbrev pub finished : Option (List Val) → List Val → Meaning
finished keys vs stack = answered (sized (made_of keys vs), stack)

-- `MAP` on the items that are left, after some results
abbrev pub mapping : Meaning → Option (List Val) → List Val → List Val → Meaning
mapping body keys done items stack beside = then_do (results body items stack beside) (λ r. finished keys (done ++ r.0) r.1)

-- what is made of the item on top and the stack below it
abbrev pub with_top : (Val → Meaning) → Meaning
with_top f (x ∷ stack) beside = f x stack beside
with_top f [] beside = ends Missed

module _ (s : Script) (env : Env) (w : World) where
  -- what a frame does
  abbrev pub does : Frame → Meaning
  does (frame.Rest code) stack beside = rules charges s env w code.now stack beside
  does (frame.Under x) stack beside = ends (Return (x ∷ stack) beside)
  does (frame.UnderAll xs) stack beside = ends (Return (reverse xs ++ stack) beside)
  does (frame.Again while body) stack beside = looped (loops_on while) (rules charges s env w body.now) stack beside
  does (frame.Each body items) stack beside = each (rules charges s env w body.now) items stack beside
  does (frame.Mapping m) stack beside = with_top (λ y. mapping (rules charges s env w m.body.now) m.keys (m.done ++ y ∷ []) m.items) stack beside

  -- what frames do, from the top down
  abbrev pub resumed : List Frame → Meaning
  resumed [] stack beside = ends (Return stack beside)
  resumed (f ∷ frames) stack beside = then_do (does f stack beside) (resumed frames)

-- ---- states

-- what goes along with the stack
abbrev pub beside_of : State → Beside
beside_of m = record { turns = m.left.turns; versions = m.versions }

-- what comes of a state
abbrev pub outcome_at : World → State → Outcome (List Val)
outcome_at w m = outcome_of m.left (resumed m.script.now m.env w m.frames m.stack (beside_of m))

-- what comes of a state in which something is done first
abbrev pub first : World → Meaning → State → Outcome (List Val)
first w meaning m = outcome_of m.left (then_do (meaning m.stack (beside_of m)) (resumed m.script.now m.env w m.frames))

-- ---- questions

-- the question that is open
abbrev pub ask_of : Look → Ask
ask_of (look.Has place key) = ask.Entry place key
ask_of (look.Get place key) = ask.Entry place key
ask_of (look.Change c) = ask.Entry c.place c.key
ask_of look.Balance = ask.Balance
ask_of (look.Contract address entry ty) = ask.Contract address entry ty.now

-- room is taken, and then this is the stack
abbrev pub taken : ℕ → List Val → Beside → Run (List Val)
taken n stack beside = marked (Take n) (ends (Return stack beside))

-- the key of a change, with the stack below the big map
abbrev pub changed_on : Change → List Val → Keyed
changed_on c stack = record { key = c.key; place = c.place; version = c.version; below = stack }

-- a change of a big map, and what then stands on the stack
abbrev pub changing : Change → (Val → List Val) → List Val → Beside → Run (List Val)
changing c leaves stack beside = then_do (with_change (changed_on c stack) c.choice beside) (λ m b. ends (Return (leaves m) b))

-- what is done after an answer
abbrev pub answer_does : Look → Option Val → Meaning
answer_does (look.Has place key) v stack beside = taken (room_of key v) (value.Bool (is_some v) ∷ stack) beside
answer_does (look.Get place key) v stack beside = taken (room_of key v) (option v ∷ stack) beside
answer_does (look.Change c) v stack beside =
    marked (Take (room_of c.key v)) (changing c (λ m. option v ∷ m ∷ stack) stack beside)
answer_does look.Balance (Some v) stack beside = taken 1 (v ∷ stack) beside
answer_does look.Balance None stack beside = ends Missed
answer_does (look.Contract address entry ty) v stack beside = ends (Return (option v ∷ stack) beside)

-- what falls with each step: each instruction costs gas, each start of a body a turn
abbrev pub work_at : State → ℕ
work_at m = 4 * (m.left.gas + m.left.turns) + length m.frames
