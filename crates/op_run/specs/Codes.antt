-- What follows where a code begins, looks at a cell, ends and returns.
use Rattle.std.specs.Prelude.{◌≡◌, ℕ, ◌<◌, ◌≤◌, List, Option, Some, None}
use Rattle.std.specs.FinMap.{get}
use Rattle.std.specs.List.{AllByRecursion}
use Rattle.value_core.specs.declared.val.Emit.{Emit}
use Rattle.value_core.specs.declared.val.Val.{Val}
use Rattle.michelson_rules.specs.declared.ask.Ask.{Ask}
use Rattle.michelson_rules.specs.Metered.{NeverMisses, Outcome}
use Rattle.michelson_rules.specs.Returned.{Change, Returned}
use Rattle.michelson_rules.specs.TypedScripts.{IsTypedReturn}
use Rattle.michelson_rules.specs.World.{World, reply_of}
use Rattle.michelson_machine.specs.declared.end.End.{End}
use Rattle.michelson_machine.specs.declared.end.Turn.{Turn}
use Rattle.michelson_machine.specs.declared.machine.Machine.{Machine}
use Rattle.michelson_machine.specs.Ends.{IsEnd}
use Rattle.michelson_machine.specs.Outcomes as machines
use Rattle.michelson_machine.specs.Outcomes.{Turns, answered_by, asked_in, awaits, outcome}
use Rattle.cell_names.specs.Contents.{Contents}
use Rattle.code_book.specs.Books.{Contracts}
use Rattle.michelson_code.specs.declared.script.Script.{Script}
use Rattle.op_rules.specs.CodeRule.{access_for, after_code, looking}
use Rattle.op_rules.specs.Course.{Serial}
use Rattle.op_rules.specs.WriteRule.{returning}
use Rattle.op_rules.specs.Worlds.{world_of}
use Rattle.op_run.specs.declared.phase.Code.{Code}
use Rattle.op_run.specs.declared.state.State.{State}
use Rattle.op_run.specs.Phases.{code_goes, onward}
use Rattle.op_run.specs.Safe.{Behaves, IsMoney, Safe}
use Rattle.op_run.specs.States.{course_of, outcome_of}
use Rattle.op_run.specs.Steps.{AllFit}

-- on cells that fit the book the code of a contract misses nothing, and what it returns has the script's types
abbrev pub BeginsSafe : Contracts → List ℕ → Script → Machine → Type 0
BeginsSafe book dest script n = (m : Contents) → AllFit book m → get book dest ≡ Some script → Behaves script (outcome (world_of book m dest) n)

-- what comes of a code that asks, and then goes on as the cells answer
abbrev pub looked_at : State → Code → Ask → Contents → Serial
looked_at s c ask m =
    looking (access_for c.dest ask) (code_goes s.book.now s.head s.op.now.source s.calls s.pending c (λ w. answered_by w c.machine (reply_of w ask)))
    m (record { left = c.machine.state.left; past = s.log })

-- the code behaves as the cells answer, and the transfers that wait have amounts of money
pub record SafeLook (s : State) (c : Code) (ask : Ask) (m : Contents) : Type 0 where
  pub now : Behaves c.code.now.script (answered_by (world_of s.book.now m c.dest) c.machine (reply_of (world_of s.book.now m c.dest) ask))
  pub pending : AllByRecursion IsMoney s.pending

abbrev pub LooksOn : State → Code → Ask → State → Type 0
LooksOn old c ask new = (m : Contents) → AllFit old.book.now m → SafeLook old c ask m → looked_at old c ask m ≡ outcome_of new m

abbrev pub LooksSafe : State → Code → Ask → State → Type 0
LooksSafe old c ask new = (m : Contents) → AllFit old.book.now m → SafeLook old c ask m → Safe new m

-- the same code, told the answer to its question
pub record IsTold (before : Code) (answer : Option Val) (after : Code) : Type 0 where
  pub code : after ≡ record before { machine = after.machine }
  pub same : (w : World) → outcome w after.machine ≡ answered_by w before.machine answer
  pub free : awaits after.machine ≡ None
  pub nearer : machines.work after.machine < machines.work before.machine

-- what a turn says of a machine that runs on
abbrev pub TurnsInto : Machine → Turn → Machine → Type 0
TurnsInto old t new = (w : World) → NeverMisses (outcome w old) → Turns w t (outcome w old) new

-- the same code, a turn later
pub record HasTurned (before : Code) (t : Turn) (after : Code) : Type 0 where
  pub code : after ≡ record before { machine = after.machine }
  pub turns : TurnsInto before.machine t after.machine
  pub asks : awaits after.machine ≡ asked_in t
  pub nearer : machines.work after.machine ≤ machines.work before.machine

-- ---- ends

-- what comes of a code whose run comes to this
abbrev pub closed_at : State → Code → Outcome (List Val) → Contents → Serial
closed_at s c o m =
    after_code c.dest o (returning c.dest c.code.now.script c.stored (onward s.book.now s.head s.op.now.source s.calls s.pending)) m s.log

-- it behaves, and the transfers that wait have amounts of money
pub record SafeClose (s : State) (c : Code) (o : Outcome (List Val)) : Type 0 where
  pub now : Behaves c.code.now.script o
  pub pending : AllByRecursion IsMoney s.pending

abbrev pub ClosesOn : State → Code → End → State → Type 0
ClosesOn old c end new = (m : Contents) → AllFit old.book.now m → (o : Outcome (List Val)) → IsEnd o end → SafeClose old c o → closed_at old c o m ≡ outcome_of new m

abbrev pub ClosesSafe : State → Code → End → State → Type 0
ClosesSafe old c end new = (m : Contents) → AllFit old.book.now m → (o : Outcome (List Val)) → IsEnd o end → SafeClose old c o → Safe new m

-- ---- what is returned

abbrev pub returns : List Emit → Val → List Change → Returned
returns ops storage changes = record { ops = ops; storage = storage; changes = changes }

-- what comes of a code that returns
abbrev pub kept_at : State → Code → Returned → Contents → Serial
kept_at s c r m =
    returning c.dest c.code.now.script c.stored (onward s.book.now s.head s.op.now.source s.calls s.pending) r m (course_of s)

-- what is returned has the script's types, and the transfers that wait have amounts of money
pub record SafeKeep (s : State) (c : Code) (r : Returned) : Type 0 where
  pub now : ∥ IsTypedReturn c.code.now.script r ∥₁
  pub pending : AllByRecursion IsMoney s.pending

abbrev pub KeepsOn : State → Code → Returned → State → Type 0
KeepsOn old c r new = (m : Contents) → AllFit old.book.now m → SafeKeep old c r → kept_at old c r m ≡ outcome_of new m

abbrev pub KeepsSafe : State → Code → Returned → State → Type 0
KeepsSafe old c r new = (m : Contents) → AllFit old.book.now m → SafeKeep old c r → Safe new m
