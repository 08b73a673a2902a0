-- What a step of a run says: what comes of it stays, and what falls.
use Rattle.std.specs.Prelude.{◌≡◌, ℕ, ◌+◌, ◌*◌, ◌^◌, length, true, Some}
use Rattle.std.specs.FinMap.{get}
use Rattle.value_core.specs.declared.val.Val.{Val}
use Rattle.michelson_machine.specs.Outcomes as machine
use Rattle.cell_names.specs.declared.cell.Cell.{Cell}
use Rattle.cell_names.specs.Contents.{Contents}
use Rattle.code_book.specs.Books.{Contracts}
use Rattle.code_book.specs.Fits.{fits}
use Rattle.op_run.specs.declared.phase.Phase.{Phase}
use Rattle.op_run.specs.declared.phase.Phase.TheVariants as phase
use Rattle.op_run.specs.declared.phase.Then.{Then}
use Rattle.op_run.specs.declared.phase.Then.TheVariants as then
use Rattle.op_run.specs.declared.state.State.{State}
use Rattle.op_run.specs.States.{outcome_at, outcome_of}
use Rattle.op_run.specs.Safe.{Safe, SafeAt}

-- each value of cells fits the book
abbrev pub AllFit : Contracts → Contents → Type 0
AllFit book m = (c : Cell) (v : Val) → get m c ≡ Some v → fits book c v ≡ true

-- what comes of a phase, on all cells that fit the book, comes of the state that is left
abbrev pub GoesOn : State → Phase → State → Type 0
GoesOn old p new = (m : Contents) → AllFit old.book.now m → SafeAt old p m → outcome_at old p m ≡ outcome_of new m

-- and what is true of it stays so
abbrev pub StaysSafe : State → Phase → State → Type 0
StaysSafe old p new = (m : Contents) → AllFit old.book.now m → SafeAt old p m → Safe new m

-- ---- what falls

-- more than what falls while a code runs
abbrev pub begun : ℕ
begun = 2 ^ 66

-- more than what falls in one transfer
abbrev pub transfer_work : ℕ
transfer_work = 2 ^ 73

-- while a reply is waited for
abbrev pub work_then : Then → ℕ
work_then (then.Debited t) = 2 ^ 72 + 7
work_then (then.Credited t) = 2 ^ 72 + 5
work_then (then.Stored t code) = 2 ^ 72 + 3
work_then (then.Looked c) = begun + 2 * machine.work c.machine
work_then (then.Written dest changes) = 2 * length changes + 3

-- in a phase
abbrev pub work_in : Phase → ℕ
work_in phase.Ready = 1
work_in (phase.Entering t) = 2 ^ 72 + 9
work_in (phase.Paying t) = 2 ^ 72 + 8
work_in (phase.Crediting t) = 2 ^ 72 + 6
work_in (phase.Calling t) = 2 ^ 72 + 4
work_in (phase.Starting t code stored) = 2 ^ 72 + 2
work_in (phase.Running c) = begun + 2 * machine.work c.machine + 1
work_in (phase.Storing dest v changes) = 2 * length changes + 4
work_in (phase.Writing dest changes) = 2 * length changes + 2
work_in (phase.Waiting a then) = work_then then
work_in (phase.Over receipt) = 0
work_in phase.Spent = 0

-- with the transfers that it may still begin
abbrev pub work_at : State → Phase → ℕ
work_at s p = transfer_work * s.calls + work_in p

abbrev pub work : State → ℕ
work s = work_at s s.phase
