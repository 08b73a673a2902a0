-- What is true of a run on cells that gave its replies so far: its code misses nothing, and what it writes fits.
use Rattle.std.specs.Prelude.{◌≡◌, ℕ, ◌<◌, ◌^◌, true, List, Some}
use Rattle.std.specs.List.{AllByRecursion}
use Rattle.value_core.specs.declared.val.Val.{Val}
use Rattle.michelson_code.specs.declared.script.Script.{Script}
use Rattle.michelson_rules.specs.Metered.{NeverMisses, Outcome}
use Rattle.michelson_rules.specs.Returned.{Change}
use Rattle.michelson_rules.specs.TypedScripts.{ReturnsTyped, WhereReturned}
use Rattle.michelson_machine.specs.Outcomes.{answered_by, outcome}
use Rattle.cell_names.specs.declared.access.Access.{Access}
use Rattle.cell_names.specs.declared.cell.Cell.TheVariants as cell
use Rattle.cell_names.specs.Contents.{Contents}
use Rattle.cell_names.specs.Effects.{reply_to}
use Rattle.code_book.specs.Books.{Contracts}
use Rattle.code_book.specs.Fits.{fits_access, fits_write}
use Rattle.op_rules.specs.declared.transfer.Transfer.{Transfer}
use Rattle.op_rules.specs.Worlds.{world_of}
use Rattle.op_run.specs.declared.phase.Phase.{Phase}
use Rattle.op_run.specs.declared.phase.Phase.TheVariants as phase
use Rattle.op_run.specs.declared.phase.Then.{Then}
use Rattle.op_run.specs.declared.phase.Then.TheVariants as then
use Rattle.op_run.specs.declared.state.State.{State}
use Rattle.op_run.specs.Phases.{answer_in}

-- the amount is money
abbrev pub IsMoney : Transfer → Type 0
IsMoney t = t.amount < 2 ^ 63

-- what a run comes to misses nothing, and what it returns has the script's types
pub record Behaves (s : Script) (o : Outcome (List Val)) : Type 0 where
  pub never : NeverMisses o
  pub returned : ∥ WhereReturned (ReturnsTyped s) o ∥₁

-- each change may be written
abbrev pub ChangesFit : Contracts → List ℕ → List Change → Type 0
ChangesFit book dest = AllByRecursion (λ c. fits_write book (cell.Entry dest c.0 c.1) c.2 ≡ true)

module _ (book : Contracts) (m : Contents) where
  -- where a reply to the access is waited for
  abbrev pub SafeThen : Access → Then → Type 0
  SafeThen a (then.Debited t) = IsMoney t
  SafeThen a (then.Credited t) = IsMoney t
  SafeThen a (then.Stored t code) = IsMoney t
  SafeThen a (then.Looked c) = Behaves c.code.now.script (answered_by (world_of book m c.dest) c.machine (answer_in a (reply_to a m)))
  SafeThen a (then.Written dest changes) = (fits_access book a ≡ true) × ChangesFit book dest changes

  -- in a phase
  abbrev pub SafeIn : Phase → Type 0
  SafeIn phase.Ready = Unit {0}
  SafeIn (phase.Entering t) = IsMoney t
  SafeIn (phase.Paying t) = IsMoney t
  SafeIn (phase.Crediting t) = IsMoney t
  SafeIn (phase.Calling t) = IsMoney t
  SafeIn (phase.Starting t code stored) = IsMoney t
  SafeIn (phase.Running c) = Behaves c.code.now.script (outcome (world_of book m c.dest) c.machine)
  SafeIn (phase.Storing dest v changes) = (fits_write book (cell.Storage dest) (Some v) ≡ true) × ChangesFit book dest changes
  SafeIn (phase.Writing dest changes) = ChangesFit book dest changes
  SafeIn (phase.Waiting a then) = SafeThen a then
  SafeIn (phase.Over receipt) = Unit {0}
  SafeIn phase.Spent = Unit {0}

-- the transfers that wait have amounts of money too
pub record IsSafe (book : Contracts) (waiting : List Transfer) (p : Phase) (m : Contents) : Type 0 where
  pub now : SafeIn book m p
  pub pending : AllByRecursion IsMoney waiting

abbrev pub SafeAt : State → Phase → Contents → Type 0
SafeAt s = IsSafe s.book.now s.pending

abbrev pub Safe : State → Contents → Type 0
Safe s = SafeAt s s.phase
