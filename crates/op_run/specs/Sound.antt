-- What is true of a run in each of its phases, whatever the cells are.
use Rattle.std.specs.Prelude.{◌≡◌, ℕ, ◌-◌, true, Option, Some, None, Ok, IsTrue}
use Rattle.std.specs.FinMap.{get}
use Rattle.value_core.specs.declared.ty.Ty.{Ty}
use Rattle.value_core.specs.declared.val.Val.{Val}
use Rattle.value_core.specs.Typed.{has_type}
use Rattle.michelson_code.specs.declared.script.Script.{Script}
use Rattle.michelson_rules.specs.declared.ask.Ask.{Ask}
use Rattle.michelson_machine.specs.Outcomes.{awaits}
use Rattle.cell_names.specs.declared.access.Access.{Access}
use Rattle.cell_names.specs.declared.access.Access.TheVariants as access
use Rattle.cell_names.specs.declared.cell.Cell.{Cell}
use Rattle.cell_names.specs.declared.cell.Cell.TheVariants as cell
use Rattle.code_book.specs.Books.{Contracts}
use Rattle.code_book.specs.Entries.{entry_of}
use Rattle.code_book.specs.Fits.{is_kept_as}
use Rattle.op_rules.specs.declared.transfer.Transfer.{Transfer}
use Rattle.op_rules.specs.CodeRule.{access_for, param_of}
use Rattle.op_rules.specs.Replies.{flight_of}
use Rattle.op_run.specs.declared.phase.Code.{Code}
use Rattle.op_run.specs.declared.phase.Phase.{Phase}
use Rattle.op_run.specs.declared.phase.Phase.TheVariants as phase
use Rattle.op_run.specs.declared.phase.Then.{Then}
use Rattle.op_run.specs.declared.phase.Then.TheVariants as then
use Rattle.op_run.specs.declared.state.State.{State}

-- the entry is there, and takes the param
pub record Enters (book : Contracts) (t : Transfer) : Type 0 where
  pub takes : Ty
  pub entry : entry_of book t.dest t.entry ≡ Ok takes
  pub typed : has_type t.param takes ≡ true

-- the destination is a contract with this script, which takes the param as it is wrapped
pub record Calls (book : Contracts) (t : Transfer) (s : Script) : Type 0 where
  pub contract : get book t.dest ≡ Some s
  pub typed : IsTrue (has_type (param_of s t) s.param)

-- a code of the contract that runs, which waits for the answer to this question, or for none
pub record Runs (book : Contracts) (c : Code) (ask : Option Ask) : Type 0 where
  pub contract : get book c.dest ≡ Some c.code.now.script
  pub awaits : awaits c.machine ≡ ask

-- a code waits for what the access reads
pub record Looks (book : Contracts) (c : Code) (a : Access) : Type 0 where
  pub ask : Ask
  pub runs : Runs book c (Some ask)
  pub reads : access_for c.dest ask ≡ Some a

-- the access is a write
pub record IsWrite (a : Access) : Type 0 where
  pub place : Cell
  pub held : Option Val
  pub writes : a ≡ access.Write place held

module _ (book : Contracts) (f : ℕ) where
  -- what is true where the reply to an access is waited for, and so much is in flight
  abbrev pub SoundThen : Access → Then → Type 0
  SoundThen a (then.Debited t) = Enters book t × (a ≡ access.Debit t.sender t.amount) × (f ≡ 0)
  SoundThen a (then.Credited t) = Enters book t × (a ≡ access.Credit t.dest t.amount) × (f ≡ t.amount)
  SoundThen a (then.Stored t code) = Calls book t code.now.script × (a ≡ access.Read (cell.Storage t.dest)) × (f ≡ 0)
  SoundThen a (then.Looked c) = Looks book c a × (f ≡ 0)
  SoundThen a (then.Written dest changes) = IsWrite a × (f ≡ 0)

-- where so much gas was charged
module _ (book : Contracts) (f charged : ℕ) where
  -- what is true in a phase
  abbrev pub SoundIn : Phase → Type 0
  SoundIn phase.Ready = f ≡ 0
  SoundIn (phase.Entering t) = f ≡ 0
  SoundIn (phase.Paying t) = Enters book t × (f ≡ 0)
  SoundIn (phase.Crediting t) = Enters book t × (f ≡ t.amount)
  SoundIn (phase.Calling t) = Enters book t × (f ≡ 0)
  SoundIn (phase.Starting t code stored) = Calls book t code.now.script × (is_kept_as code.now.script.storage stored ≡ true) × (f ≡ 0)
  SoundIn (phase.Running c) = Runs book c None × (f ≡ 0)
  SoundIn (phase.Storing dest v changes) = f ≡ 0
  SoundIn (phase.Writing dest changes) = f ≡ 0
  SoundIn (phase.Waiting a then) = SoundThen book f a then
  SoundIn (phase.Over receipt) = (receipt.end ≡ None → f ≡ 0) × (receipt.gas ≡ charged)
  SoundIn phase.Spent = Unit {0}

-- the gas that was charged
abbrev pub charged : State → ℕ
charged s = s.op.now.gas - s.left.gas

abbrev pub SoundAt : State → Phase → Type 0
SoundAt s p = SoundIn s.book.now (flight_of s.log) (charged s) p

abbrev pub Sound : State → Type 0
Sound s = SoundAt s s.phase
