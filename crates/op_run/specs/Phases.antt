-- What is left of an operation, from a phase of its run.
use Rattle.std.specs.Prelude.{ℕ, ◌+◌, List, ◌++◌, Option, Some, None}
use Rattle.value_core.specs.declared.val.Val.{Val}
use Rattle.value_core.specs.declared.val.Val.TheVariants as value
use Rattle.value_core.specs.Size.{size_of}
use Rattle.michelson_code.specs.declared.why.Why.{Why}
use Rattle.michelson_rules.specs.Metered.{Outcome}
use Rattle.michelson_rules.specs.World.{World}
use Rattle.michelson_machine.specs.Outcomes.{answered_by, outcome}
use Rattle.cell_names.specs.declared.access.Access.{Access}
use Rattle.cell_names.specs.declared.access.Access.TheVariants as access
use Rattle.cell_names.specs.declared.access.Reply.{Reply}
use Rattle.cell_names.specs.declared.access.Reply.TheVariants as reply
use Rattle.cell_names.specs.declared.cell.Cell.TheVariants as cell
use Rattle.cell_names.specs.declared.head.Head.{Head}
use Rattle.cell_names.specs.Contents.{amount_in}
use Rattle.code_book.specs.Books.{Contracts}
use Rattle.op_rules.specs.declared.transfer.Transfer.{Transfer}
use Rattle.op_rules.specs.Course.{Doing, answered, done, failed, lost, taking}
use Rattle.op_rules.specs.CodeRule.{after_code}
use Rattle.op_rules.specs.WriteRule.{changing, returning, written}
use Rattle.op_rules.specs.SerialRule.{called, crediting, debited, loaded, paying, running, transfer, transfers}
use Rattle.op_rules.specs.Worlds.{world_of}
use Rattle.op_run.specs.declared.phase.Code.{Code}
use Rattle.op_run.specs.declared.phase.Phase.{Phase}
use Rattle.op_run.specs.declared.phase.Phase.TheVariants as phase
use Rattle.op_run.specs.declared.phase.Then.{Then}
use Rattle.op_run.specs.declared.phase.Then.TheVariants as then

-- what the reply to a look is for the code that looked
abbrev pub answer_in : Access → Reply → Option Val
answer_in (access.Read (cell.Balance a)) (reply.Value held) = Some (value.Mutez (amount_in held))
answer_in a (reply.Value held) = held
answer_in a reply.Done = None
answer_in a reply.Low = None

-- an operation ends so
abbrev pub ending : Option Why → Doing
ending None = done
ending (Some y) = failed y

module _ (book : Contracts) (head : Head) (source : List ℕ) (calls : ℕ) (pending : List Transfer) where
  -- what follows a transfer that emits these
  abbrev pub onward : List Transfer → Doing
  onward emitted = transfers book head source calls (emitted ++ pending)

  -- what follows a transfer that emits nothing any more
  abbrev pub others : Doing
  others = transfers book head source calls pending

  -- what follows the run of a code that comes to this, in each world
  abbrev pub code_goes : Code → (World → Outcome (List Val)) → Doing
  code_goes c comes m course =
      after_code c.dest (comes (world_of book m c.dest)) (returning c.dest c.code.now.script c.stored onward) m course.past

  -- what goes on with a reply
  abbrev pub then_goes : Access → Then → Reply → Doing
  then_goes a (then.Debited t) r = debited book head source t onward r
  then_goes a (then.Credited t) r = called book head source t onward
  then_goes a (then.Stored t code) r = loaded book head source t code.now.script onward r
  then_goes a (then.Looked c) r = code_goes c (λ w. answered_by w c.machine (answer_in a r))
  then_goes a (then.Written dest changes) r = changing dest changes others

  -- what goes on from a phase
  abbrev pub goes : Phase → Doing
  goes phase.Ready = others
  goes (phase.Entering t) = transfer book head source t onward
  goes (phase.Paying t) = paying book head source t onward
  goes (phase.Crediting t) = crediting book head source t onward
  goes (phase.Calling t) = called book head source t onward
  goes (phase.Starting t code stored) = taking (1 + size_of stored) (running book head source t code.now.script stored onward)
  goes (phase.Running c) = code_goes c (λ w. outcome w c.machine)
  goes (phase.Storing dest v changes) = written dest v (changing dest changes others)
  goes (phase.Writing dest changes) = changing dest changes others
  goes (phase.Waiting a then) = answered a (then_goes a then)
  goes (phase.Over receipt) = ending receipt.end
  goes phase.Spent = lost
