-- A code's run as part of an operation: what it is given, what it reads, and what follows.
use Rattle.std.specs.Prelude.{ℕ, List, [], unwrap_or, Option, Some, None}
use Rattle.value_core.specs.declared.val.Val.{Val}
use Rattle.michelson_code.specs.declared.script.Script.{Script}
use Rattle.michelson_code.specs.Entries.{path_of, wrapped}
use Rattle.michelson_rules.specs.declared.ask.Ask.{Ask}
use Rattle.michelson_rules.specs.declared.ask.Ask.TheVariants as ask
use Rattle.michelson_rules.specs.Metered.{Asked, Ended, Outcome}
use Rattle.michelson_rules.specs.Returned.{Returned, returned}
use Rattle.michelson_rules.specs.Runs.{Failed as Fails, Missed, Return}
use Rattle.cell_names.specs.declared.access.Access.{Access}
use Rattle.cell_names.specs.declared.access.Access.TheVariants as access
use Rattle.cell_names.specs.declared.cell.Cell.TheVariants as cell
use Rattle.cell_names.specs.Contents.{Contents}
use Rattle.op_rules.specs.declared.transfer.Transfer.{Transfer}
use Rattle.op_rules.specs.Course.{Doing, Past, Serial, accessing, failed, lost}

-- the param of a transfer in the Lefts and Rights of its entry
abbrev pub param_of : Script → Transfer → Val
param_of s t = wrapped (unwrap_or (path_of t.entry s.names) []) t.param

-- the access that a question of the code is; whether an entry stands touches no cell
abbrev pub access_for : List ℕ → Ask → Option Access
access_for self (ask.Entry place key) = Some (access.Read (cell.Entry self place key))
access_for self ask.Balance = Some (access.Read (cell.Balance self))
access_for self (ask.Contract address entry ty) = None

-- a look at a cell; the cells don't change while a code runs
abbrev pub looking : Option Access → Doing → Doing
looking None next = next
looking (Some a) next = accessing a (λ r. next)

-- what the stack returns, if it does
abbrev pub with_returned : Option Returned → (Returned → Doing) → Doing
with_returned None next = lost
with_returned (Some r) next = next r

-- what a code's run comes to, and then what follows on what it returns
abbrev pub after_code : List ℕ → Outcome (List Val) → (Returned → Doing) → Contents → Past → Serial
after_code self (Ended (Return stack beside) left) next m past = with_returned (returned beside.versions stack) next m (record { left = left; past = past })
after_code self (Ended (Fails y) left) next m past = failed y m (record { left = left; past = past })
after_code self (Ended Missed left) next m past = lost m (record { left = left; past = past })
after_code self (Asked a left more) next m past = looking (access_for self a) (λ m' course. after_code self more next m' course.past) m (record { left = left; past = past })
