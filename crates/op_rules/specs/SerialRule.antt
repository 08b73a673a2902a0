-- What an operation does, one transfer after another, depth first: the measure of every other way to run it.
use Rattle.std.specs.Prelude.{ℕ, zero, suc, ◌+◌, ◌==◌, List, [], ◌∷◌, ◌++◌, Option, Some, None, Result, Ok, Err, if◌then◌else◌}
use Rattle.std.specs.FinMap.{get}
use Rattle.value_core.specs.declared.ty.Ty.{Ty}
use Rattle.value_core.specs.declared.val.Val.{Val}
use Rattle.value_core.specs.Size.{size_of}
use Rattle.value_core.specs.Typed.{has_type}
use Rattle.michelson_code.specs.declared.script.Script.{Script}
use Rattle.michelson_code.specs.declared.why.Why.TheVariants as why
use Rattle.michelson_rules.specs.declared.ask.Env.{Env}
use Rattle.michelson_rules.specs.Metered.{script_outcome}
use Rattle.cell_names.specs.declared.access.Access.TheVariants as access
use Rattle.cell_names.specs.declared.access.Reply.{Reply}
use Rattle.cell_names.specs.declared.access.Reply.TheVariants as reply
use Rattle.cell_names.specs.declared.cell.Cell.TheVariants as cell
use Rattle.cell_names.specs.declared.head.Head.{Head}
use Rattle.cell_names.specs.Accounts.{is_implicit}
use Rattle.code_book.specs.declared.fault.NoEntry.{NoEntry}
use Rattle.code_book.specs.declared.fault.NoEntry.TheVariants as missing
use Rattle.code_book.specs.Books.{Contracts}
use Rattle.code_book.specs.Entries.{entry_of}
use Rattle.op_rules.specs.declared.transfer.Transfer.{Transfer}
use Rattle.op_rules.specs.Course.{Doing, accessing, done, failed, lost, taking}
use Rattle.op_rules.specs.CodeRule.{after_code, param_of}
use Rattle.op_rules.specs.WriteRule.{returning}
use Rattle.op_rules.specs.Worlds.{world_of}

-- who called, with what, and when
abbrev pub env_of : Head → List ℕ → Transfer → Env
env_of head source t = record { amount = t.amount; sender = t.sender; source = source; me = t.dest; now = head.now; level = head.level }

module _ (book : Contracts) (head : Head) (source : List ℕ) where
  -- ---- one transfer; what follows is told the transfers that it emits

  -- the code runs on the param and the storage
  abbrev pub running : Transfer → Script → Val → (List Transfer → Doing) → Doing
  running t s stored next m course =
      after_code t.dest (script_outcome s (env_of head source t) (world_of book m t.dest) course.left (param_of s t) stored)
      (returning t.dest s stored next) m course.past

  -- a storage was read, and takes its room
  abbrev pub loaded : Transfer → Script → (List Transfer → Doing) → Reply → Doing
  loaded t s next (reply.Value (Some stored)) = taking (1 + size_of stored) (running t s stored next)
  loaded t s next (reply.Value None) = lost
  loaded t s next reply.Done = lost
  loaded t s next reply.Low = lost

  -- an implicit account has no code
  abbrev pub calling : Transfer → Option Script → (List Transfer → Doing) → Doing
  calling t None next = next []
  calling t (Some s) next = accessing (access.Read (cell.Storage t.dest)) (loaded t s next)

  abbrev pub called : Transfer → (List Transfer → Doing) → Doing
  called t next = calling t (if is_implicit t.dest then None else get book t.dest) next

  -- the destination gets the amount, and is called
  abbrev pub crediting : Transfer → (List Transfer → Doing) → Doing
  crediting t next = taking 1 (accessing (access.Credit t.dest t.amount) (λ r. called t next))

  -- the sender had as much, or had not
  abbrev pub debited : Transfer → (List Transfer → Doing) → Reply → Doing
  debited t next reply.Low = failed why.BalanceTooLow
  debited t next reply.Done = crediting t next
  debited t next (reply.Value v) = lost

  -- the amount goes from the sender to the destination; an amount of 0 touches no balance
  abbrev pub paying : Transfer → (List Transfer → Doing) → Doing
  paying t next = if t.amount == 0 then called t next else taking 1 (accessing (access.Debit t.sender t.amount) (debited t next))

  -- the entry that is called takes the param
  abbrev pub entering : Transfer → Result Ty NoEntry → (List Transfer → Doing) → Doing
  entering t (Err missing.NoSuchContract) next = failed why.NoSuchContract
  entering t (Err missing.NoSuchEntry) next = failed why.NoSuchEntry
  entering t (Ok ty) next = if has_type t.param ty then paying t next else failed why.WrongParameter

  abbrev pub transfer : Transfer → (List Transfer → Doing) → Doing
  transfer t next = entering t (entry_of book t.dest t.entry) next

  -- ---- all transfers

  -- so many at most, and what one emits comes before the rest
  abbrev pub transfers : ℕ → List Transfer → Doing
  transfers n [] = done
  transfers zero (t ∷ ts) = failed why.TooManyCalls
  transfers (suc n) (t ∷ ts) = transfer t (λ emitted. transfers n (emitted ++ ts))
