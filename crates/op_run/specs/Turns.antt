-- Where a run stops, and what a reply leaves of it.
use Rattle.std.specs.Prelude.{◌≡◌, ◌++◌, [], ◌∷◌, Some, None}
use Rattle.cell_names.specs.declared.access.Access.{Access}
use Rattle.cell_names.specs.declared.access.Reply.{Reply}
use Rattle.cell_names.specs.Contents.{Contents}
use Rattle.cell_names.specs.Effects.{after, reply_to}
use Rattle.op_rules.specs.declared.receipt.Receipt.{Receipt}
use Rattle.op_run.specs.declared.advance.Next.{Next}
use Rattle.op_run.specs.declared.advance.Next.TheVariants as next
use Rattle.op_run.specs.declared.phase.Phase.{Phase}
use Rattle.op_run.specs.declared.phase.Phase.TheVariants as phase
use Rattle.op_run.specs.declared.state.State.{State}
use Rattle.op_run.specs.Safe.{Safe}
use Rattle.op_run.specs.Sound.{Sound}
use Rattle.op_run.specs.States.{awaited, awaited_in, outcome_of}

-- it is over
abbrev pub IsOver : Phase → Type 0
IsOver p = (receipt : Receipt) × (p ≡ phase.Over receipt)

-- it waits for the reply to the access, or is over
abbrev pub Stops : Next → Phase → Type 0
Stops (next.Ask a) p = awaited_in p ≡ Some a
Stops next.Done p = IsOver p

-- a reply to this access
pub record RepliedTo (a : Access) (old : State) (r : Reply) (new : State) : Type 0 where
  pub book : new.book.now ≡ old.book.now
  pub head : new.head ≡ old.head
  pub op : new.op.now ≡ old.op.now
  pub log : new.log ≡ old.log ++ (a, r) ∷ []
  pub free : awaited new ≡ None
  pub sound : Sound new
  pub same : (m : Contents) → reply_to a m ≡ r → outcome_of old m ≡ outcome_of new (after a m)
  pub safe : (m : Contents) → reply_to a m ≡ r → Safe old m → Safe new (after a m)

abbrev pub Replied : State → Reply → State → Type 0
Replied old r new = (a : Access) → awaited old ≡ Some a → RepliedTo a old r new
