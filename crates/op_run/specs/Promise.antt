-- What a run promises of the operation, whatever replies it was told.
use Rattle.std.specs.Prelude.{◌≡◌, ℕ, List, true, Option, Some, None}
use Rattle.std.specs.FinMap.{contains_key}
use Rattle.cell_names.specs.declared.access.Access.{Access}
use Rattle.cell_names.specs.declared.access.Access.TheVariants as access
use Rattle.cell_names.specs.declared.cell.Cell.TheVariants as cell
use Rattle.cell_names.specs.declared.head.Head.{Head}
use Rattle.cell_names.specs.Conditions.{IsCovered}
use Rattle.code_book.specs.Books.{Contracts}
use Rattle.op_rules.specs.declared.op.Op.{Op}
use Rattle.op_rules.specs.declared.receipt.Receipt.{Receipt}
use Rattle.op_rules.specs.Course.{Past}
use Rattle.op_rules.specs.Replies.{flight_of}
use Rattle.op_run.specs.declared.advance.Next.{Next}
use Rattle.op_run.specs.declared.advance.Next.TheVariants as next
use Rattle.op_run.specs.declared.run.OpRun.{OpRun}
use Rattle.op_run.specs.declared.state.State.{State}
use Rattle.op_run.specs.Follows.{IsNext, IsSpent, IsWhole, OnCells, receipt_in}
use Rattle.op_run.specs.States.{awaited}
use Rattle.op_run.specs.Steps.{work}

-- ---- what is seen of a run

-- the contracts, the block, the operation
abbrev pub book_of : OpRun → Contracts
book_of run = run.state.book.now

abbrev pub head_of : OpRun → Head
head_of run = run.state.head

abbrev pub op_of : OpRun → Op
op_of run = run.state.op.now

-- the accesses with their replies
abbrev pub past_of : OpRun → Past
past_of run = run.state.log

-- the access whose reply is waited for
abbrev pub awaited_by : OpRun → Option Access
awaited_by run = awaited run.state

-- the receipt, once it is done
abbrev pub receipt_by : OpRun → Option Receipt
receipt_by run = receipt_in run.state.phase

-- what falls with each reply
abbrev pub work_of : OpRun → ℕ
work_of run = work run.state

-- it wanted memory before
abbrev pub IsSpentBy : OpRun → Type 0
IsSpentBy run = IsSpent run.state

-- ---- what is promised

-- a call leaves the contracts, the block and the operation
pub record IsSameRun (old new : State) : Type 0 where
  pub book : new.book.now ≡ old.book.now
  pub head : new.head ≡ old.head
  pub op : new.op.now ≡ old.op.now

abbrev pub StaysBy : OpRun → OpRun → Type 0
StaysBy old new = IsSameRun old.state new.state

-- it is done, by this receipt
pub record IsDoneBy (s : State) (r : Receipt) : Type 0 where
  pub receipt : receipt_in s.phase ≡ Some r
  -- what was applied leaves nothing in flight
  pub settled : r.end ≡ None → flight_of s.log ≡ 0
  -- all accesses and the receipt are the operation's
  pub whole : OnCells s.book.now s.log (IsWhole s.book.now s.head s.op.now s.log r)

abbrev pub IsDone : OpRun → Type 0
IsDone run = (r : Receipt) × (receipt_by run ≡ Some r)

-- it asks for an access
pub record Asks (s : State) (a : Access) : Type 0 where
  -- a credit is at most what was debited and isn't credited yet
  pub covered : IsCovered (flight_of s.log) a
  -- a storage that it reads is a contract's of the book
  pub stored : (contract : List ℕ) → a ≡ access.Read (cell.Storage contract) → contains_key s.book.now contract ≡ true
  -- the access is the operation's next, and fit
  pub next : OnCells s.book.now s.log (IsNext s.book.now s.head s.op.now s.log a)

abbrev pub PromisesIn : Next → State → Type 0
PromisesIn (next.Ask a) s = Asks s a
PromisesIn next.Done s = (r : Receipt) × IsDoneBy s r

abbrev pub Promises : Next → OpRun → Type 0
Promises n run = PromisesIn n run.state

-- the access that is asked for
abbrev pub asked_by : Next → Option Access
asked_by (next.Ask a) = Some a
asked_by next.Done = None
