-- A run and its accesses so far against the serial operation, on all cells that gave its replies.
use Rattle.std.specs.Prelude.{◌≡◌, ◌++◌, [], ◌∷◌, true, Option, Some, None}
use Rattle.cell_names.specs.declared.access.Access.{Access}
use Rattle.cell_names.specs.declared.head.Head.{Head}
use Rattle.cell_names.specs.Contents.{Contents}
use Rattle.cell_names.specs.Effects.{reply_to}
use Rattle.code_book.specs.Books.{Contracts}
use Rattle.code_book.specs.Fits.{fits_access}
use Rattle.op_rules.specs.declared.op.Op.{Op}
use Rattle.op_rules.specs.declared.receipt.Receipt.{Receipt}
use Rattle.op_rules.specs.Course.{Past}
use Rattle.op_rules.specs.Replies.{AreLawful, BeginWith, Gives, after_all, flight_of}
use Rattle.op_rules.specs.Serial.{receipt_of, serial}
use Rattle.op_run.specs.declared.phase.Phase.{Phase}
use Rattle.op_run.specs.declared.phase.Phase.TheVariants as phase
use Rattle.op_run.specs.declared.state.State.{State}
use Rattle.op_run.specs.Safe.{Safe}
use Rattle.op_run.specs.Sound.{Sound}
use Rattle.op_run.specs.States.{awaited, outcome_of}

-- what is true on cells that were lawful before the operation and gave these replies
abbrev pub OnCells : Contracts → Past → (Contents → Type 0) → Type 0
OnCells book past P = (m : Contents) → AreLawful book m 0 → Gives past m → P m

-- what is left of the run, on all such cells, makes the whole operation
pub record FollowsFrom (book : Contracts) (head : Head) (op : Op) (past : Past) (s : State) : Type 0 where
  pub sound : Sound s
  pub lawful : OnCells book past (λ m. AreLawful book (after_all past m) (flight_of past))
  pub same : OnCells book past (λ m. serial book head op m ≡ outcome_of s (after_all past m))
  pub safe : OnCells book past (λ m. Safe s (after_all past m))

abbrev pub Follows : State → Type 0
Follows s = FollowsFrom s.book.now s.head s.op.now s.log s

-- nothing was accessed yet
pub record IsBegun (contracts : Contracts) (block : Head) (o : Op) (s : State) : Type 0 where
  pub book : s.book.now ≡ contracts
  pub head : s.head ≡ block
  pub op : s.op.now ≡ o
  pub log : s.log ≡ []
  pub free : awaited s ≡ None

-- memory ran out
abbrev pub IsSpent : State → Type 0
IsSpent s = s.phase ≡ phase.Spent

-- what a run keeps as long as there is memory
abbrev pub Keeps : State → Type 0
Keeps s = (¬ IsSpent s) → Follows s

-- the access is the operation's next, and it is fit
pub record IsNext (book : Contracts) (head : Head) (op : Op) (past : Past) (a : Access) (m : Contents) : Type 0 where
  pub begins : BeginWith (past ++ (a, reply_to a (after_all past m)) ∷ []) (serial book head op m).course.past
  pub fits : fits_access book a ≡ true

-- all accesses and the receipt are the operation's
pub record IsWhole (book : Contracts) (head : Head) (op : Op) (past : Past) (receipt : Receipt) (m : Contents) : Type 0 where
  pub accesses : (serial book head op m).course.past ≡ past
  pub ending : receipt_of op (serial book head op m) ≡ receipt

-- the receipt of a run that is over
abbrev pub receipt_in : Phase → Option Receipt
receipt_in (phase.Over receipt) = Some receipt
receipt_in _ = None
