-- An operation on a store, on the way: its accesses so far, and what takes them back.
use Rattle.std.specs.Prelude.{◌≡◌, ◌+◌, ◌<◌, ◌++◌, [], ◌∷◌, List, None}
use Rattle.cell_names.specs.declared.access.Access.{Access}
use Rattle.cell_names.specs.declared.access.Reply.{Reply}
use Rattle.cell_names.specs.declared.access.Undo.{Undo}
use Rattle.cell_names.specs.declared.cell.Cell.{Cell}
use Rattle.cell_names.specs.Conditions.{Seen}
use Rattle.cell_names.specs.Stores.{Did, Stays}
use Rattle.code_book.specs.Books.{Contracts}
use Rattle.code_book.specs.Ownership.{IsBookOf}
use Rattle.inverse_log.specs.Ends.{LeadsTo}
use Rattle.op_rules.specs.declared.receipt.Receipt.{Receipt}
use Rattle.op_rules.specs.Course.{Past}
use Rattle.op_rules.specs.Replies.{Gives, after_all, flight_of}
use Rattle.op_run.specs.declared.run.OpRun.{OpRun}
use Rattle.op_run.specs.OnStores.{IsFirstUnlent, LendsAll, serial_on}
use Rattle.op_run.specs.Promise.{IsDoneBy, StaysBy, awaited_by, book_of, head_of, op_of, past_of, work_of}

-- an access is made, and its undo is noted
pub record Makes (old : Seen) (a : Access) (r : Reply) (before after : List Undo) (new : Seen) : Type 0 where
  pub undo : Undo
  pub noted : after ≡ before ++ undo ∷ []
  pub did : Did old a r undo new

-- undoing the log leads back to what was first, and what is lent and fit is as it was
pub record LeadsBack (log : List Undo) (first now : Seen) : Type 0 where
  pub back : LeadsTo log now first.cells first.flight
  pub stays : Stays first now

-- these accesses were made on the store as it was first, and the log takes them back
pub record IsAlong (contracts : Contracts) (past : Past) (log : List Undo) (first now : Seen) : Type 0 where
  pub opening : IsBookOf contracts first
  pub gives : Gives past first.cells
  pub cells : now.cells ≡ after_all past first.cells
  pub flight : now.flight ≡ first.flight + flight_of past
  pub lent : LendsAll first past
  pub leads : LeadsBack log first now
  pub book : IsBookOf contracts now

-- a run has made its accesses so far on the store as it was first
abbrev pub IsAt : OpRun → List Undo → Seen → Seen → Type 0
IsAt run = IsAlong (book_of run) (past_of run)

-- it has made them on some store
abbrev pub IsUnderWay : OpRun → List Undo → Seen → Type 0
IsUnderWay run log now = (first : Seen) × IsAt run log first now

-- a run goes on with its accesses on the same store
pub record Goes (old : OpRun) (before : List Undo) (was : Seen) (new : OpRun) (after : List Undo) (now : Seen) : Type 0 where
  pub same : StaysBy old new
  pub on : (first : Seen) → IsAt old before first was → IsAt new after first now

-- a run that stops with an error may be undone
abbrev pub MayGoBack : OpRun → List Undo → Seen → List Undo → Seen → Type 0
MayGoBack old before was after now = (first : Seen) → IsAt old before first was → LeadsBack after first now

-- what isn't lent is the first such cell of the operation's accesses
abbrev pub IsUnlentFor : OpRun → List Undo → Seen → Cell → Type 0
IsUnlentFor old before was c =
    (first : Seen) → IsAt old before first was → IsFirstUnlent first (serial_on (book_of old) (head_of old) (op_of old) first).course.past c

-- it is nearer to its end, and waits for no reply
pub record IsNearer (old new : OpRun) : Type 0 where
  pub free : awaited_by new ≡ None
  pub nearer : work_of new < work_of old

-- it is done
abbrev pub HasEnded : OpRun → Type 0
HasEnded run = (r : Receipt) × IsDoneBy run.state r
