-- The serial operation and the serial run: cells, receipts and footprints.
use Rattle.std.specs.Prelude.{ℕ, ◌-◌, Bool, true, false, List, [], ◌∷◌, take, Option, Some, None}
use Rattle.std.specs.List.{filter}
use Rattle.michelson_code.specs.declared.why.Why.{Why}
use Rattle.cell_names.specs.declared.access.Access.{Access}
use Rattle.cell_names.specs.declared.access.Access.TheVariants as access
use Rattle.cell_names.specs.declared.access.Reply.{Reply}
use Rattle.cell_names.specs.declared.access.Reply.TheVariants as reply
use Rattle.cell_names.specs.declared.cell.Cell.{Cell}
use Rattle.cell_names.specs.declared.head.Head.{Head}
use Rattle.cell_names.specs.declared.mode.Mode.{Mode}
use Rattle.cell_names.specs.Contents.{Contents}
use Rattle.code_book.specs.Books.{Contracts}
use Rattle.op_rules.specs.declared.limits.TheConstants.{MOST_CALLS, MOST_ROOM}
use Rattle.op_rules.specs.declared.op.Op.{Op}
use Rattle.op_rules.specs.declared.receipt.Receipt.{Receipt}
use Rattle.op_rules.specs.Course.{Applied, Course, End, Failed, Past, Serial, footprint_of}
use Rattle.op_rules.specs.Operations.{first_of}
use Rattle.op_rules.specs.Replies.{after_all}
use Rattle.op_rules.specs.SerialRule.{transfers}

-- how an operation begins
abbrev pub begins_with : Op → ℕ → Course
begins_with op room = record { left = record { gas = op.gas; turns = op.turns; room = room }; past = [] }

-- an operation of at most so many calls, in so much room
unfoldable pub serial_within : ℕ → ℕ → Contracts → Head → Op → Contents → Serial
serial_within calls room book head op opening = transfers book head op.source calls (first_of op ∷ []) opening (begins_with op room)

-- the serial operation
unfoldable pub serial : Contracts → Head → Op → Contents → Serial
serial = serial_within MOST_CALLS MOST_ROOM

-- ---- what it leaves

-- a write, a credit, or a debit that is done
abbrev pub is_effect : Access → Reply → Bool
is_effect (access.Read c) r = false
is_effect (access.Write c v) r = true
is_effect (access.Credit a n) r = true
is_effect (access.Debit a n) reply.Done = true
is_effect (access.Debit a n) reply.Low = false
is_effect (access.Debit a n) (reply.Value v) = false

-- the effects among accesses
abbrev pub effects_of : Past → Past
effects_of = filter (λ e. is_effect e.0 e.1)

-- how many effects a failed operation keeps
abbrev pub keep_of : Serial → ℕ
keep_of s = 0

-- where so many effects of a failed operation are kept
abbrev pub cells_left : Contents → ℕ → Past → End → Contents
cells_left opening keep past (Applied m) = m
cells_left opening keep past (Failed y) = after_all (take keep (effects_of past)) opening

-- the cells that it leaves
abbrev pub cells_after : Contents → Serial → Contents
cells_after opening s = cells_left opening (keep_of s) s.course.past s.end

-- why it failed
abbrev pub failure_of : End → Option Why
failure_of (Applied m) = None
failure_of (Failed y) = Some y

-- the receipt: how it ended, and the gas that it was charged
abbrev pub receipt_of : Op → Serial → Receipt
receipt_of op s = record { end = failure_of s.end; gas = op.gas - s.course.left.gas }

-- ---- the serial run

-- what a list of operations gives: the cells, and for each its receipt and its footprint
pub record Run : Type 0 where
  pub cells : Contents
  pub receipts : List Receipt
  pub footprints : List (List (Cell × Mode))

-- an operation before a run
abbrev pub before_run : Op → Serial → Run → Run
before_run op s run = record {
  cells = run.cells;
  receipts = receipt_of op s ∷ run.receipts;
  footprints = footprint_of s.course.past ∷ run.footprints;
}

-- each operation on the cells that the one before it leaves
abbrev pub run_all : Contracts → Head → List Op → Contents → Run
run_all book head [] m = record { cells = m; receipts = []; footprints = [] }
run_all book head (op ∷ ops) m =
    before_run op (serial book head op m) (run_all book head ops (cells_after m (serial book head op m)))
