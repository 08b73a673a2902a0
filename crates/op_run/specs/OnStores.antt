-- Running an operation on a store.
use Rattle.std.specs.Prelude.{◌≡◌, List, ◌∷◌, ◌++◌, All}
use Rattle.cell_names.specs.declared.access.Access.{Access}
use Rattle.cell_names.specs.declared.access.Reply.{Reply}
use Rattle.cell_names.specs.declared.cell.Cell.{Cell}
use Rattle.cell_names.specs.declared.head.Head.{Head}
use Rattle.cell_names.specs.declared.mode.Mode.{Mode}
use Rattle.cell_names.specs.Conditions.{Lends, Seen}
use Rattle.cell_names.specs.Effects.{cell_of}
use Rattle.code_book.specs.Books.{Contracts}
use Rattle.op_rules.specs.declared.op.Op.{Op}
use Rattle.op_rules.specs.declared.receipt.Receipt.{Receipt}
use Rattle.op_rules.specs.Course.{Past, Serial, footprint_of}
use Rattle.op_rules.specs.Serial.{cells_after, receipt_of, serial}

-- the serial operation on the cells of a store
abbrev pub serial_on : Contracts → Head → Op → Seen → Serial
serial_on book head op seen = serial book head op seen.cells

-- the store lends the cell of each of these accesses as it needs
abbrev pub LendsAll : Seen → Past → Type 0
LendsAll seen past = All (λ e. Lends seen e.0) past

-- the first of these accesses whose cell the store doesn't lend as it needs is to this cell
pub record IsFirstUnlent (seen : Seen) (past : Past) (c : Cell) : Type 0 where
  pub before : Past
  pub access : Access
  pub reply : Reply
  pub later : Past
  pub order : past ≡ before ++ (access, reply) ∷ later
  pub lent : LendsAll seen before
  pub unlent : ¬ Lends seen access
  pub cell : c ≡ cell_of access

-- the operation has run: its receipt and footprint are the serial operation's, and the store has the cells that this leaves
pub record Ran (book : Contracts) (head : Head) (op : Op) (old : Seen) (r : Receipt) (touches : List (Cell × Mode)) (new : Seen) : Type 0 where
  pub lent : LendsAll old (serial_on book head op old).course.past
  pub receipt : r ≡ receipt_of op (serial_on book head op old)
  pub footprint : touches ≡ footprint_of (serial_on book head op old).course.past
  pub cells : new.cells ≡ cells_after old.cells (serial_on book head op old)
  pub flight : new.flight ≡ old.flight
