-- Two worlds that answer a code alike, and one operation on two ledgers that it can't tell apart.
use Rattle.std.specs.Prelude.{◌≡◌, List, Option, Some, None, Bool, true, false, IsTrue}
use Rattle.std.specs.FinMap.{get}
use Rattle.michelson_rules.specs.Metered.{Asked, Ended, Outcome}
use Rattle.michelson_rules.specs.World.{World, reply_of}
use Rattle.cell_names.specs.declared.cell.Cell.{Cell}
use Rattle.cell_names.specs.declared.mode.Mode.{Mode}
use Rattle.cell_names.specs.declared.mode.Mode.TheVariants.{Read, Credit, Own}
use Rattle.cell_names.specs.Contents.{Contents}
use Rattle.cell_names.specs.Footprints.{ConflictIn, mode_of}
use Rattle.cell_names.specs.declared.head.Head.{Head}
use Rattle.code_book.specs.Books.{Contracts}
use Rattle.op_rules.specs.declared.op.Op.{Op}
use Rattle.op_rules.specs.Course.{Serial}
use Rattle.op_rules.specs.Serial.{cells_after, failure_of, serial}

-- both worlds answer each question that is asked alike
abbrev pub AnswerAlike : {A : Type 0} → World → World → Outcome A → Type 0
AnswerAlike w v (Ended e left) = Unit {0}
AnswerAlike w v (Asked a left next) = (reply_of w a ≡ reply_of v a) × AnswerAlike w v next

-- the same accesses with the same replies, as much spent, and the same end but for the cells
pub record IsSame (s t : Serial) : Type 0 where
  pub course : t.course ≡ s.course
  pub failure : failure_of t.end ≡ failure_of s.end

-- a cell whose value is seen or replaced
abbrev pub is_seen : Option Mode → Bool
is_seen None = false
is_seen (Some Read) = true
is_seen (Some Credit) = false
is_seen (Some Own) = true

-- two ledgers have the same in each cell that a footprint reads or owns
abbrev pub AgreeWhereSeen : List (Cell × Mode) → Contents → Contents → Type 0
AgreeWhereSeen footprint m n = (c : Cell) → IsTrue (is_seen (mode_of footprint c)) → get m c ≡ get n c

-- no cell is touched by both footprints in modes that conflict
abbrev pub NeverConflict : List (Cell × Mode) → List (Cell × Mode) → Type 0
NeverConflict f g = (c : Cell) → ¬ ConflictIn c f g

-- the cells that an operation leaves of these
abbrev pub left_by : Contracts → Head → Op → Contents → Contents
left_by book head op m = cells_after m (serial book head op m)

-- in either order two operations do the same, and leave the same cells
pub record MayBeSwapped (book : Contracts) (head : Head) (a b : Op) (m : Contents) : Type 0 where
  pub first : IsSame (serial book head a m) (serial book head a (left_by book head b m))
  pub second : IsSame (serial book head b (left_by book head a m)) (serial book head b m)
  pub cells : left_by book head b (left_by book head a m) ≡ left_by book head a (left_by book head b m)
