-- What is true of runs of operations, one after another.
use Rattle.std.specs.Prelude.{◌≡◌, ◌≢◌, List, [], ◌∷◌, ◌++◌, length, Any, IsTrue}
use Rattle.std.specs.FinMap.{get}
use Rattle.cell_names.specs.declared.cell.Cell.{Cell}
use Rattle.cell_names.specs.declared.mode.Mode.{Mode}
use Rattle.cell_names.specs.Contents.{Contents}
use Rattle.cell_names.specs.Footprints.{mode_of}
use Rattle.op_rules.specs.declared.op.Op.{Op}
use Rattle.op_rules.specs.Course.{Serial, footprint_of}
use Rattle.op_rules.specs.Laws.{may_change}
use Rattle.op_rules.specs.Serial.{Run, cells_after, receipt_of}

-- nothing was run: the cells are as they were
pub record IsOfNone (opening : Contents) (run : Run) : Type 0 where
  pub cells : run.cells ≡ opening
  pub receipts : run.receipts ≡ []
  pub footprints : run.footprints ≡ []

-- one operation was run: what the run tells is its receipt and its footprint, and the cells are those that it leaves
pub record IsOfOne (opening : Contents) (op : Op) (s : Serial) (run : Run) : Type 0 where
  pub cells : run.cells ≡ cells_after opening s
  pub receipts : run.receipts ≡ receipt_of op s ∷ []
  pub footprints : run.footprints ≡ footprint_of s.course.past ∷ []

-- one run and then another: the cells of the second, and what both tell, joined
pub record IsOneAfterTheOther (first second whole : Run) : Type 0 where
  pub cells : whole.cells ≡ second.cells
  pub receipts : whole.receipts ≡ first.receipts ++ second.receipts
  pub footprints : whole.footprints ≡ first.footprints ++ second.footprints

-- a receipt and a footprint for each operation
pub record TellsOfEach (ops : List Op) (run : Run) : Type 0 where
  pub receipts : length run.receipts ≡ length ops
  pub footprints : length run.footprints ≡ length ops

-- some footprint has the cell credited or owned
abbrev pub MayHaveChanged : List (List (Cell × Mode)) → Cell → Type 0
MayHaveChanged footprints c = Any (λ f. IsTrue (may_change (mode_of f c))) footprints

-- each cell that has changed was credited or owned by some operation
abbrev pub ChangesAreInFootprints : Contents → Run → Type 0
ChangesAreInFootprints opening run = (c : Cell) → get run.cells c ≢ get opening c → MayHaveChanged run.footprints c
