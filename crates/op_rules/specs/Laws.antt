-- What is true of operations, whoever runs them.
use Rattle.std.specs.Prelude.{◌≡◌, ◌≢◌, Bool, true, false, Option, Some, None, IsTrue}
use Rattle.std.specs.FinMap.{get}
use Rattle.cell_names.specs.declared.cell.Cell.{Cell}
use Rattle.cell_names.specs.declared.mode.Mode.{Mode}
use Rattle.cell_names.specs.declared.mode.Mode.TheVariants.{Read, Credit, Own}
use Rattle.cell_names.specs.Contents.{Contents}
use Rattle.cell_names.specs.Footprints.{mode_of}
use Rattle.op_rules.specs.Course.{Applied, End, Failed, Past, Serial, footprint_of}
use Rattle.op_rules.specs.Replies.{Gives, after_all}
use Rattle.op_rules.specs.Serial.{cells_after}

-- a mode in which a cell may be changed
abbrev pub may_change : Option Mode → Bool
may_change None = false
may_change (Some Read) = false
may_change (Some Credit) = true
may_change (Some Own) = true

-- an end on cells is one on those that the accesses leave
abbrev pub Lands : Contents → Past → End → Type 0
Lands opening past (Applied m) = m ≡ after_all past opening
Lands opening past (Failed y) = Unit {0}

-- the accesses get their replies on the opening cells, and what is applied is what they leave
pub record GetsReplies (opening : Contents) (s : Serial) : Type 0 where
  pub replies : Gives s.course.past opening
  pub lands : Lands opening s.course.past s.end

-- a cell that has changed was credited or owned
abbrev pub ChangesAreTouched : Contents → Serial → Type 0
ChangesAreTouched opening s = (c : Cell) → get (cells_after opening s) c ≢ get opening c → IsTrue (may_change (mode_of (footprint_of s.course.past) c))
