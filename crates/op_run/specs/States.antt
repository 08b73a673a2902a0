-- What comes of a run between two of its steps, and what a step leaves.
use Rattle.std.specs.Prelude.{◌≡◌, ◌-◌, Option, Some, None}
use Rattle.michelson_code.specs.declared.why.Why.{Why}
use Rattle.cell_names.specs.declared.access.Access.{Access}
use Rattle.cell_names.specs.declared.head.Head.{Head}
use Rattle.cell_names.specs.Contents.{Contents}
use Rattle.code_book.specs.Books.{Contracts}
use Rattle.op_rules.specs.declared.op.Op.{Op}
use Rattle.op_rules.specs.Course.{Course, Doing, Past, Serial, accessing, failed}
use Rattle.op_run.specs.declared.phase.Phase.{Phase}
use Rattle.op_run.specs.declared.phase.Phase.TheVariants as phase
use Rattle.op_run.specs.declared.phase.Then.{Then}
use Rattle.op_run.specs.declared.state.State.{State}
use Rattle.op_run.specs.Phases.{goes, then_goes}

-- how far it has come
abbrev pub course_of : State → Course
course_of s = record { left = s.left; past = s.log }

-- what it does from a phase
abbrev pub goes_from : State → Phase → Doing
goes_from s = goes s.book.now s.head s.op.now.source s.calls s.pending

-- what comes of it in a phase, where the cells are these now
abbrev pub outcome_at : State → Phase → Contents → Serial
outcome_at s p m = goes_from s p m (course_of s)

-- what comes of it
abbrev pub outcome_of : State → Contents → Serial
outcome_of s = outcome_at s s.phase

-- the phase in which it is over
abbrev pub over_at : State → Option Why → Phase
over_at s end = phase.Over (record { end = end; gas = s.op.now.gas - s.left.gas })

-- what comes of an access that it asks for
abbrev pub asking : State → Access → Then → Contents → Serial
asking s a next m = accessing a (then_goes s.book.now s.head s.op.now.source s.calls s.pending a next) m (course_of s)

-- what comes of a failure
abbrev pub failing : State → Why → Contents → Serial
failing s y m = failed y m (course_of s)

-- the access whose reply is waited for
abbrev pub awaited_in : Phase → Option Access
awaited_in (phase.Waiting a next) = Some a
awaited_in _ = None

abbrev pub awaited : State → Option Access
awaited s = awaited_in s.phase

-- ---- what a step leaves

-- the contracts, the block, the operation and the accesses so far
pub record Setting : Type 0 where
  pub book : Contracts
  pub head : Head
  pub op : Op
  pub log : Past

abbrev pub setting_of : State → Setting
setting_of s = record { book = s.book.now; head = s.head; op = s.op.now; log = s.log }

pub record IsSameSetting (old new : Setting) : Type 0 where
  pub book : new.book ≡ old.book
  pub head : new.head ≡ old.head
  pub op : new.op ≡ old.op
  pub log : new.log ≡ old.log

abbrev pub Stays : State → State → Type 0
Stays old new = IsSameSetting (setting_of old) (setting_of new)
