-- What a reply leaves of a run whose access isn't noted yet.
use Rattle.std.specs.Prelude.{◌≡◌}
use Rattle.cell_names.specs.declared.access.Access.{Access}
use Rattle.cell_names.specs.declared.access.Reply.{Reply}
use Rattle.cell_names.specs.Contents.{Contents}
use Rattle.cell_names.specs.Effects.{after, reply_to}
use Rattle.op_rules.specs.Course.{Doing, Past}
use Rattle.op_rules.specs.Replies.{flight_by, flight_of}
use Rattle.op_run.specs.declared.phase.Then.{Then}
use Rattle.op_run.specs.declared.phase.Phase.TheVariants as phase
use Rattle.op_run.specs.declared.state.State.{State}
use Rattle.op_run.specs.Phases.{then_goes}
use Rattle.op_run.specs.Safe.{Safe, SafeAt}
use Rattle.op_run.specs.Sound.{SoundIn, charged}
use Rattle.op_run.specs.States.{goes_from}

-- what goes on with the reply
abbrev pub goes_with : State → Access → Then → Reply → Doing
goes_with s = then_goes s.book.now s.head s.op.now.source s.calls s.pending

-- it is what goes on from the new phase, whatever the accesses so far
abbrev pub ResumedSame : State → Access → Then → Reply → State → Type 0
ResumedSame old a then r new = (m : Contents) (past : Past) →
    goes_with old a then r m (record { left = old.left; past = past }) ≡ goes_from new new.phase m (record { left = new.left; past = past })

-- the phase is sound with what is in flight now
abbrev pub ResumedSound : State → Access → Reply → State → Type 0
ResumedSound old a r new = SoundIn new.book.now (flight_by a r (flight_of old.log)) (charged new) new.phase

-- on cells that give the reply it is as safe as it was
abbrev pub ResumedSafe : State → Access → Then → Reply → State → Type 0
ResumedSafe old a then r new = (m : Contents) → reply_to a m ≡ r → SafeAt old (phase.Waiting a then) m → Safe new (after a m)
