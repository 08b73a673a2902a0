-- How far an operation has come: what it may still spend, and what it has accessed; and what each of these ends it at.
use Rattle.std.specs.Prelude.{ℕ, ◌++◌, ◌∷◌, [], List, Bool, ◌&&◌, not, length, is_some, nat_le, nat_lt, if◌then◌else◌}
use Rattle.michelson_code.specs.declared.why.Why.{Why}
use Rattle.michelson_code.specs.declared.why.Why.TheVariants as why
use Rattle.michelson_rules.specs.declared.ask.Budget.{Budget}
use Rattle.michelson_rules.specs.Metered.{less_room}
use Rattle.cell_names.specs.declared.access.Access.{Access}
use Rattle.cell_names.specs.declared.access.Reply.{Reply}
use Rattle.cell_names.specs.declared.cell.Cell.{Cell}
use Rattle.cell_names.specs.declared.footprint.TheConstants.{MOST_CELLS}
use Rattle.cell_names.specs.declared.mode.Mode.{Mode}
use Rattle.cell_names.specs.Contents.{Contents}
use Rattle.cell_names.specs.Effects.{after, cell_of, mode_needed, reply_to}
use Rattle.cell_names.specs.Footprints.{mode_of, touched}

-- the accesses so far, each with its reply
abbrev pub Past : Type 0
Past = List (Access × Reply)

-- the cells accessed, each with the join of its modes
abbrev pub footprint_from : List (Cell × Mode) → Past → List (Cell × Mode)
footprint_from f [] = f
footprint_from f (e ∷ past) = footprint_from (touched f (cell_of e.0) (mode_needed e.0)) past

abbrev pub footprint_of : Past → List (Cell × Mode)
footprint_of = footprint_from []

-- what is left to spend, and the accesses so far
pub record Course : Type 0 where
  pub left : Budget
  pub past : Past

-- an operation ends with these cells, or by a cause
pub data End : Type 0 where
  Applied : Contents → End
  Failed : Why → End

-- the end, and how far it had come
pub record Serial : Type 0 where
  pub end : End
  pub course : Course

-- what follows, from the cells and the course as they are then
abbrev pub Doing : Type 0
Doing = Contents → Course → Serial

-- it ends by a cause
abbrev pub failed : Why → Doing
failed y m course = record { end = Failed y; course = course }

-- what never comes of a typed script in a lawful state: a contract without a storage, or a code that returns no operations and storage
abbrev pub lost : Doing
lost = failed why.NoSuchContract

-- it ends with the cells as they are
abbrev pub done : Doing
done m course = record { end = Applied m; course = course }

-- room for so many leaves is taken, where there is so much
abbrev pub taking : ℕ → Doing → Doing
taking n next m course =
    if nat_lt course.left.room n then failed why.TooMuchData m course else next m (record { left = less_room course.left n; past = course.past })

-- the access would bring one cell more than an operation may touch
abbrev pub is_one_too_many : Access → Past → Bool
is_one_too_many a past = nat_le MOST_CELLS (length (footprint_of past)) && not (is_some (mode_of (footprint_of past) (cell_of a)))

-- the access is made, and what follows is told its reply
abbrev pub answered : Access → (Reply → Doing) → Doing
answered a next m course =
    next (reply_to a m) (after a m) (record { left = course.left; past = course.past ++ (a, reply_to a m) ∷ [] })

-- the same, unless it would bring a cell too many
abbrev pub accessing : Access → (Reply → Doing) → Doing
accessing a next m course = if is_one_too_many a course.past then failed why.TooManyCells m course else answered a next m course
