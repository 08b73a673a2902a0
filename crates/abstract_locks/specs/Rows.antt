-- Rows, as functions inside go through them.
use Rattle.std.specs.Prelude.{ℕ, Bool, ◌==◌, if◌then◌else◌, true, false, [], ◌∷◌, Option, Some, None, IsTrue}
use Rattle.std.specs.Ordering.{nat_cmp}
use Rattle.std.specs.FinMap.{is_sorted}
use Rattle.cell_names.specs.declared.mode.Mode.{Mode}
use Rattle.cell_names.specs.Modes.{conflicts}
use Rattle.abstract_locks.specs.declared.asked.Asked.{Asked}
use Rattle.abstract_locks.specs.declared.asked.Asked.TheVariants.{Granted, Held}
use Rattle.abstract_locks.specs.Holders.{AreApart}
use Rattle.abstract_locks.specs.Tables.{Row, holders_in}

-- what every row keeps: its tickets strictly ascend, and no two of them hold in conflict
pub record IsRow (row : Row) : Type 0 where
  pub ascends : IsTrue (is_sorted nat_cmp row)
  pub apart : AreApart (holders_in row)

-- how a ticket is answered that asks for a mode, where the first other ticket holds in this one
abbrev pub told : ℕ → Mode → Mode → Asked
told by mode m = if conflicts mode m then Held by mode else Granted

-- the ticket's own place decides nothing, nor does a place with no mode; then the places behind do
abbrev pub decided : Bool → ℕ → Option Mode → Mode → Asked → Asked
decided true n held m behind = behind
decided false n None m behind = behind
decided false n (Some mode) m behind = told n mode m

-- the first ticket but this one that holds in any mode decides, since the others hold in the same
abbrev pub answer_in : Row → ℕ → Mode → Asked
answer_in [] ticket m = Granted
answer_in (p ∷ row) ticket m = decided (p.0 == ticket) p.0 p.1 m (answer_in row ticket m)
