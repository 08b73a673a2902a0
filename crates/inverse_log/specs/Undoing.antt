-- A log that is undone entry by entry, on the way.
use Rattle.std.specs.Prelude.{ℕ, List}
use Rattle.cell_names.specs.declared.access.Undo.{Undo}
use Rattle.cell_names.specs.Contents.{Contents}
use Rattle.cell_names.specs.Conditions.{Seen}
use Rattle.cell_names.specs.Stores.{Stays}
use Rattle.inverse_log.specs.Ends.{LeadsTo, LeadsSomewhere}

-- what is left of the log leads where all of it led
pub record IsOnTheWay (log left : List Undo) (old now : Seen) : Type 0 where
  pub somewhere : LeadsSomewhere left now
  pub on : (m : Contents) (f : ℕ) → LeadsTo log old m f → LeadsTo left now m f
  pub stays : Stays old now
