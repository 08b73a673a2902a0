-- What a log is seen as, and what undoing its last entry does.
use Rattle.std.specs.Prelude.{◌≡◌, ℕ, List, [], ◌∷◌, ◌++◌}
use Rattle.cell_names.specs.declared.access.Undo.{Undo}
use Rattle.cell_names.specs.Conditions.{Seen, CanUndo}
use Rattle.cell_names.specs.Stores.{Undoes}

-- the entries in the order in which they were noted, and how many more may be noted without memory
pub record Log : Type 0 where
  pub entries : List Undo
  pub spare : ℕ

-- the last entry, where there is one, may be undone
abbrev pub CanUndoLast : List Undo → Seen → Type 0
CanUndoLast log seen = (rest : List Undo) (u : Undo) → log ≡ rest ++ u ∷ [] → CanUndo seen u

-- the last entry is undone and gone
pub record UndoesLast (log rest : List Undo) (old new : Seen) : Type 0 where
  pub last : Undo
  pub gone : log ≡ rest ++ last ∷ []
  pub undone : Undoes old last new
