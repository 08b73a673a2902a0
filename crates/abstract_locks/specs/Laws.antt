-- What is true of requests and grants.
use Rattle.std.specs.Prelude.{◌≡◌, ◌≢◌, ℕ, Some}
use Rattle.cell_names.specs.declared.cell.Cell.{Cell}
use Rattle.cell_names.specs.declared.mode.Mode.{Mode}
use Rattle.abstract_locks.specs.Holders.{Holders, asked}

-- after a grant the ticket holds the cell in the mode that it asked for, and all else is held as before
pub record IsGrant (before after : Cell → Holders) (c : Cell) (ticket : ℕ) (m : Mode) : Type 0 where
  pub here : after c ticket ≡ Some (asked (before c) ticket m)
  pub tickets : (d : Cell) (n : ℕ) → n ≢ ticket → after d n ≡ before d n
  pub cells : (d : Cell) (n : ℕ) → d ≢ c → after d n ≡ before d n
