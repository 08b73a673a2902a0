-- What an access needs, what it is answered and what it leaves; and what an undo leaves.
use Rattle.std.specs.Prelude.{ℕ, ◌+◌, ◌-◌, nat_lt, if◌then◌else◌}
use Rattle.std.specs.FinMap.{get}
use Rattle.cell_names.specs.declared.cell.Cell.{Cell}
use Rattle.cell_names.specs.declared.cell.Cell.TheVariants as cell
use Rattle.cell_names.specs.declared.mode.Mode.{Mode}
use Rattle.cell_names.specs.declared.mode.Mode.TheVariants as mode
use Rattle.cell_names.specs.declared.access.Access.{Access}
use Rattle.cell_names.specs.declared.access.Access.TheVariants as access
use Rattle.cell_names.specs.declared.access.Reply.{Reply}
use Rattle.cell_names.specs.declared.access.Reply.TheVariants as reply
use Rattle.cell_names.specs.declared.access.Undo.{Undo}
use Rattle.cell_names.specs.declared.access.Undo.TheVariants as undo
use Rattle.cell_names.specs.Contents.{Contents, put, balance, with_balance}

-- ---- accesses

-- the cell that is touched
abbrev pub cell_of : Access → Cell
cell_of (access.Read c) = c
cell_of (access.Write c v) = c
cell_of (access.Credit a n) = cell.Balance a
cell_of (access.Debit a n) = cell.Balance a

-- the mode in which it is touched
abbrev pub mode_needed : Access → Mode
mode_needed (access.Read c) = mode.Read
mode_needed (access.Write c v) = mode.Own
mode_needed (access.Credit a n) = mode.Credit
mode_needed (access.Debit a n) = mode.Own

-- what is answered; a debit above the balance is Low
abbrev pub reply_to : Access → Contents → Reply
reply_to (access.Read c) m = reply.Value (get m c)
reply_to (access.Write c v) m = reply.Done
reply_to (access.Credit a n) m = reply.Done
reply_to (access.Debit a n) m = if nat_lt (balance m a) n then reply.Low else reply.Done

-- what stands in cells afterwards
abbrev pub after : Access → Contents → Contents
after (access.Read c) m = m
after (access.Write c v) m = put m c v
after (access.Credit a n) m = with_balance m a (balance m a + n)
after (access.Debit a n) m = if nat_lt (balance m a) n then m else with_balance m a (balance m a - n)

-- what is in flight afterwards
abbrev pub flight_after : Access → Contents → ℕ → ℕ
flight_after (access.Read c) m f = f
flight_after (access.Write c v) m f = f
flight_after (access.Credit a n) m f = f - n
flight_after (access.Debit a n) m f = if nat_lt (balance m a) n then f else f + n

-- what takes the access back
abbrev pub undo_of : Access → Contents → Undo
undo_of (access.Read c) m = undo.Nothing
undo_of (access.Write c v) m = undo.Put c (get m c)
undo_of (access.Credit a n) m = undo.Uncredit a n
undo_of (access.Debit a n) m = if nat_lt (balance m a) n then undo.Nothing else undo.Undebit a n

-- ---- undos

-- what stands in cells once it is undone
abbrev pub undone : Undo → Contents → Contents
undone undo.Nothing m = m
undone (undo.Put c v) m = put m c v
undone (undo.Uncredit a n) m = with_balance m a (balance m a - n)
undone (undo.Undebit a n) m = with_balance m a (balance m a + n)

-- what is in flight once it is undone
abbrev pub flight_undone : Undo → ℕ → ℕ
flight_undone undo.Nothing f = f
flight_undone (undo.Put c v) f = f
flight_undone (undo.Uncredit a n) f = f + n
flight_undone (undo.Undebit a n) f = f - n
