-- Accesses with their replies, against cells: which cells give them, what the accesses leave, and which replies may come.
use Rattle.std.specs.Prelude.{◌≡◌, ℕ, ◌+◌, ◌-◌, ◌<◌, ◌^◌, Bool, true, false, [], ◌∷◌, length, take, Option, Some, None}
use Rattle.std.specs.FinMap.{get}
use Rattle.value_core.specs.declared.val.Val.{Val}
use Rattle.cell_names.specs.declared.access.Access.{Access}
use Rattle.cell_names.specs.declared.access.Access.TheVariants as access
use Rattle.cell_names.specs.declared.access.Reply.{Reply}
use Rattle.cell_names.specs.declared.access.Reply.TheVariants as reply
use Rattle.cell_names.specs.declared.cell.Cell.{Cell}
use Rattle.cell_names.specs.declared.cell.Cell.TheVariants as cell
use Rattle.cell_names.specs.Contents.{Contents, IsTidy}
use Rattle.cell_names.specs.Effects.{after, reply_to}
use Rattle.cell_names.specs.Supply.{supply}
use Rattle.code_book.specs.Books.{Contracts}
use Rattle.code_book.specs.Fits.{fits}
use Rattle.op_rules.specs.Course.{Past}

-- what accesses, one after another, leave of cells
abbrev pub after_all : Past → Contents → Contents
after_all [] m = m
after_all (e ∷ past) m = after_all past (after e.0 m)

-- on these cells the accesses, one after another, get these replies
abbrev pub Gives : Past → Contents → Type 0
Gives [] m = Unit {0}
Gives (e ∷ past) m = (reply_to e.0 m ≡ e.1) × Gives past (after e.0 m)

-- what is in flight after an access that got this reply
abbrev pub flight_by : Access → Reply → ℕ → ℕ
flight_by (access.Read c) r f = f
flight_by (access.Write c v) r f = f
flight_by (access.Credit a n) r f = f - n
flight_by (access.Debit a n) reply.Done f = f + n
flight_by (access.Debit a n) reply.Low f = f
flight_by (access.Debit a n) (reply.Value v) f = f

-- what was debited and isn't credited yet, after accesses that began with so much in flight
abbrev pub flight_from : ℕ → Past → ℕ
flight_from f [] = f
flight_from f (e ∷ past) = flight_from (flight_by e.0 e.1 f) past

abbrev pub flight_of : Past → ℕ
flight_of = flight_from 0

-- the accesses begin with these
abbrev pub BeginWith : Past → Past → Type 0
BeginWith first past = take (length first) past ≡ first

-- ---- replies that may come

-- a cell that isn't a storage; a storage of a contract is there
abbrev pub may_be_absent : Cell → Bool
may_be_absent (cell.Balance address) = true
may_be_absent (cell.Storage address) = false
may_be_absent (cell.Entry address place key) = true

-- what may stand in a cell by a book
abbrev pub may_hold : Contracts → Cell → Option Val → Bool
may_hold book c None = may_be_absent c
may_hold book c (Some v) = fits book c v

-- whether an access can get the reply: a read what may stand in the cell, a debit that it is done or too large, any other that it is done
abbrev pub can_get : Contracts → Access → Reply → Bool
can_get book (access.Read c) (reply.Value held) = may_hold book c held
can_get book (access.Read c) reply.Done = false
can_get book (access.Read c) reply.Low = false
can_get book (access.Debit a n) (reply.Value held) = false
can_get book (access.Debit a n) reply.Done = true
can_get book (access.Debit a n) reply.Low = true
can_get book (access.Write c v) (reply.Value held) = false
can_get book (access.Write c v) reply.Done = true
can_get book (access.Write c v) reply.Low = false
can_get book (access.Credit a n) (reply.Value held) = false
can_get book (access.Credit a n) reply.Done = true
can_get book (access.Credit a n) reply.Low = false

-- ---- cells that a book may have

-- each value fits the book, no balance of 0 stands, and all money, with what is in flight, stays below 2^63
pub record AreLawful (book : Contracts) (m : Contents) (f : ℕ) : Type 0 where
  pub values : (c : Cell) (v : Val) → get m c ≡ Some v → fits book c v ≡ true
  pub tidy : IsTidy m
  pub money : supply m + f < 2 ^ 63
