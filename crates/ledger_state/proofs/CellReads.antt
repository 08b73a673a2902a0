-- A cell that is read with its value and added, where it stops, and cells that are read whole.
use Rattle.std.proofs.Common.{◌≡◌, ℕ, ◌-◌, ◌<◌, true, false, List, [], length, Option, Some, None, Ok, Err, refl, sym, ap, subst, ◌∙◌}
use Rattle.std.specs.Prelude.{is_none, is_some}
use Rattle.std.specs.FinMap.{empty, entries, from_sorted, get}
use Rattle.byte_fields.specs.declared.fault.ReadStop.{ReadStop}
use Rattle.byte_fields.specs.Stops.{Faulty, Stop, Stopped}
use Rattle.byte_fields.specs.Readers.{Read, after, chained, checked, made}
use Rattle.byte_fields.specs.Told.{IsStop, read_stop}
use Rattle.byte_fields.proofs.Loops.{ends, with_front}
use Rattle.value_core.specs.declared.val.Val.{Val}
use Rattle.value_codec.specs.Reading.{value}
use Rattle.cell_names.specs.declared.cell.Cell.{Cell}
use Rattle.cell_names.specs.Cells.{cell_cmp}
use Rattle.cell_names.specs.Contents.{Contents}
use Rattle.cell_names.specs.Reading.{cell, is_above}
use Rattle.cell_names.specs.Supply.{supply}
use Rattle.code_book.specs.Books.{Contracts}
use Rattle.ledger_cells.specs.LedgerCells.{LedgerCells}
use Rattle.ledger_cells.specs.Placing.{IsAdded, IsTold, misplaced}
use Rattle.ledger_cells.specs.declared.fault.AddEnd.{AddEnd}
use Rattle.ledger_cells.specs.declared.fault.AddEnd.TheVariants as ends
use Rattle.ledger_state.specs.Inside.{IsReadInto, before, stop_at}
use Rattle.ledger_state.specs.Reading.{Before, cells, held, may_stand, next, rows, start, value_in}
use Rattle.ledger_state.specs.Storages.{has_storages, least_bare}
use Rattle.ledger_state.proofs.Adding.{may_not_stand, may_stand_from}
use Rattle.ledger_state.proofs.CellLaws.{Held, money}
use Rattle.ledger_state.proofs.Combined.{checked_fails, checked_passes, made_reads_so, stops_first, stops_later}
use Rattle.ledger_state.proofs.Growing.{begins, nothing}

-- ---- a value

value_read : (s : LedgerCells) (c : Cell) (v : Val) (bytes rest : List ℕ) → s.flight ≡ 0 → value 18 128 bytes ≡ Ok (v, rest) → misplaced s c v ≡ None → value_in s.book (supply s.cells) c bytes ≡ Ok ((c, v), rest)
value_read s c v bytes rest none was free =
    made_reads_so (λ w. let e : Held = (c, w) in e) (checked (may_stand s.book (supply s.cells) c) (value 18 128)) bytes v rest
    (checked_passes (may_stand s.book (supply s.cells) c) (value 18 128) bytes v rest was (may_stand_from s c v none free))

value_fails : (s : LedgerCells) (c : Cell) (v : Val) (end : AddEnd) (bytes rest : List ℕ) → s.flight ≡ 0 → get s.cells c ≡ None → value 18 128 bytes ≡ Ok (v, rest) → misplaced s c v ≡ Some end →
    value_in s.book (supply s.cells) c bytes ≡ Err (Stopped Faulty (length bytes))
value_fails s c v end bytes rest none new was why =
    ap (λ (y : Read Val). after y (λ w left. let r : Read Held = Ok ((c, w), left) in r))
    (checked_fails (may_stand s.book (supply s.cells) c) (value 18 128) bytes v rest was (may_not_stand s c v end none new why))

-- the value fits, and is added
pub read_into : (old new : LedgerCells) (c : Cell) (v : Val) (bytes rest : List ℕ) → old.flight ≡ 0 → value 18 128 bytes ≡ Ok (v, rest) → misplaced old c v ≡ None → IsAdded old c v new →
    IsReadInto (value_in old.book (supply old.cells) c) bytes old c new rest
read_into old new c v bytes rest none was free added = record { value = v; was = value_read old c v bytes rest none was free; book = added.book; cells = added.cells; flight = added.flight }

-- it doesn't fit, and its tag is where reading stops
stops_by : (s : LedgerCells) (c : Cell) (v : Val) (end : AddEnd) (bytes rest : List ℕ) → s.flight ≡ 0 → get s.cells c ≡ None → value 18 128 bytes ≡ Ok (v, rest) → IsTold end (misplaced s c v) →
    IsStop (read_stop (stop_at (length bytes) end)) (value_in s.book (supply s.cells) c bytes)
stops_by s c v ends.Misfit bytes rest none new was why = value_fails s c v ends.Misfit bytes rest none new was why
stops_by s c v ends.Twice bytes rest none new was why = value_fails s c v ends.Twice bytes rest none new was why
stops_by s c v ends.TooMuch bytes rest none new was why = value_fails s c v ends.TooMuch bytes rest none new was why
stops_by s c v ends.NoMemory bytes rest none new was why = tt

pub stops_at_value : (s : LedgerCells) (c : Cell) (v : Val) (end : AddEnd) (stop : ReadStop) (bytes rest : List ℕ) → s.flight ≡ 0 → get s.cells c ≡ None → value 18 128 bytes ≡ Ok (v, rest) → IsTold end (misplaced s c v) →
    stop ≡ stop_at (length bytes) end → IsStop (read_stop stop) (value_in s.book (supply s.cells) c bytes)
stops_at_value s c v end stop bytes rest none new was why is =
    subst (λ (t : ReadStop). IsStop (read_stop t) (value_in s.book (supply s.cells) c bytes)) (sym is) (stops_by s c v end bytes rest none new was why)

-- reading the value stops
pub stops_in_value : (stop : Option Stop) (s : LedgerCells) (c : Cell) (bytes : List ℕ) → IsStop stop (value 18 128 bytes) → IsStop stop (value_in s.book (supply s.cells) c bytes)
stops_in_value stop s c bytes is =
    stops_first stop (checked (may_stand s.book (supply s.cells) c) (value 18 128) bytes) (λ w left. let r : Read Held = Ok ((c, w), left) in r)
    (stops_first stop (value 18 128 bytes) _ is)

-- ---- a cell with its value

-- the cell by an equal one
pub held_into : (last : Option Cell) (old new : LedgerCells) (c name : Cell) (bytes mid rest : List ℕ) → name ≡ c → checked (is_above last) cell bytes ≡ Ok (c, mid) →
    IsReadInto (value_in old.book (supply old.cells) c) mid old c new rest → IsReadInto (held old.book (before last old.cells)) bytes old name new rest
held_into last old new c name bytes mid rest same named read =
    subst (λ (d : Cell). IsReadInto (held old.book (before last old.cells)) bytes old d new rest) (sym same) (record {
      value = read.value;
      was = ap (λ (y : Read Cell). after y (value_in old.book (supply old.cells))) named ∙ read.was;
      book = read.book;
      cells = read.cells;
      flight = read.flight;
    })

pub stops_at_name : (stop : Option Stop) (last : Option Cell) (s : LedgerCells) (bytes : List ℕ) → IsStop stop (checked (is_above last) cell bytes) → IsStop stop (held s.book (before last s.cells) bytes)
stops_at_name stop last s bytes is = stops_first stop (checked (is_above last) cell bytes) (value_in s.book (supply s.cells)) is

pub stops_behind_name : (stop : Option Stop) (last : Option Cell) (s : LedgerCells) (c : Cell) (bytes mid : List ℕ) → checked (is_above last) cell bytes ≡ Ok (c, mid) →
    IsStop stop (value_in s.book (supply s.cells) c mid) → IsStop stop (held s.book (before last s.cells) bytes)
stops_behind_name stop last s c bytes mid named is = stops_later stop (checked (is_above last) cell bytes) (value_in s.book (supply s.cells)) c mid named is

-- ---- so many cells

-- nothing is read yet
pub none_read : (book : Contracts) (m : Contents) (count : ℕ) (bytes : List ℕ) → m ≡ empty →
    with_front (entries m) (chained (held book) next (before None m) (count - 0) bytes) ≡ chained (held book) next start count bytes
none_read book m count bytes is =
    let none : entries m ≡ [] = ap entries is ∙ nothing cell_cmp in
    begins (held book) next (before None m) (entries m) count bytes none
    ∙ ap (λ n. let b : Before = record { last = None; supply = n } in chained (held book) next b count bytes) (ap money none)

-- a stop of the next cell is one of the list
pub next_stops : (stop : Option Stop) (book : Contracts) (last given : Option Cell) (s : LedgerCells) (count i : ℕ) (bytes : List ℕ) (total : Read (List Held)) → given ≡ last → s.book ≡ book → i < count →
    IsStop stop (held s.book (before given s.cells) bytes) → with_front (entries s.cells) (chained (held book) next (before last s.cells) (count - i) bytes) ≡ total → IsStop stop total
next_stops stop book last given s count i bytes total same made_for lt is so_far =
    let of_last = subst (λ (o : Option Cell). IsStop stop (held s.book (before o s.cells) bytes)) same is in
    let of_book = subst (λ (b : Contracts). IsStop stop (held b (before last s.cells) bytes)) made_for of_last in
    ends stop (held book) next (before last s.cells) (entries s.cells) count i bytes total lt of_book so_far

-- ---- storages

pub housed_read : (book : Contracts) (m : Contents) (bytes rest : List ℕ) → made from_sorted (rows book) bytes ≡ Ok (m, rest) → least_bare book m ≡ None → cells book bytes ≡ Ok (m, rest)
housed_read book m bytes rest was none = checked_passes (has_storages book) (made from_sorted (rows book)) bytes m rest was (ap is_none none)

is_there : (o : Option (List ℕ)) → is_some o ≡ true → is_none o ≡ false
is_there None h = absurd cc
is_there (Some address) h = refl

pub stops_unhoused : (book : Contracts) (m : Contents) (bytes rest : List ℕ) → made from_sorted (rows book) bytes ≡ Ok (m, rest) → is_some (least_bare book m) ≡ true → cells book bytes ≡ Err (Stopped Faulty (length bytes))
stops_unhoused book m bytes rest was bare = checked_fails (has_storages book) (made from_sorted (rows book)) bytes m rest was (is_there (least_bare book m) bare)
