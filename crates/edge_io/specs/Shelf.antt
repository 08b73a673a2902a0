-- Files in memory: what they hold, and what each call makes of them.
use Rattle.std.specs.Prelude.{◌≡◌, ℕ, ◌==◌, ◌||◌, ◌&&◌, max, Bool, true, false, List, [], length, Some, is_none, Result, Ok, Err, refl}
use Rattle.std.specs.Option.{option_map, unwrap_or}
use Rattle.std.specs.List.{list_any}
use Rattle.std.specs.Global.{Vec}
use Rattle.std.specs.Coded.{Coded, code_by, coded×, coded_ℕ, coded_list}
use Rattle.std.specs.FinMap as map
use Rattle.std.specs.Ordering.{nat_cmp}
use Rattle.std.specs.Cmp.Lexicographic.{slice_cmp}
use Rattle.edge_io.specs.Outside.{Held, Outside, next}
use Rattle.edge_io.specs.declared.files.Failed.{Failed}
use Rattle.edge_io.specs.declared.files.ReadEnd.{ReadEnd}
use Rattle.edge_io.specs.declared.files.ReadEnd.TheVariants as ends

-- beside a name's content: the room that it has, and its counts
pub record Marks : Type 0 where
  pub room : ℕ
  pub read_faults : ℕ
  pub write_faults : ℕ
  pub long_reads : ℕ

-- the marks of a name that nothing was done with
abbrev pub no_marks : Marks
no_marks = record { room = 0; read_faults = 0; write_faults = 0; long_reads = 0 }

-- marks by names
abbrev pub Marked : Type 0
Marked = map.FinMap (slice_cmp nat_cmp) Marks

-- contents and marks by names, how many reads and writes were made, and the numbers of those that fail
pub record Shelf : Type 0 where
  pub held : Held
  pub marked : Marked
  pub reads : ℕ
  pub writes : ℕ
  pub failing_reads : List ℕ
  pub failing_writes : List ℕ

-- marks are stored as the pairs of their fields
abbrev pub marks_code : Coded Marks
marks_code =
    code_by (ℕ × (ℕ × (ℕ × ℕ))) (coded× coded_ℕ (coded× coded_ℕ (coded× coded_ℕ coded_ℕ))) (λ m. (m.room, (m.read_faults, (m.write_faults, m.long_reads)))) (λ p. record { room = p.0; read_faults = p.1.0; write_faults = p.1.1.0; long_reads = p.1.1.1 }) (λ _. refl)

-- a shelf is stored as the pairs of its fields
abbrev pub shelf_code : Coded Shelf
shelf_code =
    let lists = coded× (coded_list coded_ℕ) (coded_list coded_ℕ) in
    code_by (Held × (Marked × (ℕ × (ℕ × (List ℕ × List ℕ))))) (coded× (map.code (coded_list coded_ℕ) (coded_list coded_ℕ)) (coded× (map.code (coded_list coded_ℕ) marks_code) (coded× coded_ℕ (coded× coded_ℕ lists)))) (λ s. (s.held, (s.marked, (s.reads, (s.writes, (s.failing_reads, s.failing_writes)))))) (λ p. record { held = p.0; marked = p.1.0; reads = p.1.1.0; writes = p.1.1.1.0; failing_reads = p.1.1.1.1.0; failing_writes = p.1.1.1.1.1 }) (λ _. refl)

-- the marks of a name
abbrev pub marks_at : Marked → List ℕ → Marks
marks_at marked q = unwrap_or (map.get marked q) no_marks

-- what a program sees of contents and marks
abbrev pub seen_as : Held → Marked → Outside
seen_as held marked = record {
  told = Some held;
  read_faults = λ q. (marks_at marked q).read_faults;
  write_faults = λ q. (marks_at marked q).write_faults;
  long_reads = λ q. (marks_at marked q).long_reads;
  room = λ q. option_map (λ m. m.room) (map.get marked q);
}

-- what a program sees of files in memory
abbrev pub outside_of : Shelf → Outside
outside_of shelf = seen_as shelf.held shelf.marked

-- a shelf with nothing on it
abbrev pub bare : Shelf
bare = record { held = map.empty; marked = map.empty; reads = 0; writes = 0; failing_reads = []; failing_writes = [] }

-- the call of that number is one that fails
abbrev pub is_due : List ℕ → ℕ → Bool
is_due failing n = list_any (λ k. k == n) failing

-- a name with a room of at least so many bytes
abbrev pub roomy : Marks → ℕ → Marks
roomy m n = record m { room = max m.room n }

-- marks of a name after a read that ended so
abbrev pub marks_read : Marks → Result (Vec ℕ) ReadEnd → Marks
marks_read m (Ok v) = m
marks_read m (Err ends.Failed) = record m { read_faults = next m.read_faults }
marks_read m (Err ends.TooLong) = record m { long_reads = next m.long_reads }
marks_read m (Err ends.NoMemory) = m

-- marks of a name after a write that failed
abbrev pub marks_unwritten : Marks → Marks
marks_unwritten m = record m { write_faults = next m.write_faults }

-- a read fails exactly where it is to; one that is to fail takes memory only for a name that has no marks yet
abbrev pub FailsWhere : Bool → Bool → Result (Vec ℕ) ReadEnd → Type 0
FailsWhere due known (Ok v) = due ≡ false
FailsWhere due known (Err ends.Failed) = due ≡ true
FailsWhere due known (Err ends.TooLong) = due ≡ false
FailsWhere due known (Err ends.NoMemory) = (due && known) ≡ false

-- the next read of the name is to fail: its number is due, or the name isn't there
abbrev pub read_due : Shelf → List ℕ → Bool
read_due shelf name = is_due shelf.failing_reads shelf.reads || is_none (map.get shelf.held name)

-- the number of reads after one that ended so: it counts unless memory ran out
abbrev pub reads_after : ℕ → Result (Vec ℕ) ReadEnd → ℕ
reads_after n (Ok v) = next n
reads_after n (Err ends.Failed) = next n
reads_after n (Err ends.TooLong) = next n
reads_after n (Err ends.NoMemory) = n

-- marks by names after a read that ended so: its fault is counted at its name
abbrev pub marked_read : Marked → List ℕ → Result (Vec ℕ) ReadEnd → Marked
marked_read marked name (Ok v) = marked
marked_read marked name (Err ends.Failed) = map.insert marked name (marks_read (marks_at marked name) (Err ends.Failed))
marked_read marked name (Err ends.TooLong) = map.insert marked name (marks_read (marks_at marked name) (Err ends.TooLong))
marked_read marked name (Err ends.NoMemory) = marked

-- what a read leaves
abbrev pub after_read : Shelf → List ℕ → Result (Vec ℕ) ReadEnd → Shelf
after_read old name result = record old { reads = reads_after old.reads result; marked = marked_read old.marked name result }

-- marks by names, with a room of at least so many bytes at one
abbrev pub marked_roomy : Marked → List ℕ → ℕ → Marked
marked_roomy marked name n = map.insert marked name (roomy (marks_at marked name) n)

-- what a call that made room leaves
abbrev pub after_ready : Shelf → List ℕ → ℕ → Shelf
after_ready old name n = record old { marked = marked_roomy old.marked name n }

-- what a call that put bytes under a name leaves
abbrev pub after_put : Shelf → List ℕ → List ℕ → Shelf
after_put old name bytes = record old { held = map.insert old.held name bytes; marked = marked_roomy old.marked name (length bytes) }

-- contents after a write that ended so
abbrev pub held_written : Held → List ℕ → List ℕ → Result Unit Failed → Held
held_written held name bytes (Ok _) = map.insert held name bytes
held_written held name bytes (Err _) = held

-- marks by names after a write that ended so: its fault is counted at its name
abbrev pub marked_written : Marked → List ℕ → Result Unit Failed → Marked
marked_written marked name (Ok _) = marked
marked_written marked name (Err _) = map.insert marked name (marks_unwritten (marks_at marked name))

-- what a write leaves
abbrev pub after_write : Shelf → List ℕ → List ℕ → Result Unit Failed → Shelf
after_write old name bytes result = record old { held = held_written old.held name bytes result; marked = marked_written old.marked name result; writes = next old.writes }
