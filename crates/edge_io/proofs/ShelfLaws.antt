-- What is done to contents and marks in memory is what the clauses of files allow.
use Rattle.std.proofs.Common.{◌≡◌, ◌≢◌, ℕ, ◌<◌, ◌≤◌, Bool, true, false, cond, List, length, Option, Some, None, Result, Ok, Err, refl, sym, ap, subst, ◌∙◌, arith, le_refl}
use Rattle.std.specs.Prelude.{IsSomeAnd, IfOk, OnOk, OnErr, IsErrOf}
use Rattle.std.specs.Option.{option_map, unwrap_or}
use Rattle.std.specs.Str.{bytes_eq}
use Rattle.std.specs.Global.{Vec}
use Rattle.std.specs.FinMap.{get, insert}
use Rattle.edge_io.specs.Outside.{Held, HasRoom, GoesOn, SameCounts, ReadsFile, MakesRoom, WritesFile, most_bytes}
use Rattle.edge_io.specs.Shelf.{Marks, Marked, no_marks, marks_at, seen_as, marks_read, marks_unwritten, roomy, marked_read, marked_roomy, marked_written, held_written}
use Rattle.edge_io.proofs.SlotMaps.{same_bytes, bytes_eq-itself, get-put}
use Rattle.edge_io.specs.declared.files.Failed.{Failed}
use Rattle.edge_io.specs.declared.files.ReadEnd.{ReadEnd}
use Rattle.edge_io.specs.declared.files.ReadEnd.TheVariants as ends

goes_itself : (held held' : Held) (marked : Marked) → GoesOn (seen_as held marked) (seen_as held' marked)
goes_itself held held' marked = record { reads = λ q. le_refl _; writes = λ q. le_refl _; longs = λ q. le_refl _; rooms = λ q n h. h; tells = refl }

-- marks of which none is less
record Above (m m' : Marks) : Type 0 where
  room : m.room ≤ m'.room
  reads : m.read_faults ≤ m'.read_faults
  writes : m.write_faults ≤ m'.write_faults
  longs : m.long_reads ≤ m'.long_reads

room_above : (o : Option Marks) (m : Marks) (n : ℕ) → (unwrap_or o no_marks).room ≤ m.room → IsSomeAnd (option_map (λ x. x.room) o) (λ most. n ≤ most) → n ≤ m.room
room_above (Some x) m n above room = omega arith
room_above None m n above room = absurd room

module _ (marked : Marked) (name : List ℕ) (m : Marks) where
  pub elsewhere : (q : List ℕ) → q ≢ name → get (insert marked name m) q ≡ get marked q
  elsewhere q apart =
      let by_cases : (b : Bool) → bytes_eq q name ≡ b → cond b (Some m) (get marked q) ≡ get marked q = λ b. elim b as (λ v. bytes_eq q name ≡ v → cond v (Some m) (get marked q) ≡ get marked q) [
        | true ↦ λ e. absurd (apart (same_bytes q name e))
        | false ↦ λ e. refl
      ] in
      get-put marked name m q ∙ by_cases (bytes_eq q name) refl

  pub there_now : get (insert marked name m) name ≡ Some m
  there_now = get-put marked name m name ∙ ap (λ (b : Bool). cond b (Some m) (get marked name)) (bytes_eq-itself name)

  at_each : (P : Option Marks → Option Marks → Type 0) (q : List ℕ) → P (get marked name) (Some m) → ((o : Option Marks) → P o o) → P (get marked q) (get (insert marked name m) q)
  at_each P q here others =
      let by_cases : (b : Bool) → bytes_eq q name ≡ b → P (get marked q) (cond b (Some m) (get marked q)) = λ b. elim b as (λ v. bytes_eq q name ≡ v → P (get marked q) (cond v (Some m) (get marked q))) [
        | true ↦ λ e. subst (λ (k : List ℕ). P (get marked k) (Some m)) (sym (same_bytes q name e)) here
        | false ↦ λ e. others (get marked q)
      ] in
      subst (λ (o : Option Marks). P (get marked q) o) (sym (get-put marked name m q)) (by_cases (bytes_eq q name) refl)

  goes_marked : (held held' : Held) → Above (marks_at marked name) m → GoesOn (seen_as held marked) (seen_as held' (insert marked name m))
  goes_marked held held' above = record {
    reads = λ q. at_each (λ o o'. (unwrap_or o no_marks).read_faults ≤ (unwrap_or o' no_marks).read_faults) q above.reads (λ o. le_refl _);
    writes = λ q. at_each (λ o o'. (unwrap_or o no_marks).write_faults ≤ (unwrap_or o' no_marks).write_faults) q above.writes (λ o. le_refl _);
    longs = λ q. at_each (λ o o'. (unwrap_or o no_marks).long_reads ≤ (unwrap_or o' no_marks).long_reads) q above.longs (λ o. le_refl _);
    rooms = λ q n. at_each (λ o o'. IsSomeAnd (option_map (λ x. x.room) o) (λ most. n ≤ most) → IsSomeAnd (option_map (λ x. x.room) o') (λ most. n ≤ most)) q (room_above (get marked name) m n above.room) (λ o h. h);
    tells = refl;
  }

  pub others_marked : (held held' : Held) (q : List ℕ) → q ≢ name → SameCounts (seen_as held marked) (seen_as held' (insert marked name m)) q
  others_marked held held' q apart = rw (elsewhere q apart) (refl, refl, refl)

-- ---- a read

pub read_reads : (held : Held) (marked : Marked) (name : List ℕ) (r : Result (Vec ℕ) ReadEnd) → IfOk r (λ v. length v.items ≤ most_bytes) → IfOk r (λ v. get held name ≡ Some v.items) → (IsErrOf r ends.TooLong → IsSomeAnd (get held name) (λ b. most_bytes < length b)) → ReadsFile (seen_as held marked) name r (seen_as held (marked_read marked name r))
read_reads held marked name (Ok v) short bytes long = record {
  goes = goes_itself held held marked;
  same = refl;
  short = short;
  bytes = bytes;
  failed = λ e. absurd cc;
  long = λ e. absurd cc;
  longer = λ e. absurd cc;
  gave_up = λ e. absurd cc;
}
read_reads held marked name (Err ends.Failed) short bytes long =
    let m : Marks = marks_read (marks_at marked name) (Err ends.Failed) in
    record {
      goes = goes_marked marked name m held held (record { room = le_refl _; reads = omega arith; writes = le_refl _; longs = le_refl _ });
      same = refl;
      short = tt;
      bytes = tt;
      failed = λ e. rw (there_now marked name m) (omega arith);
      long = λ e. absurd cc;
      longer = λ e. absurd cc;
      gave_up = λ e. absurd cc;
    }
read_reads held marked name (Err ends.TooLong) short bytes long =
    let m : Marks = marks_read (marks_at marked name) (Err ends.TooLong) in
    record {
      goes = goes_marked marked name m held held (record { room = le_refl _; reads = le_refl _; writes = le_refl _; longs = omega arith });
      same = refl;
      short = tt;
      bytes = tt;
      failed = λ e. absurd cc;
      long = λ e. rw (there_now marked name m) (omega arith);
      longer = long;
      gave_up = λ e. absurd cc;
    }
read_reads held marked name (Err ends.NoMemory) short bytes long = record {
  goes = goes_itself held held marked;
  same = refl;
  short = tt;
  bytes = tt;
  failed = λ e. absurd cc;
  long = λ e. absurd cc;
  longer = λ e. absurd cc;
  gave_up = λ e. refl;
}

pub read_others : (held : Held) (marked : Marked) (name : List ℕ) (r : Result (Vec ℕ) ReadEnd) (q : List ℕ) → q ≢ name → SameCounts (seen_as held marked) (seen_as held (marked_read marked name r)) q
read_others held marked name (Ok v) q apart = (refl, refl, refl)
read_others held marked name (Err ends.Failed) q apart = others_marked marked name (marks_read (marks_at marked name) (Err ends.Failed)) held held q apart
read_others held marked name (Err ends.TooLong) q apart = others_marked marked name (marks_read (marks_at marked name) (Err ends.TooLong)) held held q apart
read_others held marked name (Err ends.NoMemory) q apart = (refl, refl, refl)

-- ---- a room

counts_each : (marked : Marked) (name : List ℕ) (n : ℕ) (held held' : Held) (q : List ℕ) → SameCounts (seen_as held marked) (seen_as held' (marked_roomy marked name n)) q
counts_each marked name n held held' q =
    let m : Marks = roomy (marks_at marked name) n in
    (at_each marked name m (λ o o'. (unwrap_or o' no_marks).read_faults ≡ (unwrap_or o no_marks).read_faults) q refl (λ o. refl), at_each marked name m (λ o o'. (unwrap_or o' no_marks).write_faults ≡ (unwrap_or o no_marks).write_faults) q refl (λ o. refl), at_each marked name m (λ o o'. (unwrap_or o' no_marks).long_reads ≡ (unwrap_or o no_marks).long_reads) q refl (λ o. refl))

pub room_made : (held : Held) (marked : Marked) (name : List ℕ) (n : ℕ) → HasRoom (seen_as held (marked_roomy marked name n)) name n
room_made held marked name n = rw (there_now marked name (roomy (marks_at marked name) n)) (omega arith)

pub makes_room : {E : Type 0} (held held' : Held) (marked marked' : Marked) (name : List ℕ) (n : ℕ) (r : Result Unit E) → held' ≡ held → OnOk r (marked' ≡ marked_roomy marked name n) → OnErr r (marked' ≡ marked) → MakesRoom (seen_as held marked) name n r (seen_as held' marked')
makes_room held held' marked marked' name n (Ok u) kept made same = rw (kept, made) (record {
  goes = goes_marked marked name (roomy (marks_at marked name) n) held held (record { room = omega arith; reads = le_refl _; writes = le_refl _; longs = le_refl _ });
  same = refl;
  counts = counts_each marked name n held held;
  room = room_made held marked name n;
  gave_up = tt;
})
makes_room held held' marked marked' name n (Err e) kept made same = rw (kept, same) (record {
  goes = goes_itself held held marked;
  same = refl;
  counts = λ q. (refl, refl, refl);
  room = tt;
  gave_up = refl;
})

pub put_others : {E : Type 0} (held held' : Held) (marked marked' : Marked) (name : List ℕ) (n : ℕ) (r : Result Unit E) → OnOk r (marked' ≡ marked_roomy marked name n) → OnErr r (marked' ≡ marked) → (q : List ℕ) → q ≢ name → SameCounts (seen_as held marked) (seen_as held' marked') q
put_others held held' marked marked' name n (Ok u) made same q apart = rw made (counts_each marked name n held held' q)
put_others held held' marked marked' name n (Err e) made same q apart = rw same (refl, refl, refl)

-- ---- a write

pub write_writes : (held : Held) (marked : Marked) (name bytes : List ℕ) (r : Result Unit Failed) → WritesFile (seen_as held marked) name bytes r (seen_as (held_written held name bytes r) (marked_written marked name r))
write_writes held marked name bytes (Ok u) = record { goes = goes_itself held (insert held name bytes) marked; written = refl; others = tt; failed = tt }
write_writes held marked name bytes (Err e) =
    let m : Marks = marks_unwritten (marks_at marked name) in
    record {
      goes = goes_marked marked name m held held (record { room = le_refl _; reads = le_refl _; writes = omega arith; longs = le_refl _ });
      written = tt;
      others = λ q apart. refl;
      failed = rw (there_now marked name m) (omega arith);
    }

pub write_others : (held : Held) (marked : Marked) (name bytes : List ℕ) (r : Result Unit Failed) (q : List ℕ) → q ≢ name → SameCounts (seen_as held marked) (seen_as (held_written held name bytes r) (marked_written marked name r)) q
write_others held marked name bytes (Ok u) q apart = (refl, refl, refl)
write_others held marked name bytes (Err e) q apart = others_marked marked name (marks_unwritten (marks_at marked name)) held held q apart
