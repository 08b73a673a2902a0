-- What becomes of the maps of files and marks where one slot is changed or added.
use Rattle.std.proofs.Common.{◌≡◌, ℕ, zero, suc, ◌<◌, ◌≤◌, Bool, true, false, cond, List, [], ◌∷◌, ◌++◌, length, get_or, Option, Some, None, Result, Ok, Err, refl, sym, ap, subst, ◌∙◌, arith}
use Rattle.std.proofs.Math.ListN.{set}
use Rattle.std.specs.Prelude.{option_and_then, OnOk, OnErr}
use Rattle.std.specs.Global.{Vec}
use Rattle.std.specs.Option.{option_map}
use Rattle.std.specs.Str.{bytes_eq}
use Rattle.std.specs.Ordering.{nat_cmp}
use Rattle.std.specs.Cmp.Lexicographic.{slice_cmp, nat_list_cmp_total}
use Rattle.std.specs.FinMap.{FinMap, get, insert, get-insert, get-remove, get-empty, same_map, slice_cmp-IsAntisymmetric, nat_cmp-IsAntisymmetric}
use Rattle.std.proofs.lemmas.Map.Text.{is_eq-slice_cmp}
use Rattle.std.proofs.lemmas.Slice.Eq.{bytes_eq-Decides}
use Rattle.edge_io.specs.Outside.{Held}
use Rattle.edge_io.specs.Shelf.{Marks, no_marks, marks_at, marks_read, marks_unwritten, roomy, marked_read, marked_roomy}
use Rattle.edge_io.specs.declared.files.ReadEnd.{ReadEnd}
use Rattle.edge_io.specs.declared.files.ReadEnd.TheVariants as ends
use Rattle.edge_io.specs.Slots.{SlotView, slot_at, with_file, held_of, marked_of, IsPlaceOf, Puts}

pub same_bytes : (x y : List ℕ) → bytes_eq x y ≡ true → x ≡ y
same_bytes x y e = (bytes_eq-Decides x y).0 e

pub bytes_eq-itself : (x : List ℕ) → bytes_eq x x ≡ true
bytes_eq-itself x = (bytes_eq-Decides x x).1 refl

-- ---- the search for a name

-- none of the first slots has the name
abbrev pub IsPassed : List SlotView → List ℕ → ℕ → Type 0
IsPassed ss name n = (k : ℕ) (d : SlotView) → k < n → k < length ss → bytes_eq name (get_or ss k d).name ≡ false

pub found_there : (ss : List SlotView) (name : List ℕ) (i : ℕ) (d : SlotView) → i < length ss → IsPassed ss name i → bytes_eq name (get_or ss i d).name ≡ true → IsPlaceOf ss name i
found_there [] name i d lt passed at = absurd (omega arith)
found_there (s ∷ ss) name zero d lt passed at = at
found_there (s ∷ ss) name (suc i) d lt passed at = (passed 0 d (omega arith) (omega arith), found_there ss name i d (omega arith) (λ k e p q. passed (suc k) e (omega arith) (omega arith)) at)

pub none_there : (ss : List SlotView) (name : List ℕ) (n : ℕ) → length ss ≤ n → IsPassed ss name n → slot_at ss name ≡ None
none_there [] name n le passed = refl
none_there (s ∷ ss) name zero le passed = absurd (omega arith)
none_there (s ∷ ss) name (suc n) le passed = ap (λ (v : Bool). cond v (Some s) (slot_at ss name)) (passed 0 s (omega arith) (omega arith)) ∙ none_there ss name n (omega arith) (λ k e p q. passed (suc k) e (omega arith) (omega arith))

pub slot_at_place : (ss : List SlotView) (name : List ℕ) (i : ℕ) (d : SlotView) → IsPlaceOf ss name i → slot_at ss name ≡ Some (get_or ss i d)
slot_at_place [] name i d at = absurd at
slot_at_place (s ∷ ss) name zero d at = ap (λ (v : Bool). cond v (Some s) (slot_at ss name)) at
slot_at_place (s ∷ ss) name (suc i) d at = ap (λ (v : Bool). cond v (Some s) (slot_at ss name)) at.0 ∙ slot_at_place ss name i d at.1

pub name_at_place : (ss : List SlotView) (name : List ℕ) (i : ℕ) (d : SlotView) → IsPlaceOf ss name i → name ≡ (get_or ss i d).name
name_at_place [] name i d at = absurd at
name_at_place (s ∷ ss) name zero d at = same_bytes name s.name at
name_at_place (s ∷ ss) name (suc i) d at = name_at_place ss name i d at.1

-- ---- a slot that is changed, and one that is added

slot_at-set : (ss : List SlotView) (name : List ℕ) (i : ℕ) (e : SlotView) (q : List ℕ) → IsPlaceOf ss name i → name ≡ e.name → slot_at (set ss i e) q ≡ cond (bytes_eq q name) (Some e) (slot_at ss q)
slot_at-set [] name i e q at same = absurd at
slot_at-set (s ∷ ss) name zero e q at same =
    let n : name ≡ s.name = same_bytes name s.name at in
    let by_cases : (b : Bool) → cond b (Some e) (slot_at ss q) ≡ cond b (Some e) (cond b (Some s) (slot_at ss q)) = λ b. elim b as (λ v. cond v (Some e) (slot_at ss q) ≡ cond v (Some e) (cond v (Some s) (slot_at ss q))) [ true ↦ refl | false ↦ refl ] in
    ap (λ (m : List ℕ). cond (bytes_eq q m) (Some e) (slot_at ss q)) (sym same) ∙ by_cases (bytes_eq q name) ∙ ap (λ (m : List ℕ). cond (bytes_eq q name) (Some e) (cond (bytes_eq q m) (Some s) (slot_at ss q))) n
slot_at-set (s ∷ ss) name (suc i) e q at same =
    let so : slot_at (set ss i e) q ≡ cond (bytes_eq q name) (Some e) (slot_at ss q) = slot_at-set ss name i e q at.1 same in
    let apart : (b c : Bool) → (b ≡ true → c ≡ false) → cond c (Some s) (cond b (Some e) (slot_at ss q)) ≡ cond b (Some e) (cond c (Some s) (slot_at ss q)) = λ b c.
    elim b as (λ v. (v ≡ true → c ≡ false) → cond c (Some s) (cond v (Some e) (slot_at ss q)) ≡ cond v (Some e) (cond c (Some s) (slot_at ss q))) [
      | true ↦ λ h. ap (λ (v : Bool). cond v (Some s) (Some e)) (h refl)
      | false ↦ λ h. refl
    ] in
    ap (λ (o : Option SlotView). cond (bytes_eq q s.name) (Some s) o) so ∙ apart (bytes_eq q name) (bytes_eq q s.name) (λ w. subst (λ (m : List ℕ). bytes_eq m s.name ≡ false) (sym (same_bytes q name w)) at.0)

pub puts_set : (ss : List SlotView) (name : List ℕ) (i : ℕ) (e : SlotView) → IsPlaceOf ss name i → name ≡ e.name → Puts ss name e (set ss i e)
puts_set ss name i e at same = record { found = λ q. slot_at-set ss name i e q at same }

-- the last slot is found where no other is
abbrev or_last : Option SlotView → Option SlotView → Option SlotView
or_last (Some s) o = Some s
or_last None o = o

slot_at-pushed : (ss : List SlotView) (e : SlotView) (q : List ℕ) → slot_at (ss ++ e ∷ []) q ≡ or_last (slot_at ss q) (cond (bytes_eq q e.name) (Some e) None)
slot_at-pushed [] e q = refl
slot_at-pushed (s ∷ ss) e q =
    elim (bytes_eq q s.name) as (λ b. cond b (Some s) (slot_at (ss ++ e ∷ []) q) ≡ or_last (cond b (Some s) (slot_at ss q)) (cond (bytes_eq q e.name) (Some e) None)) [ true ↦ refl | false ↦ slot_at-pushed ss e q ]

or_last-None : (o : Option SlotView) → or_last o None ≡ o
or_last-None None = refl
or_last-None (Some s) = refl

pub puts_pushed : (ss : List SlotView) (e : SlotView) → slot_at ss e.name ≡ None → Puts ss e.name e (ss ++ e ∷ [])
puts_pushed ss e none = record {
  found = λ q.
      let by_cases : (b : Bool) → bytes_eq q e.name ≡ b → or_last (slot_at ss q) (cond b (Some e) None) ≡ cond b (Some e) (slot_at ss q) = λ b.
      elim b as (λ v. bytes_eq q e.name ≡ v → or_last (slot_at ss q) (cond v (Some e) None) ≡ cond v (Some e) (slot_at ss q)) [
        | true ↦ λ w. ap (λ (o : Option SlotView). or_last o (Some e)) (ap (slot_at ss) (same_bytes q e.name w) ∙ none)
        | false ↦ λ w. or_last-None (slot_at ss q)
      ] in
      slot_at-pushed ss e q ∙ by_cases (bytes_eq q e.name) refl;
}

-- ---- what stands under a name

same_keys : {X : Type 0} (m n : FinMap (slice_cmp nat_cmp) X) → ((q : List ℕ) → get m q ≡ get n q) → m ≡ n
same_keys m n is = same_map nat_list_cmp_total (slice_cmp-IsAntisymmetric nat_cmp-IsAntisymmetric) m n is

pub get-put : {X : Type 0} (m : FinMap (slice_cmp nat_cmp) X) (name : List ℕ) (x : X) (q : List ℕ) → get (insert m name x) q ≡ cond (bytes_eq q name) (Some x) (get m q)
get-put {X} m name x q = get-insert nat_list_cmp_total m name x q ∙ ap (λ (v : Bool). cond v (Some x) (get m q)) (is_eq-slice_cmp q name)

get-with_file : (held : Held) (name : List ℕ) (file : Option (List ℕ)) (q : List ℕ) → get (with_file held name file) q ≡ cond (bytes_eq q name) file (get held q)
get-with_file held name (Some bytes) q = get-put held name bytes q
get-with_file held name None q = get-remove nat_list_cmp_total held name q ∙ ap (λ (v : Bool). cond v None (get held q)) (is_eq-slice_cmp q name)

-- a file under a slot
abbrev pub file_in : Option SlotView → Option (List ℕ)
file_in o = option_and_then (λ e. e.file) o

-- marks of a slot
abbrev pub marks_in : Option SlotView → Option Marks
marks_in o = option_map (λ e. e.marks) o

pub get-held_of : (ss : List SlotView) (q : List ℕ) → get (held_of ss) q ≡ file_in (slot_at ss q)
get-held_of [] q = get-empty (slice_cmp nat_cmp) q
get-held_of (s ∷ ss) q =
    let by_cases : (b : Bool) → cond b s.file (file_in (slot_at ss q)) ≡ file_in (cond b (Some s) (slot_at ss q)) = λ b. elim b as (λ v. cond v s.file (file_in (slot_at ss q)) ≡ file_in (cond v (Some s) (slot_at ss q))) [ true ↦ refl | false ↦ refl ] in
    get-with_file (held_of ss) s.name s.file q ∙ ap (λ (o : Option (List ℕ)). cond (bytes_eq q s.name) s.file o) (get-held_of ss q) ∙ by_cases (bytes_eq q s.name)

pub get-marked_of : (ss : List SlotView) (q : List ℕ) → get (marked_of ss) q ≡ marks_in (slot_at ss q)
get-marked_of [] q = get-empty (slice_cmp nat_cmp) q
get-marked_of (s ∷ ss) q =
    let by_cases : (b : Bool) → cond b (Some s.marks) (marks_in (slot_at ss q)) ≡ marks_in (cond b (Some s) (slot_at ss q)) = λ b. elim b as (λ v. cond v (Some s.marks) (marks_in (slot_at ss q)) ≡ marks_in (cond v (Some s) (slot_at ss q))) [ true ↦ refl | false ↦ refl ] in
    get-put (marked_of ss) s.name s.marks q ∙ ap (λ (o : Option Marks). cond (bytes_eq q s.name) (Some s.marks) o) (get-marked_of ss q) ∙ by_cases (bytes_eq q s.name)

-- ---- the maps after a change

module _ (old : List SlotView) (name : List ℕ) (e : SlotView) (new : List SlotView) (puts : Puts old name e new) where
  file_after : (q : List ℕ) → get (held_of new) q ≡ cond (bytes_eq q name) e.file (get (held_of old) q)
  file_after q =
      let by_cases : (b : Bool) → file_in (cond b (Some e) (slot_at old q)) ≡ cond b e.file (file_in (slot_at old q)) = λ b. elim b as (λ v. file_in (cond v (Some e) (slot_at old q)) ≡ cond v e.file (file_in (slot_at old q))) [ true ↦ refl | false ↦ refl ] in
      get-held_of new q ∙ ap (λ (o : Option SlotView). file_in o) (puts.found q) ∙ by_cases (bytes_eq q name) ∙ ap (λ (o : Option (List ℕ)). cond (bytes_eq q name) e.file o) (sym (get-held_of old q))

  marks_after : (q : List ℕ) → get (marked_of new) q ≡ cond (bytes_eq q name) (Some e.marks) (get (marked_of old) q)
  marks_after q =
      let by_cases : (b : Bool) → marks_in (cond b (Some e) (slot_at old q)) ≡ cond b (Some e.marks) (marks_in (slot_at old q)) = λ b. elim b as (λ v. marks_in (cond v (Some e) (slot_at old q)) ≡ cond v (Some e.marks) (marks_in (slot_at old q))) [ true ↦ refl | false ↦ refl ] in
      get-marked_of new q ∙ ap (λ (o : Option SlotView). marks_in o) (puts.found q) ∙ by_cases (bytes_eq q name) ∙ ap (λ (o : Option Marks). cond (bytes_eq q name) (Some e.marks) o) (sym (get-marked_of old q))

  -- a name keeps what it had
  kept : {X : Type 0} (m : FinMap (slice_cmp nat_cmp) X) (o : Option X) (q : List ℕ) → o ≡ get m name → cond (bytes_eq q name) o (get m q) ≡ get m q
  kept {X} m o q same =
      let by_cases : (b : Bool) → bytes_eq q name ≡ b → cond b o (get m q) ≡ get m q = λ b. elim b as (λ v. bytes_eq q name ≡ v → cond v o (get m q) ≡ get m q) [
        | true ↦ λ w. same ∙ ap (get m) (sym (same_bytes q name w))
        | false ↦ λ w. refl
      ] in
      by_cases (bytes_eq q name) refl

  pub held_put : (bytes : List ℕ) → e.file ≡ Some bytes → held_of new ≡ insert (held_of old) name bytes
  held_put bytes is = same_keys _ _ (λ q. file_after q ∙ ap (λ (o : Option (List ℕ)). cond (bytes_eq q name) o (get (held_of old) q)) is ∙ sym (get-put (held_of old) name bytes q))

  pub held_kept : e.file ≡ get (held_of old) name → held_of new ≡ held_of old
  held_kept same = same_keys _ _ (λ q. file_after q ∙ kept (held_of old) e.file q same)

  pub marked_put : marked_of new ≡ insert (marked_of old) name e.marks
  marked_put = same_keys _ _ (λ q. marks_after q ∙ sym (get-put (marked_of old) name e.marks q))

  pub marked_kept : Some e.marks ≡ get (marked_of old) name → marked_of new ≡ marked_of old
  marked_kept same = same_keys _ _ (λ q. marks_after q ∙ kept (marked_of old) (Some e.marks) q same)

-- ---- a slot that stands

-- the slot of the name stands at that place
pub record Stands (ss : List SlotView) (name : List ℕ) (i : ℕ) (s : SlotView) : Type 0 where
  pub at : IsPlaceOf ss name i
  pub is : s ≡ get_or ss i s

module _ {ss : List SlotView} {name : List ℕ} {i : ℕ} {s : SlotView} (here : Stands ss name i s) where
  pub stands : slot_at ss name ≡ Some s
  stands = slot_at_place ss name i s here.at ∙ ap (λ (t : SlotView). Some t) (sym here.is)

  pub is_named : name ≡ s.name
  is_named = name_at_place ss name i s here.at ∙ ap (λ (t : SlotView). t.name) (sym here.is)

  pub file_there : get (held_of ss) name ≡ s.file
  file_there = get-held_of ss name ∙ ap file_in stands

  pub marks_there : get (marked_of ss) name ≡ Some s.marks
  marks_there = get-marked_of ss name ∙ ap marks_in stands

  pub marks_at_there : marks_at (marked_of ss) name ≡ s.marks
  marks_at_there = rw marks_there

  -- other marks alone
  puts_marks : (m : Marks) → Puts ss name (record s { marks = m }) (set ss i (record s { marks = m }))
  puts_marks m = puts_set ss name i (record s { marks = m }) here.at is_named

  pub held_marked : (m : Marks) → held_of (set ss i (record s { marks = m })) ≡ held_of ss
  held_marked m = held_kept ss name (record s { marks = m }) (set ss i (record s { marks = m })) (puts_marks m) (sym file_there)

  pub marked_set : (m : Marks) → marked_of (set ss i (record s { marks = m })) ≡ insert (marked_of ss) name m
  marked_set m = marked_put ss name (record s { marks = m }) (set ss i (record s { marks = m })) (puts_marks m)

  pub marked_same : marked_of (set ss i s) ≡ marked_of ss
  marked_same = marked_kept ss name s (set ss i s) (puts_marks s.marks) (sym marks_there)

  pub read_marks : (r : Result (Vec ℕ) ReadEnd) → marked_of (set ss i (record s { marks = marks_read s.marks r })) ≡ marked_read (marked_of ss) name r
  read_marks (Ok v) = marked_same
  read_marks (Err ends.Failed) = rw marks_at_there (marked_set (marks_read s.marks (Err ends.Failed)))
  read_marks (Err ends.TooLong) = rw marks_at_there (marked_set (marks_read s.marks (Err ends.TooLong)))
  read_marks (Err ends.NoMemory) = marked_same

  pub room_marks : (n : ℕ) → marked_of (set ss i (record s { marks = roomy s.marks n })) ≡ marked_roomy (marked_of ss) name n
  room_marks n = rw marks_at_there (marked_set (roomy s.marks n))

  pub held_room : {E : Type 0} (n : ℕ) (r : Result Unit E) (t : SlotView) → OnOk r (t ≡ record s { marks = roomy s.marks n }) → OnErr r (t ≡ s) → held_of (set ss i t) ≡ held_of ss
  held_room n (Ok u) t made same = rw made (held_marked (roomy s.marks n))
  held_room n (Err e) t made same = rw same (held_marked s.marks)

  pub unwritten_marks : marked_of (set ss i (record s { marks = marks_unwritten s.marks })) ≡ insert (marked_of ss) name (marks_unwritten (marks_at (marked_of ss) name))
  unwritten_marks = rw marks_at_there (marked_set (marks_unwritten s.marks))

  -- another file and other marks
  pub held_filed : (bytes : List ℕ) (m : Marks) → held_of (set ss i (record s { file = Some bytes; marks = m })) ≡ insert (held_of ss) name bytes
  held_filed bytes m = held_put ss name (record s { file = Some bytes; marks = m }) (set ss i (record s { file = Some bytes; marks = m })) (puts_set ss name i (record s { file = Some bytes; marks = m }) here.at is_named) bytes refl

  pub marked_filed : (bytes : List ℕ) (m : Marks) → marked_of (set ss i (record s { file = Some bytes; marks = m })) ≡ insert (marked_of ss) name m
  marked_filed bytes m = marked_put ss name (record s { file = Some bytes; marks = m }) (set ss i (record s { file = Some bytes; marks = m })) (puts_set ss name i (record s { file = Some bytes; marks = m }) here.at is_named)

  pub roomy_filed : (bytes : List ℕ) → marked_of (set ss i (record s { file = Some bytes; marks = roomy s.marks (length bytes) })) ≡ marked_roomy (marked_of ss) name (length bytes)
  roomy_filed bytes = rw marks_at_there (marked_filed bytes (roomy s.marks (length bytes)))

  pub marked_written_there : (bytes : List ℕ) → marked_of (set ss i (record s { file = Some bytes })) ≡ marked_of ss
  marked_written_there bytes = marked_kept ss name (record s { file = Some bytes }) (set ss i (record s { file = Some bytes })) (puts_set ss name i (record s { file = Some bytes }) here.at is_named) (sym marks_there)

-- ---- a name without a slot

module _ (ss : List SlotView) (name : List ℕ) (none : slot_at ss name ≡ None) where
  pub no_file : get (held_of ss) name ≡ None
  no_file = get-held_of ss name ∙ ap file_in none

  pub no_marks_there : get (marked_of ss) name ≡ None
  no_marks_there = get-marked_of ss name ∙ ap marks_in none

  pub marks_at_none : marks_at (marked_of ss) name ≡ no_marks
  marks_at_none = rw no_marks_there

  pub held_added : (new : List SlotView) (m : Marks) → Puts ss name (record { name = name; file = None; marks = m }) new → held_of new ≡ held_of ss
  held_added new m puts = held_kept ss name (record { name = name; file = None; marks = m }) new puts (sym no_file)

  pub marked_added : (new : List SlotView) (e : SlotView) → Puts ss name e new → marked_of new ≡ insert (marked_of ss) name e.marks
  marked_added new e puts = marked_put ss name e new puts
