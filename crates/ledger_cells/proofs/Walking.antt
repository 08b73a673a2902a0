-- What a walk has left, when the next cell is taken from what is held or from the changes.
use Rattle.std.proofs.Common.{◌≡◌, Bool, true, false, cond, ◌&&◌, T, List, [], ◌∷◌, Option, Some, None, refl, sym, ap, subst, ◌∙◌, ◌⊎◌, inl, inr}
use Rattle.std.specs.Prelude.{is_some, IsTrue, MatchOption}
use Rattle.std.specs.declared.cmp.Ordering.{Ordering}
use Rattle.std.specs.declared.cmp.Ordering.TheVariants.{Less, Equal, Greater}
use Rattle.std.specs.Ordering.{is_lt, is_eq, ordering_reverse}
use Rattle.std.specs.Borrow.{Bor}
use Rattle.std.specs.Map.Iter.{TakesFirst, deref_pair}
use Rattle.std.specs.FinMap.{get, insert, entries, entries_sorted, get-entries, entries-insert, entries-from_sorted, get-from_sorted, get-insert, same_entries_map, contains_key, find, from_sorted, is_sorted}
use Rattle.std.specs.FinMap.Entries.{by_order, put as put_entry, below_all}
use Rattle.value_core.specs.declared.val.Val.{Val}
use Rattle.value_core.proofs.Bools.{left, right, T_of, true_of}
use Rattle.cell_names.specs.declared.cell.Cell.{Cell}
use Rattle.cell_names.specs.Cells.{cell_cmp}
use Rattle.cell_names.specs.CellOrder.{cell_cmp-total, cell_cmp-ties}
use Rattle.cell_names.specs.Contents.{Contents, put}
use Rattle.cell_names.proofs.Puts.{is_one, one_from, is_one-self, get-put, same_contents}
use Rattle.ledger_cells.specs.Overlay.{Change, over}
use Rattle.ledger_cells.specs.Walking.{cells_left, changes_left, AreInOrder, IsPassed}
use Rattle.ledger_cells.proofs.Over.{changed, get-over}

-- ---- keys below others

pub is_less : (r : Ordering) → T (is_lt r) → r ≡ Less
is_less Less h = refl
is_less Equal h = absurd h
is_less Greater h = absurd h

less_is : (r : Ordering) → r ≡ Less → T (is_lt r)
less_is r e = subst (λ (x : Ordering). T (is_lt x)) (sym e) tt

both : (a b : Bool) → T a → T b → T (a && b)
both true b h g = g
both false b h g = absurd h

-- a key that is found is not below all
pub found_above : {X : Type 0} (k q : Cell) (es : List (Cell × X)) → T (below_all cell_cmp k es) → is_some (find cell_cmp q es) ≡ true → cell_cmp k q ≡ Less
found_above k q [] below e = absurd cc
found_above k q (e ∷ es) below found =
    elim (is_one q e.0) as (λ b. is_one q e.0 ≡ b → is_some (cond b (Some e.1) (find cell_cmp q es)) ≡ true → cell_cmp k q ≡ Less) [
      | true ↦ λ one _. ap (cell_cmp k) (one_from q e.0 one) ∙ is_less (cell_cmp k e.0) (left _ _ below)
      | false ↦ λ _ there. found_above k q es (right (is_lt (cell_cmp k e.0)) (below_all cell_cmp k es) below) there
    ] refl found

or_here : {X : Type 0} (b : Bool) (x : X) (o : Option X) → is_some o ≡ true → is_some (cond b (Some x) o) ≡ true
or_here true x o e = refl
or_here false x o e = e

-- a key that is below each key that is found is below all
pub below_from_found : {X : Type 0} (k : Cell) (es : List (Cell × X)) → ((q : Cell) → is_some (find cell_cmp q es) ≡ true → cell_cmp k q ≡ Less) → T (below_all cell_cmp k es)
below_from_found k [] each = tt
below_from_found k (e ∷ es) each =
    both (is_lt (cell_cmp k e.0)) (below_all cell_cmp k es)
    (less_is (cell_cmp k e.0) (each e.0 (ap (λ b. is_some (cond b (Some e.1) (find cell_cmp e.0 es))) (is_one-self e.0))))
    (below_from_found k es (λ q found. each q (or_here (is_one q e.0) e.1 (find cell_cmp q es) found)))

-- a key below all is not found
pub below_none : {X : Type 0} (k : Cell) (es : List (Cell × X)) → T (below_all cell_cmp k es) → find cell_cmp k es ≡ None
below_none k [] below = refl
below_none k (e ∷ es) below =
    ap (λ r. cond (is_eq r) (Some e.1) (find cell_cmp k es)) (is_less (cell_cmp k e.0) (left _ _ below)) ∙ below_none k es (right (is_lt (cell_cmp k e.0)) (below_all cell_cmp k es) below)

-- ---- the first entry

put_first : (k : Cell) (v : Val) (es : List (Cell × Val)) → T (below_all cell_cmp k es) → put_entry cell_cmp k v es ≡ (k, v) ∷ es
put_first k v [] below = refl
put_first k v (e ∷ es) below =
    ap (λ r. by_order r ((k, v) ∷ e ∷ es) ((e.0, v) ∷ es) (e ∷ put_entry cell_cmp k v es)) (is_less (cell_cmp k e.0) (left _ _ below))

-- a key below all that are there is the first entry once it is put
pub entries_first : (m : Contents) (k : Cell) (v : Val) → ((q : Cell) → contains_key m q ≡ true → cell_cmp k q ≡ Less) → entries (insert m k v) ≡ (k, v) ∷ entries m
entries_first m k v each =
    entries-insert cell_cmp-total m k v
    ∙ put_first k v (entries m) (below_from_found k (entries m) (λ q found. each q (ap is_some (get-entries m q) ∙ found)))

-- ---- cells that are there under changes

pub there_by : (f : Option (Option Val)) (o : Option Val) → is_some (changed f o) ≡ true → (is_some f ≡ true) ⊎ (is_some o ≡ true)
there_by None o e = inr e
there_by (Some new) o e = inl refl

-- a key below all changes and all that is held is below all cells
pub below_cells : (k : Cell) (held : List (Cell × Val)) (changes : List Change) → AreInOrder held changes → T (below_all cell_cmp k held) → T (below_all cell_cmp k changes) → (q : Cell) → contains_key (over (from_sorted held) changes) q ≡ true → cell_cmp k q ≡ Less
below_cells k held changes order under_held under_changes q there =
    elim (there_by (find cell_cmp q changes) (find cell_cmp q held)
    (ap is_some (sym (get-over (from_sorted held) changes q ∙ ap (changed (find cell_cmp q changes)) (get-from_sorted cell_cmp held q (T_of _ order.held)))) ∙ there)) [
      | inl found ↦ found_above k q changes under_changes found
      | inr found ↦ found_above k q held under_held found
    ]

-- ---- the next cell

-- what stands in a cell of all that is left
get-left : (held : List (Cell × Val)) (changes : List Change) (q : Cell) → IsTrue (is_sorted cell_cmp held) → get (over (from_sorted held) changes) q ≡ changed (find cell_cmp q changes) (find cell_cmp q held)
get-left held changes q sorted = get-over (from_sorted held) changes q ∙ ap (changed (find cell_cmp q changes)) (get-from_sorted cell_cmp held q (T_of _ sorted))

held_over : (b : Bool) (w : Val) (f : Option (Option Val)) (o : Option Val) → (b ≡ true → f ≡ None) → changed f (cond b (Some w) o) ≡ cond b (Some w) (changed f o)
held_over true w f o none = ap (λ (g : Option (Option Val)). changed g (Some w)) (none refl)
held_over false w f o none = refl

pub tail_sorted : {X : Type 0} (e : Cell × X) (es : List (Cell × X)) → IsTrue (is_sorted cell_cmp (e ∷ es)) → IsTrue (is_sorted cell_cmp es)
tail_sorted e es sorted = true_of _ (right (below_all cell_cmp e.0 es) (is_sorted cell_cmp es) (T_of _ sorted))

pub head_below : {X : Type 0} (e : Cell × X) (es : List (Cell × X)) → IsTrue (is_sorted cell_cmp (e ∷ es)) → T (below_all cell_cmp e.0 es)
head_below e es sorted = left (below_all cell_cmp e.0 es) (is_sorted cell_cmp es) (T_of _ sorted)

pub held_rest : (e : Cell × Val) (held : List (Cell × Val)) (changes : List Change) → AreInOrder (e ∷ held) changes → AreInOrder held changes
held_rest e held changes order = record { held = tail_sorted e held order.held; changes = order.changes }

-- what is held below all changes comes next
pub held_next : (e : Cell × Val) (held : List (Cell × Val)) (changes : List Change) → AreInOrder (e ∷ held) changes → T (below_all cell_cmp e.0 changes) → cells_left (e ∷ held) changes ≡ e ∷ cells_left held changes
held_next e held changes order under =
    let rest = held_rest e held changes order in
    let same : over (from_sorted (e ∷ held)) changes ≡ insert (over (from_sorted held) changes) e.0 e.1 = same_contents _ _ (λ q.
    get-left (e ∷ held) changes q order.held
    ∙ held_over (is_one q e.0) e.1 (find cell_cmp q changes) (find cell_cmp q held) (λ one. ap (λ (c : Cell). find cell_cmp c changes) (one_from q e.0 one) ∙ below_none e.0 changes under)
    ∙ ap (cond (is_one q e.0) (Some e.1)) (sym (get-left held changes q rest.held))
    ∙ sym (get-insert cell_cmp-total (over (from_sorted held) changes) e.0 e.1 q)) in
    ap entries same
    ∙ entries_first (over (from_sorted held) changes) e.0 e.1 (below_cells e.0 held changes rest (head_below e held order.held) under)

changed_over : (b : Bool) (o : Option Val) (f : Option (Option Val)) (x y : Option Val) → (b ≡ false → x ≡ y) → changed (cond b (Some o) f) x ≡ cond b o (changed f y)
changed_over true o f x y same = refl
changed_over false o f x y same = ap (changed f) (same refl)

-- what stands in cells once a change is passed
passed_over : (c : Cell) (o : Option Val) (old new : List (Cell × Val)) (changes : List Change) → AreInOrder old ((c, o) ∷ changes) → IsTrue (is_sorted cell_cmp new) → IsPassed c old new → over (from_sorted old) ((c, o) ∷ changes) ≡ put (over (from_sorted new) changes) c o
passed_over c o old new changes order sorted passed = same_contents _ _ (λ q.
    get-left old ((c, o) ∷ changes) q order.held
    ∙ changed_over (is_one q c) o (find cell_cmp q changes) (find cell_cmp q old) (find cell_cmp q new) (passed.others q)
    ∙ ap (cond (is_one q c) o) (sym (get-left new changes q sorted))
    ∙ sym (get-put (over (from_sorted new) changes) c o q))

pub change_rest : (c : Cell) (o : Option Val) (old new : List (Cell × Val)) (changes : List Change) → AreInOrder old ((c, o) ∷ changes) → IsTrue (is_sorted cell_cmp new) → AreInOrder new changes
change_rest c o old new changes order sorted = record { held = sorted; changes = tail_sorted (c, o) changes order.changes }

-- a change that is there comes next, where what is held is passed
pub change_next : (c : Cell) (v : Val) (old new : List (Cell × Val)) (changes : List Change) → AreInOrder old ((c, Some v) ∷ changes) → IsTrue (is_sorted cell_cmp new) → IsPassed c old new → cells_left old ((c, Some v) ∷ changes) ≡ (c, v) ∷ cells_left new changes
change_next c v old new changes order sorted passed =
    ap entries (passed_over c (Some v) old new changes order sorted passed)
    ∙ entries_first (over (from_sorted new) changes) c v
    (below_cells c new changes (change_rest c (Some v) old new changes order sorted) (T_of _ passed.above) (head_below (c, Some v) changes order.changes))

absent_again : (m : Contents) (c q : Cell) (b : Bool) → is_one q c ≡ b → get m c ≡ None → cond b None (get m q) ≡ get m q
absent_again m c q true one none = sym (ap (get m) (one_from q c one) ∙ none)
absent_again m c q false one none = refl

changed_none : (f : Option (Option Val)) (o : Option Val) → f ≡ None → o ≡ None → changed f o ≡ None
changed_none f o e g = ap (λ (x : Option (Option Val)). changed x o) e ∙ g

-- a cell that is gone is passed over
pub change_gone : (c : Cell) (old new : List (Cell × Val)) (changes : List Change) → AreInOrder old ((c, None) ∷ changes) → IsTrue (is_sorted cell_cmp new) → IsPassed c old new → cells_left old ((c, None) ∷ changes) ≡ cells_left new changes
change_gone c old new changes order sorted passed =
    let m = over (from_sorted new) changes in
    let none : get m c ≡ None =
    get-left new changes c sorted
    ∙ changed_none (find cell_cmp c changes) (find cell_cmp c new) (below_none c changes (head_below (c, None) changes order.changes)) (below_none c new (T_of _ passed.above)) in
    ap entries
    (passed_over c None old new changes order sorted passed
    ∙ same_contents _ _ (λ q. get-put m c None q ∙ absent_again m c q (is_one q c) refl none))

-- ---- the ends

-- where no change is left, what is held is left
pub no_changes_left : (held : List (Cell × Val)) → IsTrue (is_sorted cell_cmp held) → cells_left held [] ≡ held
no_changes_left held sorted = entries-from_sorted cell_cmp held (T_of _ sorted)

-- a walk that begins has all cells left
pub all_left : (m : Contents) (changes : List Change) → cells_left (entries m) changes ≡ entries (over m changes)
all_left m changes = ap (λ (n : Contents). entries (over n changes)) (same_entries_map _ _ (entries-from_sorted cell_cmp (entries m) (entries_sorted m)))

pub held_in_order : (m : Contents) → IsTrue (is_sorted cell_cmp (entries m))
held_in_order m = true_of _ (entries_sorted m)

-- ---- steps of a walk

-- a change is taken from those that are left
pub next_left : (all rest : List Change) (r : Option (Bor Cell × Bor (Option Val))) → TakesFirst deref_pair all r rest → changes_left r rest ≡ all
next_left all rest None took = sym took.0
next_left all rest (Some x) took = sym took

-- a cell that is held and not below the given one is passed, or stands above it
pub nothing_passed : (c : Cell) → IsPassed c [] []
nothing_passed c = record { others = λ q apart. refl; above = refl }

pub one_passed : (c : Cell) (e : Cell × Val) (held : List (Cell × Val)) → IsTrue (is_sorted cell_cmp (e ∷ held)) → cell_cmp e.0 c ≡ Equal → IsPassed c (e ∷ held) held
one_passed c e held sorted tied =
    let same : e.0 ≡ c = cell_cmp-ties e.0 c tied in
    record {
      others = λ q apart. ap (λ b. cond b (Some e.1) (find cell_cmp q held)) (ap (is_one q) same ∙ apart);
      above = true_of _ (subst (λ (k : Cell). T (below_all cell_cmp k held)) same (head_below e held sorted));
    }

above_first : (c : Cell) (e : Cell × Val) (held : List (Cell × Val)) (q : Cell) → cell_cmp c e.0 ≡ Less → T (below_all cell_cmp e.0 held) → is_some (find cell_cmp q (e ∷ held)) ≡ true → cell_cmp c q ≡ Less
above_first c e held q less below found =
    elim (is_one q e.0) as (λ b. is_one q e.0 ≡ b → is_some (cond b (Some e.1) (find cell_cmp q held)) ≡ true → cell_cmp c q ≡ Less) [
      | true ↦ λ one _. ap (cell_cmp c) (one_from q e.0 one) ∙ less
      | false ↦ λ _ there. cell_cmp-total.trans c e.0 q less (found_above e.0 q held below there)
    ] refl found

pub none_passed : (c : Cell) (e : Cell × Val) (held : List (Cell × Val)) → IsTrue (is_sorted cell_cmp (e ∷ held)) → cell_cmp e.0 c ≡ Greater → IsPassed c (e ∷ held) (e ∷ held)
none_passed c e held sorted greater =
    let less : cell_cmp c e.0 ≡ Less = cell_cmp-total.antisymm c e.0 ∙ ap ordering_reverse greater in
    record {
      others = λ q apart. refl;
      above = true_of _ (below_from_found c (e ∷ held) (λ q found. above_first c e held q less (head_below e held sorted) found));
    }

-- ---- turns of a walk

below_changes : (k c : Cell) (o : Option Val) (changes : List Change) → cell_cmp k c ≡ Less → T (below_all cell_cmp c changes) → T (below_all cell_cmp k ((c, o) ∷ changes))
below_changes k c o changes less below =
    both (is_lt (cell_cmp k c)) (below_all cell_cmp k changes) (less_is (cell_cmp k c) less)
    (below_from_found k changes (λ q found. cell_cmp-total.trans k c q less (found_above c q changes below found)))

-- what is held below the next change comes next
pub held_row : (c : Cell) (o : Option Val) (e : Cell × Val) (old new : List (Cell × Val)) (changes : List Change) → AreInOrder old ((c, o) ∷ changes) → old ≡ e ∷ new → cell_cmp e.0 c ≡ Less → cells_left old ((c, o) ∷ changes) ≡ e ∷ cells_left new ((c, o) ∷ changes)
held_row c o e old new changes order is less =
    let order : AreInOrder (e ∷ new) ((c, o) ∷ changes) = subst (λ (l : List (Cell × Val)). AreInOrder l ((c, o) ∷ changes)) is order in
    ap (λ (l : List (Cell × Val)). cells_left l ((c, o) ∷ changes)) is
    ∙ held_next e new ((c, o) ∷ changes) order (below_changes e.0 c o changes less (head_below (c, o) changes order.changes))

-- what comes last: the rest of what is held
pub last_row : (old new : List (Cell × Val)) (r : Option (Cell × Val)) → IsTrue (is_sorted cell_cmp old) → IsTrue (is_sorted cell_cmp new) → MatchOption r ((old ≡ []) × (new ≡ [])) (λ row. old ≡ (row.0, row.1) ∷ new) →
    MatchOption r ((cells_left old [] ≡ []) × (cells_left new [] ≡ [])) (λ row. cells_left old [] ≡ (row.0, row.1) ∷ cells_left new [])
last_row old new None sorted still took = (no_changes_left old sorted ∙ took.0, no_changes_left new still ∙ took.1)
last_row old new (Some row) sorted still took = no_changes_left old sorted ∙ took ∙ ap (λ (l : List (Cell × Val)). row ∷ l) (sym (no_changes_left new still))

pub rest_sorted : (old new : List (Cell × Val)) (r : Option (Cell × Val)) → IsTrue (is_sorted cell_cmp old) → MatchOption r ((old ≡ []) × (new ≡ [])) (λ row. old ≡ (row.0, row.1) ∷ new) → IsTrue (is_sorted cell_cmp new)
rest_sorted old new None sorted took = subst (λ (l : List (Cell × Val)). IsTrue (is_sorted cell_cmp l)) (sym took.1) refl
rest_sorted old new (Some row) sorted took = tail_sorted row new (subst (λ (l : List (Cell × Val)). IsTrue (is_sorted cell_cmp l)) took sorted)

-- ---- the next held cell against the given one

first_key : List (Cell × Val) → Cell → Cell
first_key [] c = c
first_key (e ∷ es) c = e.0

same_first : (e f : Cell × Val) (es fs : List (Cell × Val)) → e ∷ es ≡ f ∷ fs → e.0 ≡ f.0
unfolding first_key
same_first e f es fs same = ap (λ (l : List (Cell × Val)). first_key l e.0) same

-- it is the given one
pub equal_passed : (c : Cell) (row : Cell × Val) (old new : List (Cell × Val)) (r : Option (Cell × Val)) → IsTrue (is_sorted cell_cmp old) → ((rest : List (Cell × Val)) × (old ≡ (row.0, row.1) ∷ rest)) → MatchOption r ((old ≡ []) × (new ≡ [])) (λ x. old ≡ (x.0, x.1) ∷ new) → cell_cmp row.0 c ≡ Equal → IsPassed c old new
equal_passed c row old new None sorted peeked took tied = absurd (let none : (row.0, row.1) ∷ peeked.0 ≡ [] = sym peeked.1 ∙ took.0 in cc)
equal_passed c row old new (Some x) sorted peeked took tied =
    let key : row.0 ≡ x.0 = same_first row x peeked.0 new (sym peeked.1 ∙ took) in
    subst (λ (l : List (Cell × Val)). IsPassed c l new) (sym took)
    (one_passed c x new (subst (λ (l : List (Cell × Val)). IsTrue (is_sorted cell_cmp l)) took sorted) (ap (λ (k : Cell). cell_cmp k c) (sym key) ∙ tied))

-- it stands above the given one
pub greater_passed : (c : Cell) (row : Cell × Val) (old : List (Cell × Val)) → IsTrue (is_sorted cell_cmp old) → ((rest : List (Cell × Val)) × (old ≡ (row.0, row.1) ∷ rest)) → cell_cmp row.0 c ≡ Greater → IsPassed c old old
greater_passed c row old sorted peeked greater =
    subst (λ (l : List (Cell × Val)). IsPassed c l l) (sym peeked.1)
    (none_passed c row peeked.0 (subst (λ (l : List (Cell × Val)). IsTrue (is_sorted cell_cmp l)) peeked.1 sorted) greater)

-- ---- `next`, by its ends

module _ (all : List (Cell × Val)) (next : Option (Bor Cell × Bor (Option Val))) (rest : List Change) (old new : List (Cell × Val)) (order : AreInOrder old (changes_left next rest)) (left : cells_left old (changes_left next rest) ≡ all) where
  -- what is held comes first
  pub next_held : (cell : Bor Cell) (value : Bor (Option Val)) (row : Cell × Val) → next ≡ Some (cell, value) → (old ≡ (row.0, row.1) ∷ new) × (cell_cmp row.0 cell.now ≡ Less) → all ≡ (row.0, row.1) ∷ cells_left new (changes_left next rest)
  next_held cell value row is took =
      let first : changes_left next rest ≡ (cell.now, value.now) ∷ rest = ap (λ (r : Option (Bor Cell × Bor (Option Val))). changes_left r rest) is in
      sym left ∙ ap (λ (l : List Change). cells_left old l) first
      ∙ held_row cell.now value.now (row.0, row.1) old new rest (subst (λ (l : List Change). AreInOrder old l) first order) took.0 took.1
      ∙ ap (λ (l : List Change). (row.0, row.1) ∷ cells_left new l) (sym first)

  module _ (cell : Bor Cell) (value : Bor (Option Val)) (is : next ≡ Some (cell, value)) (before : Option (Cell × Val)) (passed : MatchOption before (IsPassed cell.now old new) (λ row. (old ≡ (row.0, row.1) ∷ new) × (cell_cmp row.0 cell.now ≡ Less))) (none : before ≡ None) (sorted : IsTrue (is_sorted cell_cmp new)) (after : Option (Bor Cell × Bor (Option Val))) (behind : List Change) (took : TakesFirst deref_pair rest after behind) where
    was_passed : IsPassed cell.now old new
    was_passed = subst (λ (r : Option (Cell × Val)). MatchOption r (IsPassed cell.now old new) (λ row. (old ≡ (row.0, row.1) ∷ new) × (cell_cmp row.0 cell.now ≡ Less))) none passed

    first_of : (o : Option Val) → value.now ≡ o → changes_left next rest ≡ (cell.now, o) ∷ rest
    first_of o e = ap (λ (r : Option (Bor Cell × Bor (Option Val))). changes_left r rest) is ∙ ap (λ (x : Option Val). (cell.now, x) ∷ rest) e

    -- a change that is there comes first
    pub next_change : (v : Val) → value.now ≡ Some v → all ≡ (cell.now, v) ∷ cells_left new (changes_left after behind)
    next_change v e =
        sym left ∙ ap (λ (l : List Change). cells_left old l) (first_of (Some v) e)
        ∙ change_next cell.now v old new rest (subst (λ (l : List Change). AreInOrder old l) (first_of (Some v) e) order) sorted was_passed
        ∙ ap (λ (l : List Change). (cell.now, v) ∷ cells_left new l) (sym (next_left rest behind after took))

    -- a cell that is gone is passed
    pub next_gone : value.now ≡ None → cells_left new (changes_left after behind) ≡ all
    next_gone e =
        ap (λ (l : List Change). cells_left new l) (next_left rest behind after took)
        ∙ sym (change_gone cell.now old new rest (subst (λ (l : List Change). AreInOrder old l) (first_of None e) order) sorted was_passed)
        ∙ ap (λ (l : List Change). cells_left old l) (sym (first_of None e)) ∙ left

    pub next_order : AreInOrder new (changes_left after behind)
    next_order =
        subst (λ (l : List Change). AreInOrder new l) (sym (next_left rest behind after took))
        (change_rest cell.now value.now old new rest (subst (λ (l : List Change). AreInOrder old l) (first_of value.now refl) order) sorted)

  -- no change is left
  pub next_last : (row : Option (Cell × Val)) → next ≡ None → MatchOption row ((old ≡ []) × (new ≡ [])) (λ r. old ≡ (r.0, r.1) ∷ new) →
      MatchOption row ((all ≡ []) × (cells_left new (changes_left next rest) ≡ [])) (λ r. all ≡ (r.0, r.1) ∷ cells_left new (changes_left next rest))
  next_last row is took =
      let nothing : changes_left next rest ≡ [] = ap (λ (r : Option (Bor Cell × Bor (Option Val))). changes_left r rest) is in
      let whole : cells_left old [] ≡ all = ap (λ (l : List Change). cells_left old l) (sym nothing) ∙ left in
      subst (λ (l : List Change). MatchOption row ((all ≡ []) × (cells_left new l ≡ [])) (λ r. all ≡ (r.0, r.1) ∷ cells_left new l)) (sym nothing)
      (subst (λ (a : List (Cell × Val)). MatchOption row ((a ≡ []) × (cells_left new [] ≡ [])) (λ r. a ≡ (r.0, r.1) ∷ cells_left new [])) whole
      (last_row old new row order.held (rest_sorted old new row order.held took) took))
