-- What stands in a cell over which changes are put, which cells have a slot, and what one more change does.
use Rattle.std.proofs.Common.{◌≡◌, ℕ, Bool, true, false, cond, List, [], ◌∷◌, map, Option, Some, None, refl, sym, ap, ◌∙◌}
use Rattle.std.specs.Prelude.{is_some, ◌||◌}
use Rattle.std.specs.Cmp.{eq_by_cmp_equiv}
use Rattle.std.specs.Map.{lookup}
use Rattle.std.specs.BTreeMap.{is_at}
use Rattle.std.specs.FinMap.{get, find}
use Rattle.std.specs.FinMap.Entries.{is_some-find}
use Rattle.std.specs.FinSet.{FinSet, contains, insert, contains-insert, contains-from_list, same_set}
use Rattle.value_core.specs.declared.val.Val.{Val}
use Rattle.cell_names.specs.declared.cell.Cell.{Cell}
use Rattle.cell_names.specs.Cells.{cell_cmp}
use Rattle.cell_names.specs.CellOrder.{cell_cmp-total, cell_cmp-ties}
use Rattle.cell_names.specs.declared.cell.Cell.TheVariants.{Balance}
use Rattle.cell_names.specs.Contents.{Contents, put, amount_kept, with_balance}
use Rattle.cell_names.proofs.Puts.{is_one, one_from, get-put, same_contents}
use Rattle.ledger_cells.specs.Overlay.{Change, over, slots_of, IsWritten}

-- ---- what stands in a cell

-- what a change says, or else what is held
abbrev pub changed : Option (Option Val) → Option Val → Option Val
changed None o = o
changed (Some new) o = new

cond-changed : (b : Bool) (new : Option Val) (f : Option (Option Val)) (o : Option Val) → cond b new (changed f o) ≡ changed (cond b (Some new) f) o
cond-changed true new f o = refl
cond-changed false new f o = refl

pub get-over : (m : Contents) (es : List Change) (q : Cell) → get (over m es) q ≡ changed (find cell_cmp q es) (get m q)
get-over m [] q = refl
get-over m (e ∷ es) q =
    get-put (over m es) e.0 e.1 q ∙ ap (cond (is_one q e.0) e.1) (get-over m es q) ∙ cond-changed (is_one q e.0) e.1 (find cell_cmp q es) (get m q)

-- a look-up in an ordered map is one in its entries
pub lookup-find : (q : Cell) (es : List Change) → lookup (is_at (cell_cmp q)) es ≡ find cell_cmp q es
lookup-find q [] = refl
lookup-find q (e ∷ es) = ap (cond (is_one q e.0) (Some e.1)) (lookup-find q es)

pub changed_there : (m : Contents) (es : List Change) (q : Cell) (o : Option Val) → find cell_cmp q es ≡ Some o → get (over m es) q ≡ o
changed_there m es q o e = get-over m es q ∙ ap (λ f. changed f (get m q)) e

pub held_there : (m : Contents) (es : List Change) (q : Cell) → find cell_cmp q es ≡ None → get (over m es) q ≡ get m q
held_there m es q e = get-over m es q ∙ ap (λ f. changed f (get m q)) e

absent : (f : Option (Option Val)) → is_some f ≡ false → f ≡ None
absent None e = refl
absent (Some o) e = absurd cc

-- a cell that the map of changes hasn't has no slot
pub no_change : (es : List Change) (q : Cell) (b : Bool) → b ≡ is_some (lookup (is_at (cell_cmp q)) es) → b ≡ false → find cell_cmp q es ≡ None
no_change es q b is none = absent (find cell_cmp q es) (sym (ap is_some (lookup-find q es)) ∙ sym is ∙ none)

-- ---- one more change

-- what an ordered map says of one more entry
pub is_written : (old new : List Change) (c : Cell) (o : Option Val) →
    ((q : Cell) → lookup (is_at (cell_cmp q)) new ≡ cond (is_one c q) (Some o) (lookup (is_at (cell_cmp q)) old)) → IsWritten old c o new
is_written old new c o updates = record {
  changes = λ q.
      sym (lookup-find q new) ∙ updates q ∙ ap (cond (is_one c q) (Some o)) (lookup-find q old)
      ∙ ap (λ b. cond b (Some o) (find cell_cmp q old)) ((eq_by_cmp_equiv cell_cmp-total).symm c q);
}

pub over-written : (m : Contents) (old new : List Change) (c : Cell) (o : Option Val) → IsWritten old c o new → over m new ≡ put (over m old) c o
over-written m old new c o written = same_contents _ _ (λ q.
    get-over m new q ∙ ap (λ f. changed f (get m q)) (written.changes q)
    ∙ sym (cond-changed (is_one q c) o (find cell_cmp q old) (get m q))
    ∙ ap (cond (is_one q c) o) (sym (get-over m old q))
    ∙ sym (get-put (over m old) c o q))

-- ---- slots

pub contains-slots : (es : List Change) (q : Cell) → contains (slots_of es) q ≡ is_some (find cell_cmp q es)
contains-slots es q = contains-from_list cell_cmp-total (map (λ e. e.0) es) q ∙ sym (is_some-find cell_cmp q es)

some-cond : (b : Bool) (o : Option Val) (f : Option (Option Val)) → is_some (cond b (Some o) f) ≡ (b || is_some f)
some-cond true o f = refl
some-cond false o f = refl

pub slots-written : (old new : List Change) (c : Cell) (o : Option Val) → IsWritten old c o new → slots_of new ≡ insert (slots_of old) c
slots-written old new c o written = same_set cell_cmp-total cell_cmp-ties _ _ (λ q.
    contains-slots new q ∙ ap is_some (written.changes q) ∙ some-cond (is_one q c) o (find cell_cmp q old)
    ∙ ap (λ b. is_one q c || b) (sym (contains-slots old q))
    ∙ sym (contains-insert cell_cmp-total (slots_of old) c q))

still_there : (s : FinSet cell_cmp) (c q : Cell) (b : Bool) → contains s c ≡ true → is_one q c ≡ b → (b || contains s q) ≡ contains s q
still_there s c q true there e = sym (ap (contains s) (one_from q c e) ∙ there)
still_there s c q false there e = refl

pub no_slot : (es : List Change) (q : Cell) → contains (slots_of es) q ≡ false → find cell_cmp q es ≡ None
no_slot es q e = absent (find cell_cmp q es) (sym (contains-slots es q) ∙ e)

-- a cell that has a slot gets no other
pub slot_again : (s : FinSet cell_cmp) (c : Cell) → contains s c ≡ true → insert s c ≡ s
slot_again s c there = same_set cell_cmp-total cell_cmp-ties _ _ (λ q. contains-insert cell_cmp-total s c q ∙ still_there s c q (is_one q c) there refl)

-- ---- another balance among what is held

beneath : (b : Bool) (new : Option Val) (f : Option (Option Val)) (o : Option Val) → (b ≡ true → f ≡ None) → changed f (cond b new o) ≡ cond b new (changed f o)
beneath true new f o none = ap (λ (g : Option (Option Val)). changed g new) (none refl)
beneath false new f o none = refl

pub over-held : (m : Contents) (es : List Change) (c : Cell) (o : Option Val) → find cell_cmp c es ≡ None → over (put m c o) es ≡ put (over m es) c o
over-held m es c o none = same_contents _ _ (λ q.
    get-over (put m c o) es q ∙ ap (changed (find cell_cmp q es)) (get-put m c o q)
    ∙ beneath (is_one q c) o (find cell_cmp q es) (get m q) (λ one. ap (λ (k : Cell). find cell_cmp k es) (one_from q c one) ∙ none)
    ∙ ap (cond (is_one q c) o) (sym (get-over m es q))
    ∙ sym (get-put (over m es) c o q))

pub over-held_balance : (m : Contents) (es : List Change) (a : List ℕ) (n : ℕ) → find cell_cmp (Balance a) es ≡ None → over (with_balance m a n) es ≡ with_balance (over m es) a n
unfolding with_balance
over-held_balance m es a n none = over-held m es (Balance a) (amount_kept n) none
