-- The supply when a cell is put, and that accesses and undos keep it with what is in flight.
use Rattle.std.proofs.Common.{◌≡◌, ℕ, ◌+◌, ◌-◌, Bool, true, false, cond, T, List, [], ◌∷◌, Option, Some, None, refl, sym, ap, ◌∙◌, arith}
use Rattle.std.specs.Prelude.{sum, map, nat_lt, if◌then◌else◌}
use Rattle.std.specs.declared.cmp.Ordering.{Ordering}
use Rattle.std.specs.declared.cmp.Ordering.TheVariants.{Less, Equal, Greater}
use Rattle.std.specs.Ordering.{is_lt, is_eq}
use Rattle.std.specs.FinMap.{get, insert, remove, entries, entries_sorted, entries-insert, get-entries, get-insert}
use Rattle.std.specs.FinMap.Entries.{by_order, put as put_entry, find, below_all, is_sorted}
use Rattle.std.proofs.lemmas.List.Sums.{sum_by-cons}
use Rattle.value_core.specs.declared.val.Val.{Val}
use Rattle.value_core.specs.declared.val.Val.TheVariants.{Unit as unit}
use Rattle.value_core.proofs.Bools.{left, right}
use Rattle.cell_names.specs.declared.cell.Cell.{Cell}
use Rattle.cell_names.specs.declared.cell.Cell.TheVariants.{Balance, Storage, Entry}
use Rattle.cell_names.specs.declared.access.Access.{Access}
use Rattle.cell_names.specs.declared.access.Access.TheVariants as access
use Rattle.cell_names.specs.declared.access.Undo.{Undo}
use Rattle.cell_names.specs.declared.access.Undo.TheVariants as undo
use Rattle.cell_names.specs.Cells.{cell_cmp}
use Rattle.cell_names.specs.CellOrder.{cell_cmp-total, cell_cmp-ties}
use Rattle.cell_names.specs.Contents.{Contents, put, amount_in, amount_kept, balance, with_balance}
use Rattle.cell_names.specs.Supply.{money_of, supply}
use Rattle.cell_names.specs.Effects.{after, flight_after, undone, flight_undone}
use Rattle.cell_names.specs.Conditions.{IsWritable, NamesWritable, IsCovered, HasAmount}
use Rattle.cell_names.specs.Laws.{KeepsMoney, PutsWritable}
use Rattle.cell_names.proofs.Puts.{is_one, get-put, get-put_there, same_contents}
use Rattle.cell_names.proofs.Undoing.{amount_in-kept, cond_twice, not_less}

-- ---- lists of entries

abbrev total : List (Cell × Val) → ℕ
total es = sum (map money_of es)

total-cons : (e : Cell × Val) (es : List (Cell × Val)) → total (e ∷ es) ≡ money_of e + total es
total-cons e es = sum_by-cons (λ n. n) (money_of e) (map money_of es)

-- what a cell adds, if it is there
abbrev worth : Cell → Option Val → ℕ
worth c None = 0
worth c (Some v) = money_of (c, v)

is_less : (r : Ordering) → T (is_lt r) → r ≡ Less
is_less Less h = refl
is_less Equal h = absurd h
is_less Greater h = absurd h

-- a key below all is not found
below_none : (k x : Cell) (es : List (Cell × Val)) → cell_cmp k x ≡ Less → T (below_all cell_cmp x es) → find cell_cmp k es ≡ None
below_none k x [] p h = refl
below_none k x (e ∷ es) p h =
    ap (λ r. cond (is_eq r) (Some e.1) (find cell_cmp k es)) (cell_cmp-total.trans k x e.0 p (is_less _ (left _ _ h))) ∙ below_none k x es p (right _ _ h)

-- the total when an entry is put: what its key had goes
total-put : (k : Cell) (v : Val) (es : List (Cell × Val)) → T (is_sorted cell_cmp es) → total (put_entry cell_cmp k v es) + worth k (find cell_cmp k es) ≡ total es + money_of (k, v)
total-put k v [] h = omega (arith, total-cons (k, v) [])
total-put k v (e ∷ es) h =
    let rest = total-put k v es (right (below_all cell_cmp e.0 es) (is_sorted cell_cmp es) h) in
    let here = total-cons e es in
    elim (cell_cmp k e.0) as (λ r. cell_cmp k e.0 ≡ r → total (by_order r ((k, v) ∷ e ∷ es) ((e.0, v) ∷ es) (e ∷ put_entry cell_cmp k v es)) + worth k (cond (is_eq r) (Some e.1) (find cell_cmp k es)) ≡ total (e ∷ es) + money_of (k, v)) [
      | Less ↦ λ p.
          let none : worth k (find cell_cmp k es) ≡ 0 = ap (worth k) (below_none k e.0 es p (left _ _ h)) in
          omega (arith, none, total-cons (k, v) (e ∷ es))
      | Equal ↦ λ p.
          let same : k ≡ e.0 = cell_cmp-ties k e.0 p in
          let new : money_of (e.0, v) ≡ money_of (k, v) = ap (λ (c : Cell). money_of (c, v)) (sym same) in
          let old : money_of (k, e.1) ≡ money_of e = ap (λ (c : Cell). money_of (c, e.1)) same in
          omega (arith, here, new, old, total-cons (e.0, v) es)
      | Greater ↦ λ p. omega (arith, rest, here, total-cons e (put_entry cell_cmp k v es))
    ] refl

-- ---- contents

supply-insert : (m : Contents) (c : Cell) (v : Val) → supply (insert m c v) + worth c (get m c) ≡ supply m + money_of (c, v)
supply-insert m c v =
    let rest = total-put c v (entries m) (entries_sorted m) in
    let now : supply (insert m c v) ≡ total (put_entry cell_cmp c v (entries m)) = ap total (entries-insert cell_cmp-total m c v) in
    let found : worth c (get m c) ≡ worth c (find cell_cmp c (entries m)) = ap (worth c) (get-entries m c) in
    omega (arith, rest, now, found)

-- what is put over a removed cell is put over the cell
inserted_again : (m : Contents) (c : Cell) (v : Val) → insert (remove m c) c v ≡ insert m c v
inserted_again m c v = same_contents _ _ (λ q.
    get-insert cell_cmp-total (remove m c) c v q ∙ ap (cond (is_one q c) (Some v)) (get-put m c None q)
    ∙ cond_twice (is_one q c) _ _ _ ∙ sym (get-insert cell_cmp-total m c v q))

supply-remove : (m : Contents) (c : Cell) (v : Val) → supply (remove m c) + worth c (get m c) ≡ supply m
supply-remove m c v =
    let over = supply-insert (remove m c) c v in
    let same : supply (insert (remove m c) c v) ≡ supply (insert m c v) = ap supply (inserted_again m c v) in
    let gone : worth c (get (remove m c) c) ≡ 0 = ap (worth c) (get-put_there m c None) in
    omega (arith, over, same, gone, supply-insert m c v)

pub supply-put : (m : Contents) (c : Cell) (o : Option Val) → supply (put m c o) + worth c (get m c) ≡ supply m + worth c o
supply-put m c None = let left : supply (remove m c) + worth c (get m c) ≡ supply m = supply-remove m c unit in omega (arith, left)
supply-put m c (Some v) = supply-insert m c v

worth_balance : (a : List ℕ) (o : Option Val) → worth (Balance a) o ≡ amount_in o
worth_balance a None = refl
worth_balance a (Some v) = refl

pub supply-with_balance : (m : Contents) (a : List ℕ) (n : ℕ) → supply (with_balance m a n) + balance m a ≡ supply m + n
unfolding with_balance
supply-with_balance m a n =
    let change = supply-put m (Balance a) (amount_kept n) in
    let had = worth_balance a (get m (Balance a)) in
    let has : worth (Balance a) (amount_kept n) ≡ n = worth_balance a (amount_kept n) ∙ amount_in-kept n in
    omega (arith, change, had, has)

no_worth : (c : Cell) (o : Option Val) → IsWritable c → worth c o ≡ 0
no_worth (Balance a) o w = absurd w
no_worth (Storage a) None w = refl
no_worth (Storage a) (Some v) w = refl
no_worth (Entry a p k) None w = refl
no_worth (Entry a p k) (Some v) w = refl

supply-written : (m : Contents) (c : Cell) (o : Option Val) (f : ℕ) → IsWritable c → KeepsMoney m f (put m c o) f
supply-written m c o f w = omega (arith, supply-put m c o, no_worth c (get m c) w, no_worth c o w)

-- ---- accesses and undos

debited : (m : Contents) (a : List ℕ) (n f : ℕ) (low : Bool) → nat_lt (balance m a) n ≡ low →
    KeepsMoney m f (if low then m else with_balance m a (balance m a - n)) (if low then f else f + n)
debited m a n f true e = refl
debited m a n f false e = omega (arith, not_less (balance m a) n e, supply-with_balance m a (balance m a - n))

pub kept_after : (a : Access) (m : Contents) (f : ℕ) → NamesWritable a → IsCovered f a → KeepsMoney m f (after a m) (flight_after a m f)
kept_after (access.Read c) m f w h = refl
kept_after (access.Write c v) m f w h = supply-written m c v f w
kept_after (access.Credit a n) m f w h = omega (arith, h, supply-with_balance m a (balance m a + n))
kept_after (access.Debit a n) m f w h = debited m a n f (nat_lt (balance m a) n) refl

pub kept_undone : (u : Undo) (m : Contents) (f : ℕ) → PutsWritable u → HasAmount m f u → KeepsMoney m f (undone u m) (flight_undone u f)
kept_undone undo.Nothing m f w h = refl
kept_undone (undo.Put c v) m f w h = supply-written m c v f w
kept_undone (undo.Uncredit a n) m f w h = omega (arith, h, supply-with_balance m a (balance m a - n))
kept_undone (undo.Undebit a n) m f w h = omega (arith, h, supply-with_balance m a (balance m a + n))
