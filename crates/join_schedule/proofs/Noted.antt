-- What a map of touches has at each cell once a touch is noted.
use Rattle.std.proofs.Common.{◌≡◌, ℕ, ◌+◌, ◌<◌, Bool, true, false, cond, List, [], ◌∷◌, ◌++◌, length, get_or, take, Option, Some, None, sym, refl, ap, ◌∙◌, arith, append_assoc}
use Rattle.std.specs.Prelude.{IsTrue, unwrap_or}
use Rattle.std.specs.Global.{Vec}
use Rattle.std.specs.Ordering.{eq_by_cmp}
use Rattle.std.specs.Cmp.{Equal-is, eq_by_cmp_equiv}
use Rattle.std.specs.FinMap.Entries.{find-append}
use Rattle.std.proofs.lemmas.List.{append-nil, take_more, get_or-take, get_or_default, length-take}
use Rattle.value_core.proofs.PlaceLemmas.{rises, find-gap}
use Rattle.cell_names.specs.declared.cell.Cell.{Cell}
use Rattle.cell_names.specs.declared.mode.Mode.{Mode}
use Rattle.cell_names.specs.Cells.{cell_cmp}
use Rattle.cell_names.specs.CellOrder.{cell_cmp-total, cell_cmp-ties}
use Rattle.cell_names.specs.Footprints.{ascends, mode_of}
use Rattle.join_schedule.specs.Touchers.{items_of, noted_at, one_touch}

-- cells that tie are one cell
pub tied : (a b : Cell) → eq_by_cmp cell_cmp a b ≡ true → a ≡ b
tied a b e = cell_cmp-ties a b ((Equal-is (cell_cmp a b)).0 e)

one_put : (b : Bool) (t : ℕ × Mode) (held after left : Option (Vec (ℕ × Mode))) (new : Vec (ℕ × Mode)) → (b ≡ true → left ≡ held) → new.items ≡ items_of held ++ t ∷ [] → after ≡ cond b (Some new) (cond b None left) →
    items_of after ≡ items_of left ++ cond b (t ∷ []) []
one_put true t held after left new same made is = ap items_of is ∙ made ∙ ap (λ (o : Option (Vec (ℕ × Mode))). items_of o ++ t ∷ []) (sym (same refl))
one_put false t held after left new same made is = ap items_of is ∙ sym (append-nil (items_of left))

-- look is what the map had, gone what it had without the cell, and after what it has with the touch
pub noted : (look gone after : Cell → Option (Vec (ℕ × Mode))) (cell : Cell) (t : ℕ × Mode) (new : Vec (ℕ × Mode)) →
    ((q : Cell) → gone q ≡ cond (eq_by_cmp cell_cmp cell q) None (look q)) → ((q : Cell) → after q ≡ cond (eq_by_cmp cell_cmp cell q) (Some new) (gone q)) → new.items ≡ items_of (look cell) ++ t ∷ [] →
    (q : Cell) → items_of (after q) ≡ items_of (look q) ++ noted_at q cell t
noted look gone after cell t new without with made q =
    one_put (eq_by_cmp cell_cmp cell q) t (look cell) (after q) (look q) new (λ e. ap look (sym (tied cell q e))) made
    (with q ∙ ap (λ (o : Option (Vec (ℕ × Mode))). cond (eq_by_cmp cell_cmp cell q) (Some new) o) (without q))

pub none_items : (o : Option (Vec (ℕ × Mode))) (fresh v : Vec (ℕ × Mode)) → fresh.items ≡ [] → v ≡ unwrap_or o fresh → v.items ≡ items_of o
none_items None fresh v empty is = ap (λ (x : Vec (ℕ × Mode)). x.items) is ∙ empty
none_items (Some w) fresh v empty is = ap (λ (x : Vec (ℕ × Mode)). x.items) is

-- ---- the touches of one operation, one after another

-- a cell isn't touched before its place
new_cell : (f : List (Cell × Mode)) (k : ℕ) (x : Cell × Mode) → IsTrue (ascends f) → k < length f → x ≡ get_or f k x → mode_of (take k f) x.0 ≡ None
new_cell f k x up lt is =
    let len : length (take k f) ≡ k = omega (arith, length-take k f) in
    find-gap cell_cmp-total (take k f) x.0 k (record {
      within = omega arith;
      below = λ j d low. ap (λ (y : Cell × Mode). cell_cmp y.0 x.0) (get_or-take k f j d low ∙ get_or_default f j d x (omega arith))
          ∙ ap (λ (y : Cell × Mode). cell_cmp (get_or f j x).0 y.0) is ∙ rises cell_cmp-total f j k x up low lt;
      above = λ j d high small. absurd (omega arith);
    })

one_more_touch : (b : Bool) (op : ℕ) (x : Cell × Mode) (held : Option Mode) → (b ≡ true → held ≡ None) → one_touch op held ++ cond b ((op, x.1) ∷ []) [] ≡ one_touch op (cond b (Some x.1) held)
one_more_touch true op x held new = ap (λ (o : Option Mode). one_touch op o ++ (op, x.1) ∷ []) (new refl)
one_more_touch false op x held new = append-nil (one_touch op held)

pub noted_more : (f : List (Cell × Mode)) (op k : ℕ) (x : Cell × Mode) → IsTrue (ascends f) → k < length f → x ≡ get_or f k x → (q : Cell) (before : List (ℕ × Mode)) →
    (before ++ one_touch op (mode_of (take k f) q)) ++ noted_at q x.0 (op, x.1) ≡ before ++ one_touch op (mode_of (take (k + 1) f) q)
noted_more f op k x up lt is q before =
    let new = new_cell f k x up lt is in
    let longer : take (k + 1) f ≡ take k f ++ x ∷ [] = take_more f k x lt ∙ ap (λ (y : Cell × Mode). take k f ++ y ∷ []) (sym is) in
    let turned : eq_by_cmp cell_cmp x.0 q ≡ eq_by_cmp cell_cmp q x.0 = (eq_by_cmp_equiv cell_cmp-total).symm x.0 q in
    append_assoc before (one_touch op (mode_of (take k f) q)) (noted_at q x.0 (op, x.1))
    ∙ ap (λ (l : List (ℕ × Mode)). before ++ l)
    (one_more_touch (eq_by_cmp cell_cmp x.0 q) op x (mode_of (take k f) q) (λ e. ap (mode_of (take k f)) (sym (tied x.0 q e)) ∙ new)
    ∙ ap (λ b. one_touch op (cond b (Some x.1) (mode_of (take k f) q))) turned
    ∙ ap (one_touch op) (sym (ap (λ (l : List (Cell × Mode)). mode_of l q) longer ∙ find-append cell_cmp cell_cmp-total (take k f) x.0 x.1 q new)))
