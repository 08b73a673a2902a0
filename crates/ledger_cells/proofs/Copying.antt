-- Changes that are copied in their order: each one more stands behind those that are there.
use Rattle.std.proofs.Common.{◌≡◌, Bool, true, false, T, List, [], ◌∷◌, ◌++◌, map, refl, sym, ap, subst, ◌∙◌}
use Rattle.std.specs.Prelude.{◌&&◌}
use Rattle.std.specs.List.{AllByRecursion}
use Rattle.std.specs.List.Sorted.{IsStrictlySortedBy}
use Rattle.std.specs.declared.cmp.Ordering.{Ordering}
use Rattle.std.specs.declared.cmp.Ordering.TheVariants.{Less, Greater}
use Rattle.std.specs.Ordering.{is_lt, ordering_reverse, match_ordering}
use Rattle.std.specs.BTreeMap.{insert_entry}
use Rattle.std.specs.FinMap.{is_sorted}
use Rattle.std.specs.FinMap.Entries.{below_all}
use Rattle.std.proofs.lemmas.Map.Keys.{sorted_head, sorted_tail}
use Rattle.value_core.proofs.Bools.{left, right}
use Rattle.cell_names.specs.declared.cell.Cell.{Cell}
use Rattle.cell_names.specs.Cells.{cell_cmp}
use Rattle.cell_names.specs.CellOrder.{cell_cmp-total}
use Rattle.ledger_cells.specs.Overlay.{Change}
use Rattle.ledger_cells.proofs.Walking.{is_less}

both : (a b : Bool) → T a → T b → T (a && b)
both true b h g = g
both false b h g = absurd h

below_from_keys : (k : Cell) (es : List Change) → AllByRecursion (λ y. cell_cmp k y ≡ Less) (map (λ e. e.0) es) → T (below_all cell_cmp k es)
below_from_keys k [] all = tt
below_from_keys k (e ∷ es) all = subst (λ r. T (is_lt r && below_all cell_cmp k es)) (sym all.0) (below_from_keys k es all.1)

-- the entries of an ordered map are in order
pub sorted_from_keys : (es : List Change) → IsStrictlySortedBy cell_cmp (map (λ e. e.0) es) → T (is_sorted cell_cmp es)
sorted_from_keys [] ordered = tt
sorted_from_keys (e ∷ es) ordered =
    both _ _ (below_from_keys e.0 es (sorted_head cell_cmp e.0 (map (λ e. e.0) es) ordered))
    (sorted_from_keys es (sorted_tail cell_cmp e.0 (map (λ e. e.0) es) ordered))

below_last : (k : Cell) (es : List Change) (e : Change) (fs : List Change) → T (below_all cell_cmp k (es ++ e ∷ fs)) → cell_cmp k e.0 ≡ Less
below_last k [] e fs below = is_less (cell_cmp k e.0) (left _ _ below)
below_last k (x ∷ es) e fs below = below_last k es e fs (right (is_lt (cell_cmp k x.0)) (below_all cell_cmp k (es ++ e ∷ fs)) below)

insert_last : (es : List Change) (e : Change) (fs : List Change) → T (is_sorted cell_cmp (es ++ e ∷ fs)) → insert_entry cell_cmp es e.0 e.1 ≡ es ++ e ∷ []
insert_last [] e fs sorted = refl
insert_last (x ∷ es) e fs sorted =
    let less : cell_cmp x.0 e.0 ≡ Less = below_last x.0 es e fs (left (below_all cell_cmp x.0 (es ++ e ∷ fs)) (is_sorted cell_cmp (es ++ e ∷ fs)) sorted) in
    let turned : cell_cmp e.0 x.0 ≡ Greater = cell_cmp-total.antisymm e.0 x.0 ∙ ap ordering_reverse less in
    ap (λ (r : Ordering). match_ordering r ((e.0, e.1) ∷ x ∷ es) ((x.0, e.1) ∷ es) (x ∷ insert_entry cell_cmp es e.0 e.1)) turned
    ∙ ap (λ (l : List Change). x ∷ l) (insert_last es e fs (right (below_all cell_cmp x.0 (es ++ e ∷ fs)) (is_sorted cell_cmp (es ++ e ∷ fs)) sorted))

append_one : (es : List Change) (e : Change) (fs : List Change) → (es ++ e ∷ []) ++ fs ≡ es ++ e ∷ fs
append_one [] e fs = refl
append_one (x ∷ es) e fs = ap (λ (l : List Change). x ∷ l) (append_one es e fs)

-- one more change of an ordered map, copied
pub copied_one : (all copied : List Change) (e : Change) (rest new : List Change) → IsStrictlySortedBy cell_cmp (map (λ e. e.0) all) → copied ++ e ∷ rest ≡ all → new ≡ insert_entry cell_cmp copied e.0 e.1 → new ++ rest ≡ all
copied_one all copied e rest new ordered whole is =
    let sorted : T (is_sorted cell_cmp (copied ++ e ∷ rest)) = subst (λ (l : List Change). T (is_sorted cell_cmp l)) (sym whole) (sorted_from_keys all ordered) in
    ap (λ (l : List Change). l ++ rest) (is ∙ insert_last copied e rest sorted) ∙ append_one copied e rest ∙ whole
