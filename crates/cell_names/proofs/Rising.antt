-- Touches that ascend, told from one cell to the next.
use Rattle.std.proofs.Common.{◌≡◌, ℕ, suc, ◌+◌, ◌-◌, ◌<◌, true, List, [], ◌∷◌, ◌++◌, length, get_or, Option, Some, None, sym, refl, ap, ◌∙◌, arith, inl, inr}
use Rattle.std.specs.Prelude.{IsTrue, slice_get}
use Rattle.std.specs.declared.cmp.Ordering.TheVariants.{Less}
use Rattle.std.specs.Ordering.{is_lt}
use Rattle.std.specs.Option.{option_map}
use Rattle.std.specs.FinMap.Entries.{below_all}
use Rattle.std.proofs.lemmas.Bool.{cases_lt}
use Rattle.std.proofs.lemmas.Option.{slice_get-get_or}
use Rattle.byte_fields.specs.Laws.{AllAlong}
use Rattle.value_core.proofs.Bools.{both_true, first_true, second_true}
use Rattle.value_core.proofs.PlaceLemmas.{is_Less, rises}
use Rattle.cell_names.specs.declared.cell.Cell.{Cell}
use Rattle.cell_names.specs.declared.mode.Mode.{Mode}
use Rattle.cell_names.specs.Cells.{cell_cmp}
use Rattle.cell_names.specs.CellOrder.{cell_cmp-total}
use Rattle.cell_names.specs.Footprints.{ascends}
use Rattle.cell_names.specs.Spelling.{IsCell, AreTouches}
use Rattle.cell_names.specs.Reading.{is_above, next_last, last_cell}

-- ---- one touch more

below-push : (x : Cell) (f : List (Cell × Mode)) (t : Cell × Mode) → IsTrue (below_all cell_cmp x f) → cell_cmp x t.0 ≡ Less → IsTrue (below_all cell_cmp x (f ++ t ∷ []))
below-push x [] t h low = both_true (is_lt (cell_cmp x t.0)) true (ap is_lt low) refl
below-push x (e ∷ f) t h low =
    both_true (is_lt (cell_cmp x e.0)) (below_all cell_cmp x (f ++ t ∷ [])) (first_true (is_lt (cell_cmp x e.0)) (below_all cell_cmp x f) h)
    (below-push x f t (second_true (is_lt (cell_cmp x e.0)) (below_all cell_cmp x f) h) low)

sorted-push : (f : List (Cell × Mode)) (t : Cell × Mode) → IsTrue (ascends f) → ((k : ℕ) (d : Cell × Mode) → k < length f → cell_cmp (get_or f k d).0 t.0 ≡ Less) → IsTrue (ascends (f ++ t ∷ []))
sorted-push [] t h low = refl
sorted-push (e ∷ f) t h low =
    both_true (below_all cell_cmp e.0 (f ++ t ∷ [])) (ascends (f ++ t ∷ [])) (below-push e.0 f t (first_true (below_all cell_cmp e.0 f) (ascends f) h) (low 0 e (omega arith)))
    (sorted-push f t (second_true (below_all cell_cmp e.0 f) (ascends f) h) (λ k d lt. low (suc k) d (omega arith)))

above_last : (f : List (Cell × Mode)) (t : Cell × Mode) (k : ℕ) → k + 1 ≡ length f → is_above (last_cell f) t.0 ≡ true → (d : Cell × Mode) → cell_cmp (get_or f k d).0 t.0 ≡ Less
above_last f t k is above d =
    let place : length f - 1 ≡ k = omega arith in
    let last : last_cell f ≡ Some (get_or f k d).0 = ap (λ (i : ℕ). option_map (λ (z : Cell × Mode). z.0) (slice_get f i)) place ∙ ap (option_map (λ (z : Cell × Mode). z.0)) (slice_get-get_or f k d (omega arith)) in
    is_Less _ (ap (λ (o : Option Cell). is_above o t.0) (sym last) ∙ above)

pub ascends-push : (f : List (Cell × Mode)) (t : Cell × Mode) → IsTrue (ascends f) → is_above (last_cell f) t.0 ≡ true → IsTrue (ascends (f ++ t ∷ []))
ascends-push f t h above = sorted-push f t h (λ k d lt.
    let last : (length f - 1) + 1 ≡ length f = omega arith in
    elim (cases_lt k (length f - 1)) [
      | inl less ↦ cell_cmp-total.trans (get_or f k d).0 (get_or f (length f - 1) d).0 t.0 (rises cell_cmp-total f k (length f - 1) d h less (omega arith)) (above_last f t (length f - 1) last above d)
      | inr le ↦ above_last f t k (omega arith) above d
    ])

-- ---- from one to the next

-- what a touch has to be, by the cell before it
abbrev pub IsNext : Option Cell → Cell × Mode → Type 0
IsNext last t = (IsCell t.0 × IsTrue (is_above last t.0)) × Unit {0}

below_less : (x y : Cell) (f : List (Cell × Mode)) → cell_cmp x y ≡ Less → IsTrue (below_all cell_cmp y f) → IsTrue (below_all cell_cmp x f)
below_less x y [] low h = refl
below_less x y (t ∷ f) low h =
    let above : cell_cmp y t.0 ≡ Less = is_Less _ (first_true (is_lt (cell_cmp y t.0)) (below_all cell_cmp y f) h) in
    both_true (is_lt (cell_cmp x t.0)) (below_all cell_cmp x f) (ap is_lt (cell_cmp-total.trans x y t.0 low above))
    (below_less x y f low (second_true (is_lt (cell_cmp y t.0)) (below_all cell_cmp y f) h))

record Risen (x : Cell) (f : List (Cell × Mode)) : Type 0 where
  below : IsTrue (below_all cell_cmp x f)
  touches : AreTouches f

risen : (x : Cell) (f : List (Cell × Mode)) → AllAlong IsNext next_last (Some x) f → Risen x f
risen x [] h = record { below = refl; touches = record { ascending = refl; cells = tt } }
risen x (t ∷ f) h =
    let r = risen t.0 f h.1 in
    record {
      below = both_true (is_lt (cell_cmp x t.0)) (below_all cell_cmp x f) h.0.0.1 (below_less x t.0 f (is_Less _ h.0.0.1) r.below);
      touches = record { ascending = both_true (below_all cell_cmp t.0 f) (ascends f) r.below r.touches.ascending; cells = (h.0.0.0, r.touches.cells) };
    }

pub touches_from_next : (f : List (Cell × Mode)) → AllAlong IsNext next_last None f → AreTouches f
touches_from_next [] h = record { ascending = refl; cells = tt }
touches_from_next (t ∷ f) h = let r = risen t.0 f h.1 in record { ascending = both_true (below_all cell_cmp t.0 f) (ascends f) r.below r.touches.ascending; cells = (h.0.0.0, r.touches.cells) }

rise : (x : Cell) (f : List (Cell × Mode)) → IsTrue (below_all cell_cmp x f) → AreTouches f → AllAlong IsNext next_last (Some x) f
rise x [] low h = tt
rise x (t ∷ f) low h =
    let later : IsTrue (below_all cell_cmp t.0 f) = first_true (below_all cell_cmp t.0 f) (ascends f) h.ascending in (
      ((h.cells.0, first_true (is_lt (cell_cmp x t.0)) (below_all cell_cmp x f) low), tt),
      rise t.0 f later (record { ascending = second_true (below_all cell_cmp t.0 f) (ascends f) h.ascending; cells = h.cells.1 }),
    )

pub next_from_touches : (f : List (Cell × Mode)) → AreTouches f → AllAlong IsNext next_last None f
next_from_touches [] h = tt
next_from_touches (t ∷ f) h =
    let later : IsTrue (below_all cell_cmp t.0 f) = first_true (below_all cell_cmp t.0 f) (ascends f) h.ascending in
    (((h.cells.0, refl), tt), rise t.0 f later (record { ascending = second_true (below_all cell_cmp t.0 f) (ascends f) h.ascending; cells = h.cells.1 }))
