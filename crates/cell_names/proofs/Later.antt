-- Touches that are read one after another, as a loop does.
use Rattle.std.proofs.Common.{◌≡◌, ℕ, ◌-◌, List, [], ◌∷◌, ◌++◌, length, Option, Some, Ok, refl, ap, subst, ◌∙◌, arith, length-append}
use Rattle.std.specs.Prelude.{IsTrue, slice_get}
use Rattle.std.specs.Option.{option_map}
use Rattle.byte_fields.specs.Stops.{Faulty, Stopped}
use Rattle.byte_fields.specs.Readers.{checked}
use Rattle.byte_fields.proofs.Steps.{after_ok, ok_is, test_ok}
use Rattle.cell_names.specs.declared.cell.Cell.{Cell}
use Rattle.cell_names.specs.declared.mode.Mode.{Mode}
use Rattle.cell_names.specs.Reading.{cell, mode, is_above, touch, last_cell}

-- ---- the last of what was read

last_of_more : (front : List (Cell × Mode)) (t : Cell × Mode) → slice_get (front ++ t ∷ []) (length front) ≡ Some t
last_of_more [] t = refl
last_of_more (f ∷ fs) t = last_of_more fs t

pub last_cell-push : (front : List (Cell × Mode)) (t : Cell × Mode) → last_cell (front ++ t ∷ []) ≡ Some t.0
last_cell-push front t =
    let count : length (front ++ t ∷ []) - 1 ≡ length front = omega (arith, length-append front (t ∷ [])) in
    ap (λ (k : ℕ). option_map (λ (z : Cell × Mode). z.0) (slice_get (front ++ t ∷ []) k)) count ∙ ap (option_map (λ (z : Cell × Mode). z.0)) (last_of_more front t)

-- ---- a touch that is read is above the one before

pub read_is_above : (last : Option Cell) (bytes : List ℕ) (t : Cell × Mode) (rest : List ℕ) → touch last bytes ≡ Ok (t, rest) → IsTrue (is_above last t.0)
read_is_above last bytes t rest e =
    let s = after_ok (checked (is_above last) cell bytes) _ t rest e in
    let u = after_ok (mode s.rest) _ t rest s.then_is in
    let v = after_ok (cell bytes) _ s.value s.rest s.was in
    let p = test_ok (is_above last v.value) (Stopped Faulty (length bytes)) (v.value, v.rest) (s.value, s.rest) v.then_is in
    let first : v.value ≡ s.value = ap (λ (x : Cell × List ℕ). x.0) p.1 in
    let whole : s.value ≡ t.0 = ap (λ (x : (Cell × Mode) × List ℕ). x.0.0) (ok_is ((s.value, u.value), u.rest) (t, rest) u.then_is) in
    subst (λ (c : Cell). IsTrue (is_above last c)) (first ∙ whole) p.0
