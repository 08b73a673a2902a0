-- The first operation that touches a cell in conflict and isn't marked, by the footprints themselves.
use Rattle.std.proofs.Common.{◌≡◌, ℕ, zero, suc, ◌+◌, ◌<◌, ◌≤◌, Bool, true, false, cond, not, List, [], ◌∷◌, ◌++◌, length, get_or, Option, Some, None, min, sym, refl, ap, subst, ◌∙◌, arith, append_assoc}
use Rattle.std.proofs.lemmas.List.{append-nil}
use Rattle.std.specs.Prelude.{◌&&◌}
use Rattle.cell_names.specs.declared.cell.Cell.{Cell}
use Rattle.cell_names.specs.declared.mode.Mode.{Mode}
use Rattle.cell_names.specs.Footprints.{mode_of, modes_conflict}
use Rattle.join_schedule.specs.Sets.{is_marked}
use Rattle.join_schedule.specs.Touchers.{one_touch, touchers, is_apart, least_with, least_apart}

-- operation n, which touches a cell so or not, conflicts with mode m and isn't marked
abbrev pub is_blocked : List Bool → Mode → ℕ → Option Mode → Bool
is_blocked row m n held = modes_conflict held (Some m) && not (is_marked row n)

-- the first operation that is blocked, of those numbered from n on
abbrev pub first_blocked : List Bool → Mode → ℕ → List (List (Cell × Mode)) → Cell → Option ℕ
first_blocked row m n [] c = None
first_blocked row m n (f ∷ fs) c = cond (is_blocked row m n (mode_of f c)) (Some n) (first_blocked row m (suc n) fs c)

-- the place of what was found
pub record Found (row : List Bool) (m : Mode) (n : ℕ) (fs : List (List (Cell × Mode))) (c : Cell) (a : ℕ) : Type 0 where
  pub place : ℕ
  pub is : n + place ≡ a
  pub within : place < length fs
  pub here : is_blocked row m a (mode_of (get_or fs place []) c) ≡ true

found_later : (row : List Bool) (m : Mode) (n : ℕ) (f : List (Cell × Mode)) (fs : List (List (Cell × Mode))) (c : Cell) (a : ℕ) → Found row m (suc n) fs c a → Found row m n (f ∷ fs) c a
found_later row m n f fs c a w = record { place = suc w.place; is = let e : suc n + w.place ≡ a = w.is in omega arith; within = let lt : w.place < length fs = w.within in omega arith; here = w.here }

some_is : (x y : ℕ) → Some x ≡ Some y → x ≡ y
some_is x y e = cc

found_by : (row : List Bool) (m : Mode) (n : ℕ) (f : List (Cell × Mode)) (fs : List (List (Cell × Mode))) (c : Cell) (a : ℕ) (b : Bool) → is_blocked row m n (mode_of f c) ≡ b →
    cond b (Some n) (first_blocked row m (suc n) fs c) ≡ Some a → (first_blocked row m (suc n) fs c ≡ Some a → Found row m (suc n) fs c a) → Found row m n (f ∷ fs) c a
found_by row m n f fs c a true on e rest =
    let is : n ≡ a = some_is n a e in
    record { place = 0; is = omega arith; within = omega arith; here = subst (λ (k : ℕ). is_blocked row m k (mode_of f c) ≡ true) is on }
found_by row m n f fs c a false off e rest = found_later row m n f fs c a (rest e)

pub is_found : (row : List Bool) (m : Mode) (n : ℕ) (fs : List (List (Cell × Mode))) (c : Cell) (a : ℕ) → first_blocked row m n fs c ≡ Some a → Found row m n fs c a
is_found row m n [] c a e = absurd cc
is_found row m n (f ∷ fs) c a e = found_by row m n f fs c a (is_blocked row m n (mode_of f c)) refl e (is_found row m (suc n) fs c a)

-- what is blocked is found, or one before it
least_by : (row : List Bool) (m : Mode) (n i : ℕ) (f : List (Cell × Mode)) (fs : List (List (Cell × Mode))) (c : Cell) (b : Bool) → i < length fs →
    (a : ℕ) × (first_blocked row m (suc n) fs c ≡ Some a) × (a ≤ suc n + i) → (a : ℕ) × (cond b (Some n) (first_blocked row m (suc n) fs c) ≡ Some a) × (a ≤ n + suc i)
least_by row m n i f fs c true lt rest = (n, refl, omega arith)
least_by row m n i f fs c false lt rest = (rest.0, rest.1, omega (arith, rest.2))

pub is_least : (row : List Bool) (m : Mode) (n i : ℕ) (fs : List (List (Cell × Mode))) (c : Cell) → i < length fs → is_blocked row m (n + i) (mode_of (get_or fs i []) c) ≡ true →
    (a : ℕ) × (first_blocked row m n fs c ≡ Some a) × (a ≤ n + i)
is_least row m n i [] c lt on = absurd (omega arith)
is_least row m n zero (f ∷ fs) c lt on =
    let same : n + 0 ≡ n = omega arith in
    let here : is_blocked row m n (mode_of f c) ≡ true = subst (λ (k : ℕ). is_blocked row m k (mode_of f c) ≡ true) same on in
    (n, ap (λ b. cond b (Some n) (first_blocked row m (suc n) fs c)) here, omega arith)
is_least row m n (suc i) (f ∷ fs) c lt on =
    let same : n + suc i ≡ suc n + i = omega arith in
    let there : is_blocked row m (suc n + i) (mode_of (get_or fs i []) c) ≡ true = subst (λ (k : ℕ). is_blocked row m k (mode_of (get_or fs i []) c) ≡ true) same on in
    least_by row m n i f fs c (is_blocked row m n (mode_of f c)) (omega arith) (is_least row m (suc n) i fs c (omega arith) there)

-- ---- the touches of a cell tell it

least_is : (n : ℕ) (o : Option ℕ) → ((a : ℕ) → o ≡ Some a → n ≤ a) → least_with n o ≡ Some n
least_is n None h = refl
least_is n (Some a) h = let e : min n a ≡ n = omega (arith, h a refl) in ap Some e

at_least : (row : List Bool) (m : Mode) (n : ℕ) (fs : List (List (Cell × Mode))) (c : Cell) (a : ℕ) → first_blocked row m (suc n) fs c ≡ Some a → n ≤ a
at_least row m n fs c a e = let w = is_found row m (suc n) fs c a e in omega (arith, w.is)

one_operation : (row : List Bool) (m : Mode) (n : ℕ) (held : Option Mode) (rest : List (ℕ × Mode)) (o : Option ℕ) → least_apart row m rest ≡ o → ((a : ℕ) → o ≡ Some a → n ≤ a) →
    least_apart row m (one_touch n held ++ rest) ≡ cond (is_blocked row m n held) (Some n) o
one_operation row m n None rest o e h = e
one_operation row m n (Some k) rest o e h =
    ap (λ (p : Option ℕ). cond (is_apart row m (n, k)) (least_with n p) p) e ∙ ap (λ (p : Option ℕ). cond (is_apart row m (n, k)) p o) (least_is n o h)

pub least_apart-touchers : (row : List Bool) (m : Mode) (n : ℕ) (fs : List (List (Cell × Mode))) (c : Cell) → least_apart row m (touchers n fs c) ≡ first_blocked row m n fs c
least_apart-touchers row m n [] c = refl
least_apart-touchers row m n (f ∷ fs) c = one_operation row m n (mode_of f c) (touchers (suc n) fs c) (first_blocked row m (suc n) fs c) (least_apart-touchers row m (suc n) fs c) (at_least row m n fs c)

pub touchers-push : (n : ℕ) (fs : List (List (Cell × Mode))) (f : List (Cell × Mode)) (c : Cell) → touchers n (fs ++ f ∷ []) c ≡ touchers n fs c ++ one_touch (n + length fs) (mode_of f c)
touchers-push n [] f c = let same : n ≡ n + 0 = omega arith in append-nil (one_touch n (mode_of f c)) ∙ ap (λ (k : ℕ). one_touch k (mode_of f c)) same
touchers-push n (g ∷ fs) f c =
    let same : suc n + length fs ≡ n + suc (length fs) = omega arith in
    ap (λ (l : List (ℕ × Mode)). one_touch n (mode_of g c) ++ l) (touchers-push (suc n) fs f c)
    ∙ sym (append_assoc (one_touch n (mode_of g c)) (touchers (suc n) fs c) (one_touch (suc n + length fs) (mode_of f c)))
    ∙ ap (λ (k : ℕ). (one_touch n (mode_of g c) ++ touchers (suc n) fs c) ++ one_touch k (mode_of f c)) same
