-- What the least answer of the cells says of the footprints and the joins.
use Rattle.std.proofs.Common.{◌≡◌, ℕ, suc, ◌+◌, ◌<◌, ◌≤◌, ◌↔◌, Bool, true, false, cond, not, List, [], ◌∷◌, ◌++◌, length, get_or, take, Option, Some, None, sym, refl, ap, subst, ◌∙◌, arith, inl, inr}
use Rattle.std.specs.Prelude.{IsTrue, ◌&&◌}
use Rattle.std.specs.Ordering.{is_gt, eq_by_cmp}
use Rattle.std.specs.Cmp.{tied_itself}
use Rattle.std.proofs.lemmas.Bool.{cases_lt}
use Rattle.std.proofs.lemmas.List.{get_or-take, length-take, take_more}
use Rattle.value_core.proofs.Bools.{first_true, second_true}
use Rattle.value_core.proofs.PlaceLemmas.{rises, find-place}
use Rattle.cell_names.specs.declared.cell.Cell.{Cell}
use Rattle.cell_names.specs.declared.mode.Mode.{Mode}
use Rattle.cell_names.specs.declared.mode.Mode.TheVariants.{Read}
use Rattle.cell_names.specs.Cells.{cell_cmp}
use Rattle.cell_names.specs.CellOrder.{cell_cmp-total}
use Rattle.cell_names.specs.Footprints.{ascends, mode_of, modes_conflict}
use Rattle.join_schedule.specs.Joins.{IsBefore}
use Rattle.join_schedule.specs.Cover.{footprint_of, AreInConflict, IsFirstUnordered}
use Rattle.join_schedule.specs.Sets.{is_marked}
use Rattle.join_schedule.specs.Touchers.{touchers, one_touch, least_apart, first_apart}
use Rattle.join_schedule.proofs.Noted.{tied}
use Rattle.join_schedule.proofs.Blocked.{is_blocked, first_blocked, is_found, is_least, least_apart-touchers, touchers-push}
use Rattle.join_schedule.proofs.Soonest.{told_at, Soonest, none_told, soonest}

-- the place of a cell that is touched
record Stands (f : List (Cell × Mode)) (c : Cell) (m : Mode) : Type 0 where
  place : ℕ
  within : place < length f
  here : (d : Cell × Mode) → get_or f place d ≡ (c, m)

some_is : (x y : Mode) → Some x ≡ Some y → x ≡ y
some_is x y e = cc

stands_by : (t : Cell × Mode) (f : List (Cell × Mode)) (c : Cell) (m : Mode) (b : Bool) → eq_by_cmp cell_cmp c t.0 ≡ b → cond b (Some t.1) (mode_of f c) ≡ Some m → (mode_of f c ≡ Some m → Stands f c m) → Stands (t ∷ f) c m
stands_by t f c m true same e rest =
    let cell : t.0 ≡ c = sym (tied c t.0 same) in
    let mode : t.1 ≡ m = some_is t.1 m e in
    record { place = 0; within = omega arith; here = λ d i. (cell i, mode i) }
stands_by t f c m false apart e rest = let s = rest e in record { place = suc s.place; within = let lt : s.place < length f = s.within in omega arith; here = λ d. s.here d }

stands : (f : List (Cell × Mode)) (c : Cell) (m : Mode) → mode_of f c ≡ Some m → Stands f c m
stands [] c m e = absurd cc
stands (t ∷ f) c m e = stands_by t f c m (eq_by_cmp cell_cmp c t.0) refl e (stands f c m)

-- a conflict names the mode of both
has_mode : (held other : Option Mode) → IsTrue (modes_conflict held other) → (m : Mode) × (other ≡ Some m)
has_mode None other h = absurd cc
has_mode (Some k) None h = absurd cc
has_mode (Some k) (Some m) h = (m, refl)

not_true : (b : Bool) → not b ≡ true → b ≡ false
not_true true h = absurd cc
not_true false h = refl

module _ (joins : List (List ℕ)) (fs : List (List (Cell × Mode))) (j : ℕ) (row : List Bool) (touched : Cell → List (ℕ × Mode))
    (within : j < length fs) (up : IsTrue (ascends (footprint_of fs j)))
    (marked : (i : ℕ) → IsTrue (is_marked row i) ↔ IsBefore joins i j)
    (so_far : (c : Cell) → touched c ≡ touchers 0 (take j fs) c) where
  told-is : (t : Cell × Mode) → told_at row touched t ≡ first_blocked row t.1 0 (take j fs) t.0
  told-is t = ap (least_apart row t.1) (so_far t.0) ∙ least_apart-touchers row t.1 0 (take j fs) t.0

  earlier-is : (h : ℕ) → h < j → get_or (take j fs) h [] ≡ footprint_of fs h
  earlier-is h lt = get_or-take j fs h [] lt

  earlier-length : length (take j fs) ≡ j
  earlier-length = omega (arith, length-take j fs)

  -- where a conflict with an operation that isn't marked is told, or one with an operation before it
  record Tells (h : ℕ) (c : Cell) : Type 0 where
    place : ℕ
    inside : place < length (footprint_of fs j)
    cell : (d : Cell × Mode) → (get_or (footprint_of fs j) place d).0 ≡ c
    op : ℕ
    low : op ≤ h
    told : (d : Cell × Mode) → told_at row touched (get_or (footprint_of fs j) place d) ≡ Some op

  tells : (h : ℕ) (c : Cell) → h < j → AreInConflict fs h j c → is_marked row h ≡ false → Tells h c
  tells h c lt conflict off =
      let mode = has_mode (mode_of (footprint_of fs h) c) (mode_of (footprint_of fs j) c) conflict in
      let m = mode.0 in
      let s = stands (footprint_of fs j) c m mode.1 in
      let clash : modes_conflict (mode_of (footprint_of fs h) c) (Some m) ≡ true = ap (modes_conflict (mode_of (footprint_of fs h) c)) (sym mode.1) ∙ conflict in
      let blocked : is_blocked row m h (mode_of (footprint_of fs h) c) ≡ true = ap (λ b. b && not (is_marked row h)) clash ∙ ap not off in
      let there : is_blocked row m h (mode_of (get_or (take j fs) h []) c) ≡ true = ap (λ (f : List (Cell × Mode)). is_blocked row m h (mode_of f c)) (earlier-is h lt) ∙ blocked in
      let small : h < length (take j fs) = omega (arith, earlier-length) in
      let l = is_least row m 0 h (take j fs) c small (subst (λ (k : ℕ). is_blocked row m k (mode_of (get_or (take j fs) h []) c) ≡ true) (let z : h ≡ 0 + h = omega arith in z) there) in
      record {
        place = s.place;
        inside = s.within;
        cell = λ d. ap (λ (t : Cell × Mode). t.0) (s.here d);
        op = l.0;
        low = omega (arith, l.2);
        told = λ d. told-is (get_or (footprint_of fs j) s.place d) ∙ ap (λ (t : Cell × Mode). first_blocked row t.1 0 (take j fs) t.0) (s.here d) ∙ l.1;
      }

  none_some : (b : ℕ) → None ≡ Some b → ⊥
  none_some b e = cc

  -- where no cell tells an operation, each that conflicts is before
  pub all_before : first_apart row touched (footprint_of fs j) ≡ None → (h : ℕ) → h < j → (c : Cell) → AreInConflict fs h j c → IsBefore joins h j
  all_before none h lt c conflict =
      elim (is_marked row h) as (λ b. is_marked row h ≡ b → IsBefore joins h j) [
        | true ↦ λ on. (marked h).0 on
        | false ↦ λ off.
            let t = tells h c lt conflict off in
            let d : Cell × Mode = (c, Read) in
            absurd (none_some t.op (sym (none_told row touched (footprint_of fs j) t.place d none t.inside) ∙ t.told d))
      ] refl

  module _ (a : ℕ) (c : Cell) (found : first_apart row touched (footprint_of fs j) ≡ Some (a, c)) (ordered : (h k : ℕ) → h < k → k < j → (d : Cell) → AreInConflict fs h k d → IsBefore joins h k) where
    s : Soonest row touched (footprint_of fs j) a c
    s = soonest row touched (footprint_of fs j) a c found

    at : Cell × Mode
    at = (c, Read)

    t : Cell × Mode
    t = get_or (footprint_of fs j) s.place at

    -- the operation that is told, in this cell
    record IsApart : Type 0 where
      earlier : a < j
      conflict : AreInConflict fs a j c
      unmarked : is_marked row a ≡ false

    apart : IsApart
    unfolding t at
    apart =
        let by_found : first_blocked row t.1 0 (take j fs) t.0 ≡ Some a = sym (told-is t) ∙ s.told at in
        let w = is_found row t.1 0 (take j fs) t.0 a by_found in
        let op : w.place ≡ a = omega (arith, w.is) in
        let small : w.place < length (take j fs) = w.within in
        let earlier : a < j = omega (arith, earlier-length) in
        let here : is_blocked row t.1 a (mode_of (get_or (take j fs) a []) t.0) ≡ true = subst (λ (k : ℕ). is_blocked row t.1 a (mode_of (get_or (take j fs) k []) t.0) ≡ true) op w.here in
        let same : is_blocked row t.1 a (mode_of (footprint_of fs a) t.0) ≡ true = subst (λ (f : List (Cell × Mode)). is_blocked row t.1 a (mode_of f t.0) ≡ true) (earlier-is a earlier) here in
        let blocked : is_blocked row t.1 a (mode_of (footprint_of fs a) c) ≡ true = subst (λ (k : Cell). is_blocked row t.1 a (mode_of (footprint_of fs a) k) ≡ true) (s.cell at) same in
        let clash = first_true (modes_conflict (mode_of (footprint_of fs a) c) (Some t.1)) (not (is_marked row a)) blocked in
        let off = second_true (modes_conflict (mode_of (footprint_of fs a) c) (Some t.1)) (not (is_marked row a)) blocked in
        let mine : mode_of (footprint_of fs j) c ≡ Some t.1 = find-place cell_cmp-total (footprint_of fs j) c s.place at up (record { within = s.within; here = λ d. s.cell d }) in
        record { earlier = earlier; conflict = ap (modes_conflict (mode_of (footprint_of fs a) c)) mine ∙ clash; unmarked = not_true (is_marked row a) off }

    on_off : (b : Bool) → b ≡ true → b ≡ false → ⊥
    on_off true on off = absurd cc
    on_off false on off = absurd cc

    before_it : (h : ℕ) → h < a → (d : Cell) → AreInConflict fs h j d → IsBefore joins h j
    before_it h lt d conflict =
        let e : a < j = apart.earlier in
        elim (is_marked row h) as (λ b. is_marked row h ≡ b → IsBefore joins h j) [
          | true ↦ λ on. (marked h).0 on
          | false ↦ λ off.
              let w = tells h d (omega arith) conflict off in
              let low : w.op ≤ h = w.low in
              let least : a ≤ w.op = s.least w.place w.op at w.inside (w.told at) in
              absurd (omega arith)
        ] refl

    first_cell : (d : Cell) → AreInConflict fs a j d → is_gt (cell_cmp c d) ≡ false
    first_cell d conflict =
        let w = tells a d apart.earlier conflict apart.unmarked in
        let low : w.op ≤ a = w.low in
        let inside : w.place < length (footprint_of fs j) = w.inside in
        elim (cases_lt w.place s.place) [
          | inl sooner ↦ let more : a < w.op = s.first w.place w.op at sooner (w.told at) in absurd (omega arith)
          | inr le ↦ elim (cases_lt s.place w.place) [
            | inl less ↦ subst (λ (k : Cell). is_gt (cell_cmp k d) ≡ false) (s.cell at)
                (subst (λ (k : Cell). is_gt (cell_cmp (get_or (footprint_of fs j) s.place at).0 k) ≡ false) (w.cell at) (ap is_gt (rises cell_cmp-total (footprint_of fs j) s.place w.place at up less inside)))
            | inr ge ↦
                let same : s.place ≡ w.place = omega arith in
                let one : c ≡ d = sym (s.cell at) ∙ ap (λ (k : ℕ). (get_or (footprint_of fs j) k at).0) same ∙ w.cell at in
                subst (λ (k : Cell). is_gt (cell_cmp c k) ≡ false) one (ap is_gt (tied_itself cell_cmp-total c))
          ]
        ]

    pub is_first : IsFirstUnordered joins fs a j c
    is_first = record {
      order = apart.earlier;
      within = within;
      conflict = apart.conflict;
      apart = λ b. on_off (is_marked row a) ((marked a).1 b) apart.unmarked;
      least_later = ordered;
      least_earlier = before_it;
      least_cell = first_cell;
    }

-- one operation more, with all conflicts so far in order
pub ordered_more : (joins : List (List ℕ)) (fs : List (List (Cell × Mode))) (j : ℕ) → ((h k : ℕ) → h < k → k < j → (d : Cell) → AreInConflict fs h k d → IsBefore joins h k) → ((h : ℕ) → h < j → (d : Cell) → AreInConflict fs h j d → IsBefore joins h j) →
    (h k : ℕ) → h < k → k < j + 1 → (d : Cell) → AreInConflict fs h k d → IsBefore joins h k
ordered_more joins fs j so_far here h k lt small d conflict =
    elim (cases_lt k j) [
      | inl less ↦ so_far h k lt less d conflict
      | inr le ↦
          let same : j ≡ k = omega arith in
          subst (λ (n : ℕ). h < n → AreInConflict fs h n d → IsBefore joins h n) same (λ low e. here h low d e) lt conflict
    ]

pub touchers-more : (fs : List (List (Cell × Mode))) (j : ℕ) (c : Cell) → j < length fs → touchers 0 (take j fs) c ++ one_touch j (mode_of (footprint_of fs j) c) ≡ touchers 0 (take (j + 1) fs) c
touchers-more fs j c lt =
    let count : 0 + length (take j fs) ≡ j = omega (arith, length-take j fs) in
    ap (λ (k : ℕ). touchers 0 (take j fs) c ++ one_touch k (mode_of (footprint_of fs j) c)) (sym count) ∙ sym (touchers-push 0 (take j fs) (footprint_of fs j) c) ∙ ap (λ (l : List (List (Cell × Mode))). touchers 0 l c) (sym (take_more fs j [] lt))
