-- The soonest of the cells' answers: the least operation, at the first cell that tells it.
use Rattle.std.proofs.Common.{◌≡◌, ℕ, zero, suc, ◌<◌, ◌≤◌, Bool, true, false, cond, leb, List, [], ◌∷◌, length, get_or, Option, Some, None, sym, refl, ap, subst, ◌∙◌, arith}
use Rattle.std.specs.Option.{option_map}
use Rattle.std.proofs.lemmas.Bool.{leb-true, leb-false}
use Rattle.cell_names.specs.declared.cell.Cell.{Cell}
use Rattle.cell_names.specs.declared.mode.Mode.{Mode}
use Rattle.join_schedule.specs.Touchers.{least_apart, sooner, first_apart}

-- the operation that a cell tells
abbrev pub told_at : List Bool → (Cell → List (ℕ × Mode)) → Cell × Mode → Option ℕ
told_at row touched t = least_apart row t.1 (touched t.0)

pub record Soonest (row : List Bool) (touched : Cell → List (ℕ × Mode)) (ts : List (Cell × Mode)) (a : ℕ) (c : Cell) : Type 0 where
  pub place : ℕ
  pub within : place < length ts
  pub cell : (d : Cell × Mode) → (get_or ts place d).0 ≡ c
  pub told : (d : Cell × Mode) → told_at row touched (get_or ts place d) ≡ Some a
  pub least : (k b : ℕ) (d : Cell × Mode) → k < length ts → told_at row touched (get_or ts k d) ≡ Some b → a ≤ b
  pub first : (k b : ℕ) (d : Cell × Mode) → k < place → told_at row touched (get_or ts k d) ≡ Some b → a < b

neither : (t : Cell × Mode) (o : Option ℕ) (p : Option (ℕ × Cell)) → sooner (option_map (λ (i : ℕ). (i, t.0)) o) p ≡ None → (o ≡ None) × (p ≡ None)
neither t None p e = (refl, e)
neither t (Some i) None e = absurd cc
neither t (Some i) (Some y) e = elim (leb i y.0) as (λ b. cond b (Some (i, t.0)) (Some y) ≡ None → (Some i ≡ None) × (Some y ≡ None)) [ true ↦ λ is. absurd cc | false ↦ λ is. absurd cc ] e

none_some : (b : ℕ) → None ≡ Some b → ⊥
none_some b e = cc

some_is : {A : Type 0} (x y : A) → Some x ≡ Some y → x ≡ y
some_is x y e = cc

module _ (row : List Bool) (touched : Cell → List (ℕ × Mode)) where
  -- where no cell tells an operation, none does
  pub none_told : (ts : List (Cell × Mode)) (k : ℕ) (d : Cell × Mode) → first_apart row touched ts ≡ None → k < length ts → told_at row touched (get_or ts k d) ≡ None
  none_told [] k d e lt = absurd (omega arith)
  none_told (t ∷ ts) zero d e lt = (neither t (told_at row touched t) (first_apart row touched ts) e).0
  none_told (t ∷ ts) (suc k) d e lt = none_told ts k d (neither t (told_at row touched t) (first_apart row touched ts) e).1 (omega arith)

  later : (t : Cell × Mode) (ts : List (Cell × Mode)) (a : ℕ) (c : Cell) → Soonest row touched ts a c → ((b : ℕ) → told_at row touched t ≡ Some b → a < b) → Soonest row touched (t ∷ ts) a c
  later t ts a c s above = record {
    place = suc s.place;
    within = let lt : s.place < length ts = s.within in omega arith;
    cell = λ d. s.cell d;
    told = λ d. s.told d;
    least = λ k b d lt e. least_of k b d lt e;
    first = λ k b d lt e. first_of k b d lt e;
  }
    where
      least_of : (k b : ℕ) (d : Cell × Mode) → k < suc (length ts) → told_at row touched (get_or (t ∷ ts) k d) ≡ Some b → a ≤ b
      least_of zero b d lt e = omega (arith, above b e)
      least_of (suc k) b d lt e = s.least k b d (omega arith) e

      first_of : (k b : ℕ) (d : Cell × Mode) → k < suc s.place → told_at row touched (get_or (t ∷ ts) k d) ≡ Some b → a < b
      first_of zero b d lt e = above b e
      first_of (suc k) b d lt e = s.first k b d (omega arith) e

  here : (t : Cell × Mode) (ts : List (Cell × Mode)) (a : ℕ) (c : Cell) → t.0 ≡ c → told_at row touched t ≡ Some a → ((k b : ℕ) (d : Cell × Mode) → k < length ts → told_at row touched (get_or ts k d) ≡ Some b → a ≤ b) → Soonest row touched (t ∷ ts) a c
  here t ts a c cell is least = record {
    place = 0;
    within = omega arith;
    cell = λ d. cell;
    told = λ d. is;
    least = λ k b d lt e. least_of k b d lt e;
    first = λ k b d lt e. absurd (omega arith);
  }
    where
      least_of : (k b : ℕ) (d : Cell × Mode) → k < suc (length ts) → told_at row touched (get_or (t ∷ ts) k d) ≡ Some b → a ≤ b
      least_of zero b d lt e = let same : a ≡ b = some_is a b (sym is ∙ e) in omega arith
      least_of (suc k) b d lt e = least k b d (omega arith) e

  step : (t : Cell × Mode) (ts : List (Cell × Mode)) (a : ℕ) (c : Cell) (o : Option ℕ) (p : Option (ℕ × Cell)) → told_at row touched t ≡ o → first_apart row touched ts ≡ p →
      sooner (option_map (λ (i : ℕ). (i, t.0)) o) p ≡ Some (a, c) → ((x : ℕ) (y : Cell) → p ≡ Some (x, y) → Soonest row touched ts x y) → Soonest row touched (t ∷ ts) a c
  step t ts a c None p told rest e s = later t ts a c (s a c e) (λ b is. absurd (none_some b (sym told ∙ is)))
  step t ts a c (Some i) None told rest e s =
      let both : (i, t.0) ≡ (a, c) = some_is (i, t.0) (a, c) e in
      here t ts a c (ap (λ (x : ℕ × Cell). x.1) both) (told ∙ ap (λ (x : ℕ × Cell). Some x.0) both) (λ k b d lt is. absurd (none_some b (sym (none_told ts k d rest lt) ∙ is)))
  step t ts a c (Some i) (Some y) told rest e s = chosen (leb i y.0) refl e
    where
      chosen : (b : Bool) → leb i y.0 ≡ b → cond b (Some (i, t.0)) (Some y) ≡ Some (a, c) → Soonest row touched (t ∷ ts) a c
      chosen true le is =
          let both : (i, t.0) ≡ (a, c) = some_is (i, t.0) (a, c) is in
          let op : i ≡ a = ap (λ (x : ℕ × Cell). x.0) both in
          let low : i ≤ y.0 = leb-true i y.0 le in
          here t ts a c (ap (λ (x : ℕ × Cell). x.1) both) (told ∙ ap Some op) (λ k b d lt at. let more : y.0 ≤ b = (s y.0 y.1 refl).least k b d lt at in omega arith)
      chosen false gt is =
          let both : y ≡ (a, c) = some_is y (a, c) is in
          let op : y.0 ≡ a = ap (λ (x : ℕ × Cell). x.0) both in
          let low : y.0 < i = leb-false i y.0 gt in
          later t ts a c (subst (λ (x : ℕ × Cell). Soonest row touched ts x.0 x.1) both (s y.0 y.1 refl)) (λ b at. let same : i ≡ b = some_is i b (sym told ∙ at) in omega arith)

  pub soonest : (ts : List (Cell × Mode)) (a : ℕ) (c : Cell) → first_apart row touched ts ≡ Some (a, c) → Soonest row touched ts a c
  soonest [] a c e = absurd cc
  soonest (t ∷ ts) a c e = step t ts a c (told_at row touched t) (first_apart row touched ts) refl refl e (λ x y is. soonest ts x y is)
