-- Rows of marks, as loops make them.
use Rattle.std.proofs.Common.{◌≡◌, ℕ, suc, ◌+◌, ◌<◌, ◌↔◌, Bool, true, false, eqb, List, [], ◌∷◌, ◌++◌, length, get_or, take, set, sym, refl, ap, subst, ◌∙◌, arith, inl, inr, ◌⊎◌}
use Rattle.std.specs.Global.{Vec}
use Rattle.std.specs.Prelude.{IsTrue, ◌||◌}
use Rattle.std.specs.List.{list_any, Contains}
use Rattle.std.proofs.lemmas.Bool.{cases_lt, cases_eq, eq-eqb, eqb-true, ne_eqb}
use Rattle.std.proofs.lemmas.List.{get_or-map, get_or-set_same, get_or-set_other, get_or_default, length-map, length-append, get_or_append_left}
use Rattle.std.proofs.Math.Seq.{get_or-append_seam}
use Rattle.std.proofs.lemmas.List.Folds.{list_any_more, list_any_at}
use Rattle.join_schedule.specs.Joins.{joins_of, IsJoinList, IsBefore, Joined, Through}
use Rattle.join_schedule.specs.Sets.{marks, is_marked, is_through, AreStairs, AreRows}

or_false : (a : Bool) → (a || false) ≡ a
or_false true = refl
or_false false = refl

or_true : (a : Bool) → (a || true) ≡ true
or_true true = refl
or_true false = refl

regroup : (a b c d : Bool) → (((a || b) || c) || d) ≡ (a || (b || (d || c)))
regroup true b c d = refl
regroup false true c d = refl
regroup false false true true = refl
regroup false false true false = refl
regroup false false false true = refl
regroup false false false false = refl

-- a mark that is set
is_marked-set : (row : List Bool) (k i : ℕ) → k < length row → is_marked (set row k true) i ≡ (is_marked row i || eqb k i)
is_marked-set row k i lt =
    elim (cases_eq k i) [
      | inl same ↦ subst (λ (n : ℕ). is_marked (set row k true) n ≡ (is_marked row n || eqb k n)) same
          (get_or-set_same row k true false lt ∙ sym (ap (λ b. is_marked row k || b) (eq-eqb k k refl) ∙ or_true (is_marked row k)))
      | inr apart ↦ get_or-set_other row k i true false (λ e. apart (sym e)) ∙ sym (ap (λ b. is_marked row i || b) (ne_eqb k i apart) ∙ or_false (is_marked row i))
    ]

-- the marks of the row at a place
pub marks-at : (rows : List (Vec Bool)) (k : ℕ) (x : Vec Bool) → k < length rows → x ≡ get_or rows k x → get_or (marks rows) k [] ≡ x.items
marks-at rows k x lt is = get_or-map (λ (row : Vec Bool). row.items) rows k x [] lt ∙ ap (λ (row : Vec Bool). row.items) (sym is)

pub stair : (rows : List (Vec Bool)) (k : ℕ) (x : Vec Bool) → AreStairs (marks rows) → k < length rows → x ≡ get_or rows k x → length x.items ≡ k
stair rows k x stairs lt is =
    let small : k < length (marks rows) = omega (arith, length-map rows (λ (row : Vec Bool). row.items)) in
    ap length (sym (marks-at rows k x lt is)) ∙ stairs k small

-- one more operation is marked, with what its row marks
pub marked_more : (old row new : List Bool) (list : List ℕ) (rows : List (Vec Bool)) (m : ℕ) (x : Vec Bool) → m < length list → get_or list m 0 < length rows → x ≡ get_or rows (get_or list m 0) x → get_or list m 0 < length new →
    ((i : ℕ) → is_marked row i ≡ (is_marked old i || list_any (is_through (marks rows) i) (take m list))) → ((i : ℕ) → is_marked new i ≡ (is_marked row i || is_marked x.items i)) →
    (i : ℕ) → is_marked (set new (get_or list m 0) true) i ≡ (is_marked old i || list_any (is_through (marks rows) i) (take (m + 1) list))
marked_more old row new list rows m x lt there is small so_far added i =
    let k = get_or list m 0 in
    let before = list_any (is_through (marks rows) i) (take m list) in
    is_marked-set new k i small ∙ ap (λ b. b || eqb k i) (added i ∙ ap (λ b. b || is_marked x.items i) (so_far i))
    ∙ regroup (is_marked old i) before (is_marked x.items i) (eqb k i)
    ∙ ap (λ (r : List Bool). is_marked old i || (before || (eqb k i || is_marked r i))) (sym (marks-at rows k x there is))
    ∙ ap (λ b. is_marked old i || b) (sym (list_any_more (is_through (marks rows) i) list m 0 lt))

-- ---- one more row

record Passes {X : Type 0} (p : X → Bool) (xs : List X) : Type 0 where
  place : ℕ
  within : place < length xs
  passes : (d : X) → p (get_or xs place d) ≡ true

passes_one : {X : Type 0} (p : X → Bool) (x : X) (xs : List X) (b : Bool) → p x ≡ b → (b || list_any p xs) ≡ true → (list_any p xs ≡ true → Passes p xs) → Passes p (x ∷ xs)
passes_one p x xs true e h rest = record { place = 0; within = omega arith; passes = λ d. e }
passes_one p x xs false e h rest = let r = rest h in record { place = suc r.place; within = let lt : r.place < length xs = r.within in omega arith; passes = λ d. r.passes d }

passing : {X : Type 0} (p : X → Bool) (xs : List X) → list_any p xs ≡ true → Passes p xs
passing p [] h = absurd cc
passing p (x ∷ xs) h = passes_one p x xs (p x) refl h (passing p xs)

either : (a b : Bool) → (a || b) ≡ true → {P : Type 0} → (a ≡ true → P) → (b ≡ true → P) → P
either true b h f g = f refl
either false b h f g = g h

-- how one operation is before another
pub direct_or_through : (joins : List (List ℕ)) (i n : ℕ) → IsBefore joins i n → Contains (joins_of joins n) i ⊎ ((k : ℕ) × IsBefore joins i k × Contains (joins_of joins n) k)
direct_or_through joins i n (Joined j h) = inl h
direct_or_through joins i n (Through k j b h) = inr (k, b, h)

module _ (joins : List (List ℕ)) (n : ℕ) (rows : List (List Bool)) (good : IsJoinList n (joins_of joins n)) (so_far : AreRows joins n rows) where
  marked_is_before : (i : ℕ) → list_any (is_through rows i) (joins_of joins n) ≡ true → IsBefore joins i n
  marked_is_before i h =
      let one = passing (is_through rows i) (joins_of joins n) h in
      let k = get_or (joins_of joins n) one.place 0 in
      either (eqb k i) (is_marked (get_or rows k []) i) (one.passes 0)
      (λ same. Joined n (one.place, one.within, get_or_default (joins_of joins n) one.place i 0 one.within ∙ eqb-true k i same))
      (λ on. Through k n ((so_far i k (good.earlier one.place one.within)).0 on) (one.place, one.within, get_or_default (joins_of joins n) one.place k 0 one.within))

  before_is_marked : (i : ℕ) → IsBefore joins i n → list_any (is_through rows i) (joins_of joins n) ≡ true
  before_is_marked i b =
      elim (direct_or_through joins i n b) [
        | inl h ↦ list_any_at (is_through rows i) (joins_of joins n) h.0 i h.1 (ap (λ b. b || is_marked (get_or rows (get_or (joins_of joins n) h.0 i) []) i) (eq-eqb _ i h.2))
        | inr w ↦
            let k = w.0 in
            let h = w.2 in
            let low : get_or (joins_of joins n) h.0 0 < n = good.earlier h.0 h.1 in
            let is : get_or (joins_of joins n) h.0 0 ≡ k = get_or_default (joins_of joins n) h.0 0 k h.1 ∙ h.2 in
            let small : k < n = omega arith in
            list_any_at (is_through rows i) (joins_of joins n) h.0 k h.1
            (subst (λ (m : ℕ). is_through rows i m ≡ true) (sym h.2) (ap (λ b. eqb k i || b) ((so_far i k small).1 w.1) ∙ or_true (eqb k i)))
      ]

marks-left : (rows : List (Vec Bool)) (row : Vec Bool) (j : ℕ) → j < length rows → get_or (marks (rows ++ row ∷ [])) j [] ≡ get_or (marks rows) j []
marks-left rows row j lt =
    let small : j < length (rows ++ row ∷ []) = omega (arith, length-append rows (row ∷ [])) in
    get_or-map (λ (r : Vec Bool). r.items) (rows ++ row ∷ []) j row [] small ∙ ap (λ (r : Vec Bool). r.items) (get_or_append_left rows (row ∷ []) row j lt) ∙ sym (get_or-map (λ (r : Vec Bool). r.items) rows j row [] lt)

marks-last : (rows : List (Vec Bool)) (row : Vec Bool) → get_or (marks (rows ++ row ∷ [])) (length rows) [] ≡ row.items
marks-last rows row =
    let small : length rows < length (rows ++ row ∷ []) = omega (arith, length-append rows (row ∷ [])) in
    get_or-map (λ (r : Vec Bool). r.items) (rows ++ row ∷ []) (length rows) row [] small ∙ ap (λ (r : Vec Bool). r.items) (get_or-append_seam rows row [] row)

-- one more step
pub stairs-push : (rows : List (Vec Bool)) (row : Vec Bool) → AreStairs (marks rows) → length row.items ≡ length rows → AreStairs (marks (rows ++ row ∷ []))
stairs-push rows row stairs len j lt =
    let all : length (marks (rows ++ row ∷ [])) ≡ length (rows ++ row ∷ []) = length-map (rows ++ row ∷ []) (λ (r : Vec Bool). r.items) in
    let old : length (marks rows) ≡ length rows = length-map rows (λ (r : Vec Bool). r.items) in
    elim (cases_lt j (length rows)) [
      | inl less ↦ ap length (marks-left rows row j less) ∙ stairs j (omega arith)
      | inr le ↦
          let last : length rows ≡ j = omega (arith, length-append rows (row ∷ [])) in
          subst (λ (k : ℕ). length (get_or (marks (rows ++ row ∷ [])) k []) ≡ k) last (ap length (marks-last rows row) ∙ len)
    ]

-- one more operation has its row
pub rows-push : (joins : List (List ℕ)) (rows : List (Vec Bool)) (row : Vec Bool) → IsJoinList (length rows) (joins_of joins (length rows)) → AreRows joins (length rows) (marks rows) →
    ((i : ℕ) → is_marked row.items i ≡ list_any (is_through (marks rows) i) (joins_of joins (length rows))) → AreRows joins (length rows + 1) (marks (rows ++ row ∷ []))
rows-push joins rows row good so_far marked i j lt =
    elim (cases_lt j (length rows)) [
      | inl less ↦ subst (λ (r : List Bool). IsTrue (is_marked r i) ↔ IsBefore joins i j) (sym (marks-left rows row j less)) (so_far i j less)
      | inr le ↦
          let last : length rows ≡ j = omega arith in
          subst (λ (k : ℕ). IsTrue (is_marked (get_or (marks (rows ++ row ∷ [])) k []) i) ↔ IsBefore joins i k) last
          (subst (λ (r : List Bool). IsTrue (is_marked r i) ↔ IsBefore joins i (length rows)) (sym (marks-last rows row))
          (λ on. marked_is_before joins (length rows) (marks rows) good so_far i (sym (marked i) ∙ on), λ b. marked i ∙ before_is_marked joins (length rows) (marks rows) good so_far i b))
    ]
