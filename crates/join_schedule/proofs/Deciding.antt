-- Whether lists are joins, which operations are before one, and whether joins cover: each is so, or it isn't.
use Rattle.std.proofs.Common.{◌≡◌, ◌↔◌, ℕ, zero, suc, ◌+◌, ◌<◌, ◌≤◌, Bool, true, false, List, [], ◌∷◌, ◌++◌, length, get_or, take, Option, Some, None, sym, refl, subst, ◌∙◌, arith, inl, inr, ◌⊎◌}
use Rattle.std.specs.Prelude.{IsTrue}
use Rattle.std.specs.List.{Contains}
use Rattle.std.proofs.lemmas.Bool.{cases_lt}
use Rattle.std.proofs.lemmas.List.{get_or_default, get_or_append_left, get_or_past, length-append}
use Rattle.std.proofs.Math.Seq.{get_or-append_seam}
use Rattle.cell_names.specs.declared.cell.Cell.{Cell}
use Rattle.cell_names.specs.declared.mode.Mode.{Mode}
use Rattle.cell_names.specs.Footprints.{ascends}
use Rattle.join_schedule.specs.Joins.{joins_of, IsJoinList, AreJoins, IsFirstBad, IsBefore, Joined, Through}
use Rattle.join_schedule.specs.Cover.{footprint_of, AreInConflict, Cover, IsFirstUnordered}
use Rattle.join_schedule.specs.Sets.{is_marked}
use Rattle.join_schedule.specs.Touchers.{touchers, first_apart}
use Rattle.join_schedule.proofs.Rows.{direct_or_through}
use Rattle.join_schedule.proofs.Told.{all_before, is_first, ordered_more}

-- it is so, or it isn't
abbrev pub Either : Type 0 → Type 0
Either P = P ⊎ (P → ⊥)

-- the least number below n of which something isn't true
pub record Exception (P : ℕ → Type 0) (n : ℕ) : Type 0 where
  pub place : ℕ
  pub within : place < n
  pub not : P place → ⊥
  pub before : (k : ℕ) → k < place → P k

pub every_below : (P : ℕ → Type 0) (n : ℕ) → ((k : ℕ) → k < n → Either (P k)) → ((k : ℕ) → k < n → P k) ⊎ Exception P n
every_below P zero test = inl (λ k lt. absurd (omega arith))
every_below P (suc n) test = more (every_below P n (λ k lt. test k (omega arith))) (test n (omega arith))
  where
    more : ((k : ℕ) → k < n → P k) ⊎ Exception P n → Either (P n) → ((k : ℕ) → k < suc n → P k) ⊎ Exception P (suc n)
    more (inr x) here = inr (record { place = x.place; within = let lt : x.place < n = x.within in omega arith; not = x.not; before = x.before })
    more (inl all) (inr fails) = inr (record { place = n; within = omega arith; not = fails; before = all })
    more (inl all) (inl holds) = inl (λ k lt. elim (cases_lt k n) [ inl low ↦ all k low | inr high ↦ let e : n ≡ k = omega arith in subst P e holds ])

either_lt : (m n : ℕ) → Either (m < n)
either_lt m n = elim (cases_lt m n) [ inl lt ↦ inl lt | inr le ↦ inr (λ lt. omega arith) ]

pub either_equal : (m n : ℕ) → Either (m ≡ n)
either_equal m n = elim (cases_lt m n) [ inl lt ↦ inr (λ e. omega arith) | inr le ↦ elim (cases_lt n m) [ inl lt ↦ inr (λ e. omega arith) | inr ge ↦ inl (omega arith) ] ]

-- ---- lists of joins

-- a number of the list is below the next one
abbrev Rises : List ℕ → ℕ → Type 0
Rises list k = k + 1 < length list → get_or list k 0 < get_or list (k + 1) 0

rises : (list : List ℕ) (k : ℕ) → Either (Rises list k)
rises list k = elim (either_lt (k + 1) (length list)) [
  | inl inside ↦ elim (either_lt (get_or list k 0) (get_or list (k + 1) 0)) [ inl up ↦ inl (λ _. up) | inr fails ↦ inr (λ f. fails (f inside)) ]
  | inr outside ↦ inl (λ inside. absurd (outside inside))
]

list_by : (j : ℕ) (list : List ℕ) → ((k : ℕ) → k < length list → Rises list k) ⊎ Exception (Rises list) (length list) → ((k : ℕ) → k < length list → get_or list k 0 < j) ⊎ Exception (λ k. get_or list k 0 < j) (length list) → Either (IsJoinList j list)
list_by j list (inl up) (inl low) = inl (record { ascends = λ k inside. up k (omega arith) inside; earlier = low })
list_by j list (inr x) low = inr (λ good. x.not (good.ascends x.place))
list_by j list (inl up) (inr x) = inr (λ good. x.not (good.earlier x.place x.within))

either_list : (j : ℕ) (list : List ℕ) → Either (IsJoinList j list)
either_list j list = list_by j list (every_below (Rises list) (length list) (λ k lt. rises list k)) (every_below (λ k. get_or list k 0 < j) (length list) (λ k lt. either_lt (get_or list k 0) j))

pub joins_or_bad : (joins : List (List ℕ)) → AreJoins joins ⊎ ((j : ℕ) × IsFirstBad joins j)
joins_or_bad joins = by (every_below (λ j. IsJoinList j (joins_of joins j)) (length joins) (λ j lt. either_list j (joins_of joins j)))
  where
    by : ((j : ℕ) → j < length joins → IsJoinList j (joins_of joins j)) ⊎ Exception (λ j. IsJoinList j (joins_of joins j)) (length joins) → AreJoins joins ⊎ ((j : ℕ) × IsFirstBad joins j)
    by (inl all) = inl all
    by (inr x) = inr (x.place, record { within = x.within; bad = x.not; least = x.before })

-- ---- which operations are before one

module _ (joins : List (List ℕ)) (good : AreJoins joins) where
  -- what an operation is joined to is earlier
  joined_earlier : (k n : ℕ) → n < length joins → Contains (joins_of joins n) k → k < n
  joined_earlier k n lt h =
      let here : get_or (joins_of joins n) h.0 0 < n = (good n lt).earlier h.0 h.1 in
      let is : get_or (joins_of joins n) h.0 0 ≡ k = get_or_default (joins_of joins n) h.0 0 k h.1 ∙ h.2 in
      omega arith

  before_earlier : (i n : ℕ) → IsBefore joins i n → n < length joins → i < n
  before_earlier i n (Joined j h) lt = joined_earlier i j lt h
  before_earlier i n (Through k j b h) lt =
      let low : k < j = joined_earlier k j lt h in
      let rest : i < k = before_earlier i k b (omega arith) in
      omega arith

  -- operation i is the one at this place of a list, or before it
  abbrev Reaches : ℕ → List ℕ → ℕ → Type 0
  Reaches i list m = (get_or list m 0 ≡ i) ⊎ IsBefore joins i (get_or list m 0)

  by_place : (i n m : ℕ) → m < length (joins_of joins n) → Reaches i (joins_of joins n) m → IsBefore joins i n
  by_place i n m inside (inl is) = Joined n (m, inside, get_or_default (joins_of joins n) m i 0 inside ∙ is)
  by_place i n m inside (inr b) = Through (get_or (joins_of joins n) m 0) n b (m, inside, get_or_default (joins_of joins n) m (get_or (joins_of joins n) m 0) 0 inside)

  has_place : (i n : ℕ) → IsBefore joins i n → (m : ℕ) × (m < length (joins_of joins n)) × Reaches i (joins_of joins n) m
  has_place i n b =
      elim (direct_or_through joins i n b) [
        | inl h ↦ (h.0, h.1, inl (get_or_default (joins_of joins n) h.0 0 i h.1 ∙ h.2))
        | inr w ↦
            let h = w.2 in
            let is : w.0 ≡ get_or (joins_of joins n) h.0 0 = sym (get_or_default (joins_of joins n) h.0 0 w.0 h.1 ∙ h.2) in
            (h.0, h.1, inr (subst (λ (k : ℕ). IsBefore joins i k) is w.1))
      ]

  -- what is before operation n, by what is before the earlier ones
  module _ (n : ℕ) (small : n < length joins) (below : (j : ℕ) → j < n → (i : ℕ) → Either (IsBefore joins i j)) (i : ℕ) where
    reaches : (m : ℕ) → m < length (joins_of joins n) → Either (Reaches i (joins_of joins n) m)
    reaches m inside =
        let low : get_or (joins_of joins n) m 0 < n = (good n small).earlier m inside in
        elim (either_equal (get_or (joins_of joins n) m 0) i) [
          | inl is ↦ inl (inl is)
          | inr apart ↦ elim (below (get_or (joins_of joins n) m 0) low i) [
            | inl b ↦ inl (inr b)
            | inr fails ↦ inr (λ r. elim r [ inl is ↦ apart is | inr b ↦ fails b ])
          ]
        ]

    misses : (m : ℕ) → m < length (joins_of joins n) → Either (Reaches i (joins_of joins n) m → ⊥)
    misses m inside = elim (reaches m inside) [ inl holds ↦ inr (λ fails. fails holds) | inr fails ↦ inl fails ]

    before_by : ((m : ℕ) → m < length (joins_of joins n) → Reaches i (joins_of joins n) m → ⊥) ⊎ Exception (λ m. Reaches i (joins_of joins n) m → ⊥) (length (joins_of joins n)) → Either (IsBefore joins i n)
    before_by (inl none) = inr (λ b. let p = has_place i n b in none p.0 p.1 p.2)
    before_by (inr x) = elim (reaches x.place x.within) [ inl holds ↦ inl (by_place i n x.place x.within holds) | inr fails ↦ absurd (x.not fails) ]

    before_here : Either (IsBefore joins i n)
    before_here = before_by (every_below (λ m. Reaches i (joins_of joins n) m → ⊥) (length (joins_of joins n)) misses)

  either_before : (n : ℕ) → n ≤ length joins → (j : ℕ) → j < n → (i : ℕ) → Either (IsBefore joins i j)
  either_before zero small j lt i = absurd (omega arith)
  either_before (suc n) small j lt i =
      elim (cases_lt j n) [
        | inl low ↦ either_before n (omega arith) j low i
        | inr high ↦ let e : n ≡ j = omega arith in subst (λ (k : ℕ). Either (IsBefore joins i k)) e (before_here n (omega arith) (either_before n (omega arith)) i)
      ]

  -- ---- as a row of marks

  -- the marks of operations below n that are before j
  record Row (j n : ℕ) : Type 0 where
    row : List Bool
    count : length row ≡ n
    marked : (i : ℕ) → i < n → IsTrue (is_marked row i) ↔ IsBefore joins i j

  marks_one : {P : Type 0} → Either P → (b : Bool) × (IsTrue b ↔ P)
  marks_one (inl holds) = (true, ((λ _. holds), (λ _. refl)))
  marks_one (inr fails) = (false, ((λ on. absurd cc), (λ holds. absurd (fails holds))))

  row_below : (j : ℕ) → j < length joins → (n : ℕ) → Row j n
  row_below j lt zero = record { row = []; count = refl; marked = λ i inside. absurd (omega arith) }
  row_below j lt (suc n) = more (row_below j lt n) (marks_one (either_before (suc j) (omega arith) j (omega arith) n))
    where
      more : Row j n → (b : Bool) × (IsTrue b ↔ IsBefore joins n j) → Row j (suc n)
      more r m = record {
        row = r.row ++ m.0 ∷ [];
        count = let c = r.count in omega (arith, length-append r.row (m.0 ∷ []));
        marked = λ i inside. elim (cases_lt i n) [
          | inl low ↦
              let there : i < length r.row = let c = r.count in omega arith in
              subst (λ (b : Bool). IsTrue b ↔ IsBefore joins i j) (sym (get_or_append_left r.row (m.0 ∷ []) false i there)) (r.marked i low)
          | inr high ↦
              let last : length r.row ≡ i = let c = r.count in omega arith in
              let is : n ≡ i = omega arith in
              subst (λ (k : ℕ). IsTrue (is_marked (r.row ++ m.0 ∷ []) k) ↔ IsBefore joins i j) last
              (subst (λ (b : Bool). IsTrue b ↔ IsBefore joins i j) (sym (get_or-append_seam r.row m.0 [] false)) (subst (λ (k : ℕ). IsTrue m.0 ↔ IsBefore joins k j) is m.1))
        ];
      }

  -- the marks of all operations that are before j
  row_of : (j : ℕ) → j < length joins → (row : List Bool) × ((i : ℕ) → IsTrue (is_marked row i) ↔ IsBefore joins i j)
  row_of j lt =
      let r = row_below j lt j in (
        r.row,
        λ i. elim (cases_lt i j) [
          | inl low ↦ r.marked i low
          | inr high ↦
              let off : is_marked r.row i ≡ false = get_or_past r.row i false (let c = r.count in omega arith) in
              ((λ on. let both : true ≡ false = sym on ∙ off in absurd cc), (λ b. let early : i < j = before_earlier i j b lt in absurd (omega arith)))
        ],
      )

  -- ---- the conflicts

  module _ (fs : List (List (Cell × Mode))) (paired : length joins ≡ length fs) (up : (j : ℕ) → j < length fs → IsTrue (ascends (footprint_of fs j))) where
    -- all conflicts among the first n operations are in order
    abbrev Ordered : ℕ → Type 0
    Ordered n = (h k : ℕ) → h < k → k < n → (d : Cell) → AreInConflict fs h k d → IsBefore joins h k

    abbrev First : Type 0
    First = (i : ℕ) × (j : ℕ) × (c : Cell) × IsFirstUnordered joins fs i j c

    turn : (n : ℕ) → n < length fs → Ordered n → (row : List Bool) → ((i : ℕ) → IsTrue (is_marked row i) ↔ IsBefore joins i n) → (o : Option (ℕ × Cell)) → first_apart row (touchers 0 (take n fs)) (footprint_of fs n) ≡ o → Ordered (suc n) ⊎ First
    turn n lt ordered row marked (Some (a, c)) e = inr (a, n, c, is_first joins fs n row (touchers 0 (take n fs)) lt (up n lt) marked (λ c. refl) a c e ordered)
    turn n lt ordered row marked None e =
        inl (λ h k low small d conflict. ordered_more joins fs n ordered (all_before joins fs n row (touchers 0 (take n fs)) lt (up n lt) marked (λ c. refl) e) h k low (omega arith) d conflict)

    ordered_or_first : (n : ℕ) → n ≤ length fs → Ordered n ⊎ First
    ordered_or_first zero small = inl (λ h k low none. absurd (omega arith))
    ordered_or_first (suc n) small = more (ordered_or_first n (omega arith))
      where
        more : Ordered n ⊎ First → Ordered (suc n) ⊎ First
        more (inr first) = inr first
        more (inl ordered) =
            let row = row_of n (omega arith) in
            turn n (omega arith) ordered row.0 row.1 (first_apart row.0 (touchers 0 (take n fs)) (footprint_of fs n)) refl

    pub cover_or_first : Cover joins fs ⊎ ((i : ℕ) × (j : ℕ) × (c : Cell) × IsFirstUnordered joins fs i j c)
    cover_or_first = elim (ordered_or_first (length fs) (omega arith)) [ inl ordered ↦ inl (λ i j low small c conflict. ordered i j low small c conflict) | inr first ↦ inr first ]
