-- The search for the least cell above a given one: each step of it, and what it comes to.
use Rattle.std.proofs.Common.{◌≡◌, ◌≢◌, Bool, true, false, cond, T, List, [], ◌∷◌, Option, Some, None, refl, sym, ap, subst, ◌∙◌, ◌⊎◌, inl, inr}
use Rattle.std.specs.Prelude.{is_some, IsTrue, MatchOption, ◌&&◌}
use Rattle.std.specs.declared.ops.Bound.TheVariants.{Unbounded}
use Rattle.std.specs.BTreeMap.Range.{entries_between, range_contains}
use Rattle.std.specs.declared.cmp.Ordering.{Ordering}
use Rattle.std.specs.declared.cmp.Ordering.TheVariants.{Less, Equal, Greater}
use Rattle.std.specs.Ordering.{is_eq, is_lt, ordering_reverse}
use Rattle.std.specs.FinMap.{get, contains_key, find, is_sorted}
use Rattle.std.specs.FinMap.Entries.{below_all, find-where_key, is_sorted-where_key}
use Rattle.value_core.proofs.Bools.{first_true, T_of, true_of}
use Rattle.value_core.specs.declared.val.Val.{Val}
use Rattle.cell_names.specs.declared.cell.Cell.{Cell}
use Rattle.cell_names.specs.Cells.{cell_cmp}
use Rattle.cell_names.specs.CellOrder.{cell_cmp-total, cell_cmp-ties}
use Rattle.cell_names.specs.Contents.{Contents}
use Rattle.cell_names.proofs.Puts.{is_one, one_from, is_one-self}
use Rattle.cell_blocks.specs.Successors.{IsAbove, IsNext, NoneAbove}
use Rattle.ledger_cells.specs.Overlay.{Change, over}
use Rattle.ledger_cells.specs.Seeking.{NoneBetween, IsSought, IsLeastHeld, start_above, stands_below}
use Rattle.ledger_cells.proofs.Over.{changed, get-over, held_there, changed_there}
use Rattle.ledger_cells.proofs.Walking.{found_above, below_from_found, below_none, head_below, tail_sorted, there_by}

-- ---- the order of cells

not_twice : (a b : Cell) → cell_cmp a b ≡ Less → cell_cmp b a ≡ Less → ⊥
not_twice a b p q = let turned : cell_cmp b a ≡ ordering_reverse (cell_cmp a b) = cell_cmp-total.antisymm b a in let is : Less ≡ Greater = sym q ∙ turned ∙ ap ordering_reverse p in cc

not_itself : (a b : Cell) → a ≡ b → cell_cmp a b ≡ Less → ⊥
not_itself a b same less = let tied : is_one a b ≡ true = subst (λ (x : Cell). is_one a x ≡ true) same (is_one-self a) in let is : true ≡ false = sym tied ∙ ap is_eq less in cc

-- a cell that isn't below another, nor the same, is above it
above_it : (q c : Cell) → cell_cmp q c ≢ Less → is_one q c ≡ false → cell_cmp c q ≡ Less
above_it q c low apart =
    elim (cell_cmp q c) as (λ r. cell_cmp q c ≡ r → cell_cmp c q ≡ Less) [
      | Less ↦ λ e. absurd (low e)
      | Equal ↦ λ e. let is : true ≡ false = sym (ap is_eq e) ∙ apart in absurd cc
      | Greater ↦ λ e. cell_cmp-total.antisymm c q ∙ ap ordering_reverse e
    ] refl

higher : (given : Option Cell) (c q : Cell) → IsAbove cell_cmp given c → cell_cmp c q ≡ Less → IsAbove cell_cmp given q
higher None c q above less = tt
higher (Some g) c q above less = cell_cmp-total.trans g c q above less

absent_and_there : (o : Option Val) → o ≡ None → is_some o ≡ true → ⊥
absent_and_there o none there = let is : true ≡ false = sym there ∙ ap is_some none in cc

-- a key that is found is not below the first
not_below_first : (k q : Cell) (o : Option Val) (rest : List Change) → IsTrue (is_sorted cell_cmp ((k, o) ∷ rest)) → is_some (find cell_cmp q ((k, o) ∷ rest)) ≡ true → cell_cmp q k ≢ Less
not_below_first k q o rest sorted found less =
    elim (is_one q k) as (λ b. is_one q k ≡ b → is_some (cond b (Some o) (find cell_cmp q rest)) ≡ true → ⊥) [
      | true ↦ λ one _. not_itself q k (one_from q k one) less
      | false ↦ λ _ there. not_twice q k less (found_above k q rest (head_below (k, o) rest sorted) there)
    ] refl found

-- two cells of which one stands below the other are not one
is_one-below : (r k : Cell) → cell_cmp r k ≡ Less → is_one r k ≡ false
is_one-below r k less = ap is_eq less

is_one-above : (q k : Cell) → cell_cmp k q ≡ Less → is_one q k ≡ false
is_one-above q k less = ap is_eq (cell_cmp-total.antisymm q k ∙ ap ordering_reverse less)

below_from : (r k : Cell) (rest : List Change) → cell_cmp r k ≡ Less → T (below_all cell_cmp k rest) → T (below_all cell_cmp r rest)
below_from r k rest less below = below_from_found r rest (λ q found. cell_cmp-total.trans r k q less (found_above k q rest below found))

not_gone : (q k : Cell) (m : Contents) → contains_key m q ≡ true → get m k ≡ None → is_one q k ≡ false
not_gone q k m there gone =
    elim (is_one q k) as (λ b. is_one q k ≡ b → b ≡ false) [
      | true ↦ λ one. absurd (absent_and_there (get m k) gone (ap (λ (c : Cell). is_some (get m c)) (sym (one_from q k one)) ∙ there))
      | false ↦ λ _. refl
    ] refl

-- ---- cells that are there, above the one that the search has come to

module _ (held : Contents) (changes : List Change) (from given : Option Cell) where
  -- what is there, and above, is among the changes that are left, or held
  there_above : (rest : List Change) → IsSought held changes from given rest → (q : Cell) → IsAbove cell_cmp given q → contains_key (over held changes) q ≡ true → (is_some (find cell_cmp q rest) ≡ true) ⊎ (contains_key held q ≡ true)
  there_above rest sought q above there =
      there_by (find cell_cmp q rest) (get held q)
      (ap is_some (sym (get-over held changes q ∙ ap (λ (f : Option (Option Val)). changed f (get held q)) (sought.changes q above))) ∙ there)

  -- no cell that is there, and above the first, stands below the first change that is left
  none_below : (k : Cell) (o : Option Val) (rest : List Change) → IsSought held changes from given ((k, o) ∷ rest) → NoneBetween held given k → (q : Cell) → contains_key (over held changes) q ≡ true → IsAbove cell_cmp from q → cell_cmp q k ≢ Less
  none_below k o rest sought between q there beyond less =
      let above = sought.passed q there beyond in
      elim (there_above ((k, o) ∷ rest) sought q above there) [
        | inl found ↦ not_below_first k q o rest sought.sorted found less
        | inr in_held ↦ between q in_held above less
      ]

  first_above : (k : Cell) (o : Option Val) (rest : List Change) → IsSought held changes from given ((k, o) ∷ rest) → IsAbove cell_cmp given k
  first_above k o rest sought = sought.above k o (ap (λ b. cond b (Some o) (find cell_cmp k rest)) (is_one-self k))

  first_change : (k : Cell) (o : Option Val) (rest : List Change) → IsSought held changes from given ((k, o) ∷ rest) → get (over held changes) k ≡ o
  first_change k o rest sought =
      changed_there held changes k o (sought.changes k (first_above k o rest sought) ∙ ap (λ b. cond b (Some o) (find cell_cmp k rest)) (is_one-self k))

  -- a held cell below the first change that is left is the next one
  pub held_is_next : (r : Cell) (w : Val) (k : Cell) (o : Option Val) (rest : List Change) → IsSought held changes from given ((k, o) ∷ rest) → IsNext cell_cmp held given r w → cell_cmp r k ≡ Less → IsNext cell_cmp (over held changes) from r w
  held_is_next r w k o rest sought next less = record {
    stands =
        held_there held changes r
        (sought.changes r next.above
        ∙ ap (λ b. cond b (Some o) (find cell_cmp r rest)) (is_one-below r k less)
        ∙ below_none r rest (below_from r k rest less (head_below (k, o) rest sought.sorted)))
        ∙ next.stands;
    above = sought.beyond r next.above;
    least = λ q there beyond low.
        let above = sought.passed q there beyond in
        elim (there_above ((k, o) ∷ rest) sought q above there) [
          | inl found ↦ not_below_first k q o rest sought.sorted found (cell_cmp-total.trans q r k low less)
          | inr in_held ↦ next.least q in_held above low
        ];
  }

  -- the first change that is left is the next one, where no held cell stands before it
  pub change_is_next : (k : Cell) (v : Val) (rest : List Change) → IsSought held changes from given ((k, Some v) ∷ rest) → NoneBetween held given k → IsNext cell_cmp (over held changes) from k v
  change_is_next k v rest sought between = record {
    stands = first_change k (Some v) rest sought;
    above = sought.beyond k (first_above k (Some v) rest sought);
    least = none_below k (Some v) rest sought between;
  }

  -- where no change is left, the next held cell is the next one
  pub last_is_next : (r : Cell) (w : Val) → IsSought held changes from given [] → IsNext cell_cmp held given r w → IsNext cell_cmp (over held changes) from r w
  last_is_next r w sought next = record {
    stands = held_there held changes r (sought.changes r next.above) ∙ next.stands;
    above = sought.beyond r next.above;
    least = λ q there beyond low.
        let above = sought.passed q there beyond in
        elim (there_above [] sought q above there) [ inl found ↦ absurd cc | inr in_held ↦ next.least q in_held above low ];
  }

  pub none_is_next : IsSought held changes from given [] → NoneAbove cell_cmp held given → NoneAbove cell_cmp (over held changes) from
  none_is_next sought none q there beyond =
      let above = sought.passed q there beyond in
      elim (there_above [] sought q above there) [ inl found ↦ absurd cc | inr in_held ↦ none q in_held above ]

  found_further : (k q : Cell) (o : Option Val) (rest : List Change) → cell_cmp k q ≡ Less → find cell_cmp q ((k, o) ∷ rest) ≡ find cell_cmp q rest
  found_further k q o rest less = ap (λ b. cond b (Some o) (find cell_cmp q rest)) (is_one-above q k less)

  -- a change that is gone is passed
  pub sought_further : (k : Cell) (rest : List Change) → IsSought held changes from given ((k, None) ∷ rest) → NoneBetween held given k → IsSought held changes from (Some k) rest
  sought_further k rest sought between = record {
    passed = λ q there beyond. above_it q k (none_below k None rest sought between q there beyond) (not_gone q k (over held changes) there (first_change k None rest sought));
    beyond = λ q above. sought.beyond q (higher given k q (first_above k None rest sought) above);
    changes = λ q above. sought.changes q (higher given k q (first_above k None rest sought) above) ∙ found_further k q None rest above;
    above = λ q o found. found_above k q rest (head_below (k, None) rest sought.sorted) (ap is_some found);
    sorted = tail_sorted (k, None) rest sought.sorted;
  }

-- ---- the search, begun

is_less_eq : (r : Ordering) → is_lt r ≡ true → r ≡ Less
is_less_eq Less e = refl
is_less_eq Equal e = absurd cc
is_less_eq Greater e = absurd cc

-- whether a cell is in the range
abbrev in_range : Option Cell → Cell → Bool
in_range from q = range_contains cell_cmp (start_above from) Unbounded q

in_range_alike : (from : Option Cell) (q x : Cell) → cell_cmp q x ≡ Equal → in_range from x ≡ in_range from q
in_range_alike from q x tied = ap (in_range from) (sym (cell_cmp-ties q x tied))

above_in_range : (from : Option Cell) (q : Cell) → IsAbove cell_cmp from q → in_range from q ≡ true
above_in_range None q above = refl
above_in_range (Some c) q above = ap (λ r. is_lt r && true) above

in_range_above : (from : Option Cell) (q : Cell) → in_range from q ≡ true → IsAbove cell_cmp from q
in_range_above None q e = tt
in_range_above (Some c) q e = is_less_eq (cell_cmp c q) (first_true (is_lt (cell_cmp c q)) true e)

found_in : (b : Bool) (f : Option (Option Val)) (o : Option Val) → cond b f None ≡ Some o → b ≡ true
found_in true f o e = refl
found_in false f o e = absurd cc

pub sought_begun : (held : Contents) (changes rest : List Change) (from : Option Cell) → IsTrue (is_sorted cell_cmp changes) → rest ≡ entries_between cell_cmp (start_above from) Unbounded changes → IsSought held changes from from rest
sought_begun held changes rest from sorted is =
    let same : (q : Cell) → find cell_cmp q rest ≡ cond (in_range from q) (find cell_cmp q changes) None = λ q. ap (find cell_cmp q) is ∙ find-where_key cell_cmp (in_range from) q (in_range_alike from q) changes in
    record {
      passed = λ q there above. above;
      beyond = λ q above. above;
      changes = λ q above. sym (same q ∙ ap (λ b. cond b (find cell_cmp q changes) None) (above_in_range from q above));
      above = λ q o found. in_range_above from q (found_in (in_range from q) (find cell_cmp q changes) o (sym (same q) ∙ found));
      sorted = subst (λ (l : List Change). IsTrue (is_sorted cell_cmp l)) (sym is) (true_of _ (is_sorted-where_key cell_cmp (in_range from) changes (T_of _ sorted)));
    }

-- ---- each turn of the search

-- a held row below the first change that is left is found
pub row_found : (held : Contents) (changes : List Change) (from given : Option Cell) (k : Cell) (o : Option Val) (rest : List Change) (row : Option (Cell × Val)) → IsSought held changes from given ((k, o) ∷ rest) → IsLeastHeld held given row → stands_below row k ≡ true →
    MatchOption row (NoneAbove cell_cmp (over held changes) from) (λ r. IsNext cell_cmp (over held changes) from r.0 r.1)
row_found held changes from given k o rest None sought least below = absurd cc
row_found held changes from given k o rest (Some r) sought least below = held_is_next held changes from given r.0 r.1 k o rest sought least (is_less_eq (cell_cmp r.0 k) below)

pub none_between : (held : Contents) (given : Option Cell) (k : Cell) (row : Option (Cell × Val)) → IsLeastHeld held given row → stands_below row k ≡ false → NoneBetween held given k
none_between held given k None least below q there above less = least q there above
none_between held given k (Some r) least below q there above less =
    let low : cell_cmp q r.0 ≢ Less = least.least q there above in
    elim (is_one q r.0) as (λ b. is_one q r.0 ≡ b → ⊥) [
      | true ↦ λ one. let is : true ≡ false = sym (ap is_lt less) ∙ ap (λ (c : Cell). is_lt (cell_cmp c k)) (one_from q r.0 one) ∙ below in cc
      | false ↦ λ apart. let is : true ≡ false = sym (ap is_lt (cell_cmp-total.trans r.0 q k (above_it q r.0 low apart) less)) ∙ below in cc
    ] refl

-- what the search comes to where no change is left
pub row_last : (held : Contents) (changes : List Change) (from given : Option Cell) (row : Option (Cell × Val)) → IsSought held changes from given [] → IsLeastHeld held given row →
    MatchOption row (NoneAbove cell_cmp (over held changes) from) (λ r. IsNext cell_cmp (over held changes) from r.0 r.1)
row_last held changes from given None sought least = none_is_next held changes from given sought least
row_last held changes from given (Some r) sought least = last_is_next held changes from given r.0 r.1 sought least

pub least_is : (held : Contents) (given : Option Cell) (row : Option (Cell × Val)) → MatchOption row (NoneAbove cell_cmp held given) (λ r. IsNext cell_cmp held given r.0 r.1) → IsLeastHeld held given row
least_is held given None least = least
least_is held given (Some r) least = least
