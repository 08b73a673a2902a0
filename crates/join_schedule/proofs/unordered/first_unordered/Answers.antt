-- One turn of the loop, by what its calls gave.
use Rattle.std.proofs.Common.{◌≡◌, ◌↔◌, ◌<◌, ℕ, Bool, List, [], ◌++◌, Option, Some, None, length, get_or, take, sym, ap, subst, ◌∙◌, arith, ◌+◌}
use Rattle.std.proofs.lemmas.List.{get_or_default}
use Rattle.std.specs.Prelude.{IsTrue}
use Rattle.std.specs.Global.{Vec}
use Rattle.cell_names.specs.declared.cell.Cell.{Cell}
use Rattle.cell_names.specs.declared.mode.Mode.{Mode}
use Rattle.cell_names.specs.Footprints.{ascends, mode_of}
use Rattle.join_schedule.specs.Joins.{IsBefore}
use Rattle.join_schedule.specs.Cover.{footprint_of, AreInConflict, IsFirstUnordered}
use Rattle.join_schedule.specs.Sets.{is_marked, marks, AreRows}
use Rattle.join_schedule.specs.Touchers.{touches_at, touchers, one_touch, first_apart}
use Rattle.join_schedule.proofs.Rows.{marks-at}
use Rattle.join_schedule.proofs.Told.{all_before, is_first, ordered_more, touchers-more}
use Rattle.join_schedule.proofs.unordered.first_unordered.Goals as goal

-- one turn of the loop, by what its calls gave
module _ (joins : List (List ℕ)) (fs : List (List (Cell × Mode))) (j : ℕ) (rows : List (Vec Bool)) (row : Vec Bool) (slice : List Bool) (mine touches : List (Cell × Mode)) (touched : Cell → List (ℕ × Mode))
    (within : j < length fs) (count : length rows ≡ length joins) (paired : length joins ≡ length fs) (are_rows : AreRows joins (length joins) (marks rows)) (row-is : row ≡ get_or rows j row) (slice-is : slice ≡ row.items)
    (mine-is : mine ≡ get_or fs j mine) (touches-is : touches ≡ mine) (up : IsTrue (ascends mine))
    (ordered : (h k : ℕ) → h < k → k < j → (d : Cell) → AreInConflict fs h k d → IsBefore joins h k) (so_far : (c : Cell) → touched c ≡ touchers 0 (take j fs) c) where
  own : mine ≡ footprint_of fs j
  own = mine-is ∙ get_or_default fs j mine [] within

  marked : (i : ℕ) → IsTrue (is_marked slice i) ↔ IsBefore joins i j
  marked i =
      let there : j < length rows = omega arith in
      let small : j < length joins = omega arith in
      subst (λ (r : List Bool). IsTrue (is_marked r i) ↔ IsBefore joins i j) (marks-at rows j row there row-is ∙ sym slice-is) (are_rows i j small)

  ascending : IsTrue (ascends (footprint_of fs j))
  ascending = subst (λ (f : List (Cell × Mode)). IsTrue (ascends f)) own up

  by_footprint : (o : Option (ℕ × Cell)) → o ≡ first_apart slice touched touches → first_apart slice touched (footprint_of fs j) ≡ o
  by_footprint o e = ap (first_apart slice touched) (sym (touches-is ∙ own)) ∙ sym e

  pub told : (a : ℕ) (c cell : Cell) → Some (a, c) ≡ first_apart slice touched touches → cell ≡ c → IsFirstUnordered joins fs a j cell
  told a c cell e same = subst (λ (k : Cell). IsFirstUnordered joins fs a j k) (sym same) (is_first joins fs j slice touched within ascending marked so_far a c (by_footprint (Some (a, c)) e) ordered)

  pub goes_on : None ≡ first_apart slice touched touches → (h k : ℕ) → h < k → k < j + 1 → (d : Cell) → AreInConflict fs h k d → IsBefore joins h k
  goes_on e = ordered_more joins fs j ordered (all_before joins fs j slice touched within ascending marked so_far (by_footprint None e))

  pub noted_on : (now : Cell → List (ℕ × Mode)) → ((c : Cell) → now c ≡ touched c ++ one_touch j (mode_of touches c)) → (c : Cell) → now c ≡ touchers 0 (take (j + 1) fs) c
  noted_on now e c =
      e c ∙ ap (λ (l : List (ℕ × Mode)). l ++ one_touch j (mode_of touches c)) (so_far c) ∙ ap (λ (f : List (Cell × Mode)). touchers 0 (take j fs) c ++ one_touch j (mode_of f c)) (touches-is ∙ own)
      ∙ touchers-more fs j c within

pub returns-in-Some-clause-first : goal.returns-in-Some-clause-first
returns-in-Some-clause-first c =
    told c.args.j.now c.args.f.now c.loop-later.later c.in_ok-rows.rows.items c.index.result.now c.as_slice.result.now c.index-f-later.result c.touches-touches.result.now (touches_at c.loop-later.touchers)
    c.loop-later-test.true c.in_ok-rows.ensures.count c.requires.paired c.in_ok-rows.ensures.rows c.index.ensures c.as_slice.ensures.value c.index-f-later.is c.touches-touches.ensures.value c.touches-touches.ensures.ascending
    c.loop-later.invariant.0 c.loop-later.invariant.1
    c.in-Some.earlier c.in-Some.cell.now c.in_ok-copy-in-Some.field-0 c.in-Some.ensures c.in_ok-copy-in-Some.ensures

pub loop-later-preserved : goal.loop-later-preserved
loop-later-preserved c = (
  goes_on c.args.j.now c.args.f.now c.loop-later.later c.in_ok-rows.rows.items c.index.result.now c.as_slice.result.now c.index-f-later.result c.touches-touches.result.now (touches_at c.loop-later.touchers)
      c.loop-later-test.true c.in_ok-rows.ensures.count c.requires.paired c.in_ok-rows.ensures.rows c.index.ensures c.as_slice.ensures.value c.index-f-later.is c.touches-touches.ensures.value c.touches-touches.ensures.ascending
      c.loop-later.invariant.0 c.loop-later.invariant.1 c.in-None.ensures,
  noted_on c.args.j.now c.args.f.now c.loop-later.later c.in_ok-rows.rows.items c.index.result.now c.as_slice.result.now c.index-f-later.result c.touches-touches.result.now (touches_at c.loop-later.touchers)
      c.loop-later-test.true c.in_ok-rows.ensures.count c.requires.paired c.in_ok-rows.ensures.rows c.index.ensures c.as_slice.ensures.value c.index-f-later.is c.touches-touches.ensures.value c.touches-touches.ensures.ascending
      c.loop-later.invariant.0 c.loop-later.invariant.1 (touches_at c.note.new.touchers) c.in_ok-note-in-None.ensures,
)
