-- What a run keeps, operation by operation.
use Rattle.std.proofs.Common.{◌≡◌, ◌≢◌, suc, ◌<◌, Bool, true, false, List, [], ◌∷◌, ◌++◌, length, refl, ap, ◌∙◌, arith}
use Rattle.std.specs.FinMap.{get}
use Rattle.cell_names.specs.declared.cell.Cell.{Cell}
use Rattle.cell_names.specs.declared.head.Head.{Head}
use Rattle.cell_names.specs.declared.mode.Mode.{Mode}
use Rattle.cell_names.specs.Contents.{Contents}
use Rattle.cell_names.specs.Footprints.{mode_of}
use Rattle.cell_names.specs.Supply.{supply}
use Rattle.code_book.specs.Books.{Contracts}
use Rattle.op_rules.specs.declared.op.Op.{Op}
use Rattle.op_rules.specs.declared.receipt.Receipt.{Receipt}
use Rattle.op_rules.specs.Course.{footprint_of}
use Rattle.op_rules.specs.Laws.{may_change}
use Rattle.op_rules.specs.Runs.{ChangesAreInFootprints, IsOfNone, IsOfOne, IsOneAfterTheOther, MayHaveChanged, TellsOfEach}
use Rattle.op_rules.specs.Serial.{cells_after, receipt_of, run_all, serial}
use Rattle.op_rules.proofs.Changing.{changes_are_touched}
use Rattle.op_rules.proofs.SupplyStays.{supply_stays}

module _ (book : Contracts) (head : Head) where
  -- the cells that an operation leaves of these
  abbrev left : Op → Contents → Contents
  left op m = cells_after m (serial book head op m)

  pub run_of_none : (m : Contents) → IsOfNone m (run_all book head [] m)
  run_of_none m = record { cells = refl; receipts = refl; footprints = refl }

  pub run_of_one : (op : Op) (m : Contents) → IsOfOne m op (serial book head op m) (run_all book head (op ∷ []) m)
  run_of_one op m = record { cells = refl; receipts = refl; footprints = refl }

  pub run_cut : (xs ys : List Op) (m : Contents) →
      IsOneAfterTheOther (run_all book head xs m) (run_all book head ys (run_all book head xs m).cells) (run_all book head (xs ++ ys) m)
  run_cut [] ys m = record { cells = refl; receipts = refl; footprints = refl }
  run_cut (op ∷ xs) ys m =
      let rest = run_cut xs ys (left op m) in
      record {
        cells = rest.cells;
        receipts = ap (λ (l : List Receipt). receipt_of op (serial book head op m) ∷ l) rest.receipts;
        footprints = ap (λ (l : List (List (Cell × Mode))). footprint_of (serial book head op m).course.past ∷ l) rest.footprints;
      }

  pub run_tells_of_each : (ops : List Op) (m : Contents) → TellsOfEach ops (run_all book head ops m)
  run_tells_of_each [] m = record { receipts = refl; footprints = refl }
  run_tells_of_each (op ∷ ops) m =
      let rest = run_tells_of_each ops (left op m) in record { receipts = ap (λ n. suc n) rest.receipts; footprints = ap (λ n. suc n) rest.footprints }

  pub run_keeps_the_supply : (ops : List Op) (m : Contents) → supply (run_all book head ops m).cells ≡ supply m
  run_keeps_the_supply [] m = refl
  run_keeps_the_supply (op ∷ ops) m = run_keeps_the_supply ops (left op m) ∙ supply_stays m book head op

-- ---- changes

changed_later : (c : Cell) (f : List (Cell × Mode)) (fs : List (List (Cell × Mode))) → MayHaveChanged fs c → MayHaveChanged (f ∷ fs) c
changed_later c f fs h = (suc h.0, h.1, let within : h.0 < length fs = h.2 in omega arith, h.3, h.4)

-- a cell that the first operation may not change has changed later
changed_in : (c : Cell) (f : List (Cell × Mode)) (fs : List (List (Cell × Mode))) (b : Bool) → may_change (mode_of f c) ≡ b → (b ≡ false → MayHaveChanged fs c) → MayHaveChanged (f ∷ fs) c
changed_in c f fs true here later = (0, f, omega arith, refl, here)
changed_in c f fs false here later = changed_later c f fs (later refl)

unlike : (a : Bool) → a ≡ true → a ≡ false → ⊥
unlike a may never = absurd cc

module _ (book : Contracts) (head : Head) where
  -- what it may not change it left, so that the change came later
  later_differs : (c : Cell) (op : Op) (ops : List Op) (m : Contents) → may_change (mode_of (footprint_of (serial book head op m).course.past) c) ≡ false →
      get (run_all book head (op ∷ ops) m).cells c ≢ get m c → get (run_all book head (op ∷ ops) m).cells c ≢ get (left book head op m) c
  later_differs c op ops m none differs same =
      unlike (may_change (mode_of (footprint_of (serial book head op m).course.past) c))
      (changes_are_touched m book head op c (λ kept. differs (same ∙ kept))) none

  pub run_changes : (ops : List Op) (m : Contents) → ChangesAreInFootprints m (run_all book head ops m)
  run_changes [] m c differs = absurd (differs refl)
  run_changes (op ∷ ops) m c differs =
      let f = footprint_of (serial book head op m).course.past in
      changed_in c f (run_all book head ops (left book head op m)).footprints (may_change (mode_of f c)) refl
      (λ none. run_changes ops (left book head op m) c (later_differs c op ops m none differs))
