-- An order that keeps those that conflict in order has the same run.
use Rattle.std.proofs.Common.{◌≡◌, ◌-◌, List, [], ◌∷◌, ◌++◌, map, sym, ap, subst, ◌∙◌}
use Rattle.std.specs.List.{AllByRecursion}
use Rattle.cell_names.specs.declared.head.Head.{Head}
use Rattle.cell_names.specs.Contents.{Contents}
use Rattle.code_book.specs.Books.{Contracts}
use Rattle.op_rules.specs.Alike.{IsSame, MayBeSwapped, NeverConflict, left_by}
use Rattle.op_rules.specs.Course.{footprint_of}
use Rattle.op_rules.specs.Orders.{Entry, KeepsConflicts, RunsTo}
use Rattle.op_rules.specs.Serial.{Run, receipt_of, run_all, serial}
use Rattle.op_rules.proofs.Swapping.{swapped}

module _ (book : Contracts) (head : Head) where
  -- the operation gives this on these cells
  record IsDone (m : Contents) (e : Entry) : Type 0 where
    receipt : receipt_of e.op (serial book head e.op m) ≡ e.receipt
    footprint : footprint_of (serial book head e.op m).course.past ≡ e.footprint

  -- one after another
  abbrev Goes : Contents → List Entry → Contents → Type 0
  Goes m [] n = m ≡ n
  Goes m (e ∷ entries) n = IsDone m e × Goes (left_by book head e.op m) entries n

  goes_of : (m : Contents) (entries : List Entry) (n : Contents) → RunsTo book head m entries n → Goes m entries n
  goes_of m [] n r = ap (λ (x : Run). x.cells) r
  goes_of m (e ∷ entries) n r =
      let s = serial book head e.op m in
      let rest = run_all book head (map (λ (d : Entry). d.op) entries) (left_by book head e.op m) in
      let receipts : receipt_of e.op s ∷ rest.receipts ≡ e.receipt ∷ map (λ (d : Entry). d.receipt) entries = ap (λ (x : Run). x.receipts) r in
      let footprints : footprint_of s.course.past ∷ rest.footprints ≡ e.footprint ∷ map (λ (d : Entry). d.footprint) entries = ap (λ (x : Run). x.footprints) r in
      let first_receipt : receipt_of e.op s ≡ e.receipt = cc in
      let first_footprint : footprint_of s.course.past ≡ e.footprint = cc in
      let others : rest.receipts ≡ map (λ (d : Entry). d.receipt) entries = cc in
      let touched : rest.footprints ≡ map (λ (d : Entry). d.footprint) entries = cc in
      let cells : rest.cells ≡ n = ap (λ (x : Run). x.cells) r in (
        record { receipt = first_receipt; footprint = first_footprint },
        goes_of (left_by book head e.op m) entries n (λ i. record { cells = cells i; receipts = others i; footprints = touched i }),
      )

  runs_of : (m : Contents) (entries : List Entry) (n : Contents) → Goes m entries n → RunsTo book head m entries n
  runs_of m [] n g = λ i. record { cells = g i; receipts = []; footprints = [] }
  runs_of m (e ∷ entries) n g =
      let is = runs_of (left_by book head e.op m) entries n g.1 in
      let receipt = g.0.receipt in
      let footprint = g.0.footprint in
      λ i. record { cells = (is i).cells; receipts = receipt i ∷ (is i).receipts; footprints = footprint i ∷ (is i).footprints }

  -- where it does the same it gives the same
  still_done : (m n : Contents) (e : Entry) → IsSame (serial book head e.op m) (serial book head e.op n) → IsDone m e → IsDone n e
  still_done m n e same d = record {
    receipt = (let y = same.failure in let c = same.course in λ i. record { end = y i; gas = e.op.gas - (c i).left.gas }) ∙ d.receipt;
    footprint = ap footprint_of (ap (λ c. c.past) same.course) ∙ d.footprint;
  }

  -- an operation goes before one that stands before it, where they never conflict
  swap : (m n : Contents) (d e : Entry) (rest : List Entry) → NeverConflict d.footprint e.footprint → Goes m (d ∷ e ∷ rest) n → Goes m (e ∷ d ∷ rest) n
  swap m n d e rest apart g =
      let s : MayBeSwapped book head d.op e.op m =
      swapped book head d.op e.op m (subst (λ f. NeverConflict f (footprint_of (serial book head e.op (left_by book head d.op m)).course.past)) (sym g.0.footprint) (subst (λ f. NeverConflict d.footprint f) (sym g.1.0.footprint) apart)) in
      (still_done (left_by book head d.op m) m e s.second g.1.0, (still_done m (left_by book head e.op m) d s.first g.0, subst (λ x. Goes x rest n) s.cells g.1.1))

  -- .. and before all of them
  to_front : (m n : Contents) (before : List Entry) (e : Entry) (behind : List Entry) → AllByRecursion (λ d. NeverConflict d.footprint e.footprint) before →
      Goes m (before ++ e ∷ behind) n → Goes m (e ∷ before ++ behind) n
  to_front m n [] e behind all g = g
  to_front m n (d ∷ before) e behind all g =
      swap m n d e (before ++ behind) all.0 (g.0, to_front (left_by book head d.op m) n before e behind all.1 g.1)

  reordered : (m n : Contents) (entries others : List Entry) → KeepsConflicts entries others → Goes m entries n → Goes m others n
  reordered m n entries [] k g = subst (λ x. Goes m x n) k g
  reordered m n entries (e ∷ others) k g =
      let h = to_front m n k.0 e k.1 k.3 (subst (λ x. Goes m x n) k.2 g) in
      (h.0, reordered (left_by book head e.op m) n (k.0 ++ k.1) others k.4 h.1)

  pub runs_in_another_order : (m n : Contents) (entries others : List Entry) → KeepsConflicts entries others → RunsTo book head m entries n → RunsTo book head m others n
  runs_in_another_order m n entries others k r = runs_of m others n (reordered m n entries others k (goes_of m entries n r))
