-- Cells that are settled are the same cells, without slots.
use Rattle.std.proofs.Common.{◌≡◌, Bool, List, [], sym, ap, ◌∙◌}
use Rattle.std.specs.Prelude.{IsTrue, ◌↔◌}
use Rattle.std.specs.FinMap.{entries, entries_sorted, entries-from_sorted, same_entries_map, from_sorted}
use Rattle.std.specs.FinSet.{empty}
use Rattle.cell_names.specs.Cells.{cell_cmp}
use Rattle.cell_names.specs.Contents.{Contents}
use Rattle.cell_blocks.specs.Blocks.{Held}
use Rattle.ledger_cells.specs.LedgerCells.{LedgerCells}
use Rattle.ledger_cells.specs.Placing.{AreAlike}
use Rattle.ledger_cells.specs.Overlay.{Change, over, slots_of, Overlaid}

-- the entries of cells make the same cells
pub cells_again : (m : Contents) → from_sorted (entries m) ≡ m
cells_again m = same_entries_map _ _ (entries-from_sorted cell_cmp (entries m) (entries_sorted m))

pub settled_cells : (m held : Contents) (walk : List Held) (changes : List Change) → walk ≡ entries m → held ≡ from_sorted walk → changes ≡ [] → over held changes ≡ m
settled_cells m held walk changes all gathered none =
    ap (λ (es : List Change). over held es) none ∙ gathered ∙ ap (λ (es : List Held). from_sorted {R = cell_cmp} es) all ∙ cells_again m

pub no_slots : (changes : List Change) → changes ≡ [] → slots_of changes ≡ empty
no_slots changes none = ap (λ (es : List Change). slots_of es) none

-- the cells of a ledger over settled ones
pub settled : (s : LedgerCells) (o : Overlaid) → o.cells ≡ s.cells → o.slots ≡ empty → record { book = s.book; cells = o.cells; flight = s.flight; slots = o.slots } ≡ record s { slots = empty }
settled s o cells slots = λ i. record { book = s.book; cells = cells i; flight = s.flight; slots = slots i }

-- ---- cells that are alike

-- walks over cells are the same exactly where the cells are
pub holds_same : (m n : Contents) (b : Bool) (x y : List Held) → (IsTrue b ↔ (x ≡ y)) → x ≡ entries m → y ≡ entries n → IsTrue b ↔ (m ≡ n)
holds_same m n b x y rows xs ys = (
  λ is. same_entries_map m n (sym xs ∙ rows.0 is ∙ ys),
  λ are. rows.1 (xs ∙ ap (λ (o : Contents). entries o) are ∙ sym ys),
)

pub alike : (s t : LedgerCells) (b : Bool) → s.flight ≡ t.flight → s.book ≡ t.book → (IsTrue b ↔ (s.cells ≡ t.cells)) → IsTrue b ↔ AreAlike s t
alike s t b flight book holds = (λ is. record { book = book; cells = holds.0 is; flight = flight }, λ are. holds.1 are.cells)
