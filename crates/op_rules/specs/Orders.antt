-- Runs of operations with what each gives, and other orders of them.
use Rattle.std.specs.Prelude.{◌≡◌, ℕ, ◌+◌, List, [], ◌∷◌, ◌++◌, map}
use Rattle.std.specs.List.{AllByRecursion}
use Rattle.cell_names.specs.declared.cell.Cell.{Cell}
use Rattle.cell_names.specs.declared.head.Head.{Head}
use Rattle.cell_names.specs.declared.mode.Mode.{Mode}
use Rattle.cell_names.specs.Contents.{Contents}
use Rattle.code_book.specs.Books.{Contracts}
use Rattle.join_schedule.specs.Joins.{IsBefore}
use Rattle.op_rules.specs.declared.op.Op.{Op}
use Rattle.op_rules.specs.declared.receipt.Receipt.{Receipt}
use Rattle.op_rules.specs.Alike.{NeverConflict}
use Rattle.op_rules.specs.Serial.{run_all}

-- an operation, its receipt and its footprint
pub record Entry : Type 0 where
  pub op : Op
  pub receipt : Receipt
  pub footprint : List (Cell × Mode)

-- the operations, one after another, have these receipts and footprints, and lead from these cells to those
abbrev pub RunsTo : Contracts → Head → Contents → List Entry → Contents → Type 0
RunsTo book head m entries n =
    run_all book head (map (λ e. e.op) entries) m
    ≡ record { cells = n; receipts = map (λ e. e.receipt) entries; footprints = map (λ e. e.footprint) entries }

-- the other order has the same operations, and two that conflict stand in it as they stood: its first one stood behind none with which it
-- conflicts, and so on with the rest
abbrev pub KeepsConflicts : List Entry → List Entry → Type 0
KeepsConflicts entries [] = entries ≡ []
KeepsConflicts entries (e ∷ others) =
    (before behind : List Entry) × (entries ≡ before ++ e ∷ behind)
    × AllByRecursion (λ d. NeverConflict d.footprint e.footprint) before × KeepsConflicts (before ++ behind) others

-- ---- orders and joins

-- entries with their numbers, counted from this one
abbrev pub numbered : ℕ → List Entry → List (ℕ × Entry)
numbered n [] = []
numbered n (e ∷ entries) = (n, e) ∷ numbered (n + 1) entries

-- the same entries, each as often
abbrev pub IsOrderOf : List (ℕ × Entry) → List (ℕ × Entry) → Type 0
IsOrderOf entries [] = entries ≡ []
IsOrderOf entries (e ∷ others) = (before behind : List (ℕ × Entry)) × (entries ≡ before ++ e ∷ behind) × IsOrderOf (before ++ behind) others

-- none stands behind another that it is before by the joins
abbrev pub Respects : List (List ℕ) → List (ℕ × Entry) → Type 0
Respects joins [] = Unit {0}
Respects joins (e ∷ others) = AllByRecursion (λ d. ¬ IsBefore joins d.0 e.0) others × Respects joins others

-- entries without their numbers
abbrev pub entries_in : List (ℕ × Entry) → List Entry
entries_in = map (λ e. e.1)
