-- Entries that are chosen by their keys: twice, by tests that agree, and the same of two maps.
use Rattle.std.proofs.Common.{◌≡◌, Bool, true, false, ◌&&◌, cond, List, [], ◌∷◌, ◌++◌, None, refl, sym, ap, ◌∙◌}
use Rattle.std.specs.Prelude.{IsTrue}
use Rattle.std.specs.declared.cmp.Ordering.TheVariants.{Equal}
use Rattle.std.specs.FinMap.{find, is_sorted}
use Rattle.std.specs.FinMap.Entries.{find-where_key, is_sorted-where_key, same_entries, where_key}
use Rattle.value_core.specs.declared.val.Val.{Val}
use Rattle.value_core.proofs.Bools.{T_of}
use Rattle.cell_names.specs.declared.cell.Cell.{Cell}
use Rattle.cell_names.specs.Cells.{cell_cmp}
use Rattle.cell_names.specs.CellOrder.{cell_cmp-total, cell_cmp-ties}

-- a cell with its value
abbrev pub Held : Type 0
Held = Cell × Val

-- those whose cells pass a test
abbrev pub chosen : (Cell → Bool) → List Held → List Held
chosen p cells = where_key cell_cmp p cells

pub chosen-append : (p : Cell → Bool) (xs ys : List Held) → chosen p (xs ++ ys) ≡ chosen p xs ++ chosen p ys
chosen-append p [] ys = refl
chosen-append p (x ∷ xs) ys =
    elim (p x.0) as (λ b. cond b (x ∷ chosen p (xs ++ ys)) (chosen p (xs ++ ys)) ≡ cond b (x ∷ chosen p xs) (chosen p xs) ++ chosen p ys) [
      | true ↦ ap (λ l. x ∷ l) (chosen-append p xs ys)
      | false ↦ chosen-append p xs ys
    ]

-- chosen twice, or once by both
pub chosen-both : (p q : Cell → Bool) (xs : List Held) → chosen p (chosen q xs) ≡ chosen (λ c. q c && p c) xs
chosen-both p q [] = refl
chosen-both p q (x ∷ xs) =
    elim (q x.0) as (λ b. chosen p (cond b (x ∷ chosen q xs) (chosen q xs)) ≡ cond (b && p x.0) (x ∷ chosen (λ c. q c && p c) xs) (chosen (λ c. q c && p c) xs)) [
      | true ↦ ap (λ (l : List Held). cond (p x.0) (x ∷ l) l) (chosen-both p q xs)
      | false ↦ chosen-both p q xs
    ]

-- by tests that agree
pub chosen-same : (p q : Cell → Bool) → ((c : Cell) → p c ≡ q c) → (xs : List Held) → chosen p xs ≡ chosen q xs
chosen-same p q same [] = refl
chosen-same p q same (x ∷ xs) = (λ i. cond (same x.0 i) (x ∷ chosen-same p q same xs i) (chosen-same p q same xs i))

and_under : (a b : Bool) → (a ≡ true → b ≡ true) → (b && a) ≡ a
and_under true b h = ap (λ c. c && true) (h refl)
and_under false true h = refl
and_under false false h = refl

-- what passes the narrower test passes both
pub chosen-narrow : (p u : Cell → Bool) → ((c : Cell) → p c ≡ true → u c ≡ true) → (xs : List Held) → chosen p (chosen u xs) ≡ chosen p xs
chosen-narrow p u narrow xs = chosen-both p u xs ∙ chosen-same (λ c. u c && p c) p (λ c. and_under (p c) (u c) (narrow c)) xs

-- so two lists that agree by the wider one agree by the narrower
pub agree_narrow : (p u : Cell → Bool) → ((c : Cell) → p c ≡ true → u c ≡ true) → (xs ys : List Held) → chosen u xs ≡ chosen u ys → chosen p xs ≡ chosen p ys
agree_narrow p u narrow xs ys agree = sym (chosen-narrow p u narrow xs) ∙ ap (chosen p) agree ∙ chosen-narrow p u narrow ys

-- two maps that have the same at each cell that passes agree by the test
pub agree_found : (p : Cell → Bool) (xs ys : List Held) → IsTrue (is_sorted cell_cmp xs) → IsTrue (is_sorted cell_cmp ys) → ((c : Cell) → p c ≡ true → find cell_cmp c xs ≡ find cell_cmp c ys) → chosen p xs ≡ chosen p ys
agree_found p xs ys up up' found =
    same_entries cell_cmp cell_cmp-total cell_cmp-ties (chosen p xs) (chosen p ys)
    (is_sorted-where_key cell_cmp p xs (T_of _ up)) (is_sorted-where_key cell_cmp p ys (T_of _ up'))
    (λ c.
    let alike : (x : Cell) → cell_cmp c x ≡ Equal → p x ≡ p c = λ x tied. ap p (sym (cell_cmp-ties c x tied)) in
    find-where_key cell_cmp p c alike xs
    ∙ elim (p c) as (λ b. (b ≡ true → find cell_cmp c xs ≡ find cell_cmp c ys) → cond b (find cell_cmp c xs) None ≡ cond b (find cell_cmp c ys) None) [
      | true ↦ λ here. here refl
      | false ↦ λ _. refl
    ] (found c)
    ∙ sym (find-where_key cell_cmp p c alike ys))
