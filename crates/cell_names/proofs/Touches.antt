-- What `get` finds and what `touch` leaves, by the place of the cell.
use Rattle.std.proofs.Common.{◌≡◌, ℕ, List, get_or, set, Option, Some, None, sym, refl, ap, subst, ◌∙◌}
use Rattle.std.specs.Prelude.{IsTrue, insert}
use Rattle.std.specs.FinMap.{put}
use Rattle.std.specs.FinMap.Entries.{is_sorted-put}
use Rattle.value_core.specs.Places.{IsGap, IsPlace}
use Rattle.value_core.proofs.PlaceLemmas.{find-place, find-gap, put-place, put-gap}
use Rattle.value_core.proofs.Bools.{T_of, true_of}
use Rattle.cell_names.specs.declared.cell.Cell.{Cell}
use Rattle.cell_names.specs.declared.mode.Mode.{Mode}
use Rattle.cell_names.specs.Modes.{joined}
use Rattle.cell_names.specs.Cells.{cell_cmp}
use Rattle.cell_names.specs.CellOrder.{cell_cmp-total}
use Rattle.cell_names.specs.Footprints.{ascends, mode_of, touched, further}

-- the cell of a touch
abbrev cell_of : Cell × Mode → Cell
cell_of t = t.0

pub touched-ascends : (f : List (Cell × Mode)) (c : Cell) (m : Mode) → IsTrue (ascends f) → IsTrue (ascends (touched f c m))
touched-ascends f c m h = true_of _ (is_sorted-put cell_cmp cell_cmp-total c (further (mode_of f c) m) f (T_of _ h))

pub mode_of-place : (s f : List (Cell × Mode)) (c : Cell) (i : ℕ) (x : Cell × Mode) → s ≡ f → IsTrue (ascends f) → IsPlace cell_of s c i → x ≡ get_or f i x → Some x.1 ≡ mode_of f c
mode_of-place s f c i x same up p read =
    let here : IsPlace cell_of f c i = subst (λ (l : List (Cell × Mode)). IsPlace cell_of l c i) same p in
    ap (λ (y : Cell × Mode). Some y.1) read ∙ sym (find-place cell_cmp-total f c i x up here)

pub mode_of-gap : (s f : List (Cell × Mode)) (c : Cell) (i : ℕ) → s ≡ f → IsGap cell_of cell_cmp s c i → None ≡ mode_of f c
mode_of-gap s f c i same g = sym (find-gap cell_cmp-total f c i (subst (λ (l : List (Cell × Mode)). IsGap cell_of cell_cmp l c i) same g))

pub touched-place : (s f : List (Cell × Mode)) (c : Cell) (i : ℕ) (x y : Cell × Mode) (m n : Mode) → s ≡ f → IsTrue (ascends f) → IsPlace cell_of s c i → x ≡ get_or f i x → y ≡ get_or f i y → n ≡ joined x.1 m →
    set f i (y.0, n) ≡ touched f c m
touched-place s f c i x y m n same up p read again mode =
    let here : IsPlace cell_of f c i = subst (λ (l : List (Cell × Mode)). IsPlace cell_of l c i) same p in
    let key : y.0 ≡ c = ap (λ (z : Cell × Mode). z.0) again ∙ here.here y in
    let held : Some x.1 ≡ mode_of f c = mode_of-place f f c i x refl up here read in
    let joins : n ≡ further (mode_of f c) m = mode ∙ ap (λ (o : Option Mode). further o m) held in
    ap (λ (k : Cell). set f i (k, n)) key ∙ sym (put-place cell_cmp-total f c i n up here) ∙ ap (λ (v : Mode). put cell_cmp c v f) joins

pub touched-gap : (s f new : List (Cell × Mode)) (c cell : Cell) (i : ℕ) (m : Mode) → s ≡ f → IsGap cell_of cell_cmp s c i → cell ≡ c → new ≡ insert f i (cell, m) → new ≡ touched f c m
touched-gap s f new c cell i m same g key is =
    let here : IsGap cell_of cell_cmp f c i = subst (λ (l : List (Cell × Mode)). IsGap cell_of cell_cmp l c i) same g in
    let none : None ≡ mode_of f c = mode_of-gap f f c i refl here in
    is ∙ ap (λ (k : Cell). insert f i (k, m)) key ∙ sym (put-gap cell_cmp-total f c i m here) ∙ ap (λ (o : Option Mode). put cell_cmp c (further o m) f) none
