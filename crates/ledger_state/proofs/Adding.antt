-- Which cells may be added, as the reader, the fold and the cells themselves say it.
use Rattle.std.proofs.Common.{◌≡◌, ℕ, ◌+◌, ◌<◌, ◌≤◌, ◌^◌, Bool, true, false, Option, Some, None, ◌⊎◌, inl, inr, refl, sym, ap, ◌∙◌, arith}
use Rattle.std.specs.Prelude.{not, ◌&&◌, is_some, nat_le, nat_lt, if◌then◌else◌}
use Rattle.std.specs.Option.{option_map}
use Rattle.std.specs.FinMap.{contains_key, get}
use Rattle.std.proofs.lemmas.Bool.{leb-true, leb-false, lt-ltb, le-ltb}
use Rattle.value_core.specs.declared.val.Val.{Val}
use Rattle.cell_names.specs.declared.cell.Cell.{Cell}
use Rattle.cell_names.specs.Supply.{money_of, supply}
use Rattle.code_book.specs.Fits.{fits}
use Rattle.ledger_cells.specs.LedgerCells.{LedgerCells, money}
use Rattle.ledger_cells.specs.Placing.{IsTold, misplaced}
use Rattle.ledger_cells.specs.declared.fault.AddEnd.{AddEnd}
use Rattle.ledger_cells.specs.declared.fault.AddEnd.TheVariants as ends
use Rattle.ledger_state.specs.declared.fault.BuildFault.TheVariants as faults
use Rattle.ledger_state.specs.Building.{against}
use Rattle.ledger_state.specs.Inside.{told_at}
use Rattle.ledger_state.specs.Reading.{may_stand}

-- ---- three tests, one after another

-- the first reason, by its tests
abbrev pub first_of : {A : Type 0} → A → A → A → Bool → Bool → Bool → Option A
first_of x y z a b c = if a then Some x else if b then Some y else if c then Some z else None

first_of-map : (at : ℕ) (a b c : Bool) → first_of (faults.Misfit at) (faults.Twice at) (faults.TooMuch at) a b c ≡ option_map (told_at at) (first_of ends.Misfit ends.Twice ends.TooMuch a b c)
first_of-map at true b c = refl
first_of-map at false true c = refl
first_of-map at false false true = refl
first_of-map at false false false = refl

-- nothing is in flight, so all money is the supply
misplaced_is : (s : LedgerCells) (c : Cell) (v : Val) → s.flight ≡ 0 →
    misplaced s c v ≡ first_of ends.Misfit ends.Twice ends.TooMuch (not (fits s.book c v)) (contains_key s.cells c) (nat_le (2 ^ 63) (supply s.cells + money_of (c, v)))
misplaced_is s c v none =
    let all : money s ≡ supply s.cells = omega arith in
    ap (λ n. first_of ends.Misfit ends.Twice ends.TooMuch (not (fits s.book c v)) (contains_key s.cells c) (nat_le (2 ^ 63) (n + money_of (c, v)))) all

-- ---- the fold

pub against_is : (s : LedgerCells) (at : ℕ) (c : Cell) (v : Val) → s.flight ≡ 0 → against s.book at s.cells c v ≡ option_map (told_at at) (misplaced s c v)
against_is s at c v none =
    first_of-map at (not (fits s.book c v)) (contains_key s.cells c) (nat_le (2 ^ 63) (supply s.cells + money_of (c, v)))
    ∙ ap (option_map (told_at at)) (sym (misplaced_is s c v none))

pub none_against : (s : LedgerCells) (at : ℕ) (c : Cell) (v : Val) → s.flight ≡ 0 → misplaced s c v ≡ None → against s.book at s.cells c v ≡ None
none_against s at c v none free = against_is s at c v none ∙ ap (option_map (told_at at)) free

told_reason : (at : ℕ) (end : AddEnd) (why : Option AddEnd) → IsTold end why → (told_at at end ≡ faults.NoMemory) ⊎ (option_map (told_at at) why ≡ Some (told_at at end))
told_reason at ends.Misfit why is = inr (ap (option_map (told_at at)) is)
told_reason at ends.Twice why is = inr (ap (option_map (told_at at)) is)
told_reason at ends.TooMuch why is = inr (ap (option_map (told_at at)) is)
told_reason at ends.NoMemory why is = inl refl

pub reason_against : (s : LedgerCells) (at : ℕ) (c : Cell) (v : Val) (end : AddEnd) → s.flight ≡ 0 → IsTold end (misplaced s c v) →
    (told_at at end ≡ faults.NoMemory) ⊎ (against s.book at s.cells c v ≡ Some (told_at at end))
reason_against s at c v end none is =
    elim (told_reason at end (misplaced s c v) is) [
      | inl memory ↦ inl memory
      | inr why ↦ inr (against_is s at c v none ∙ why)
    ]

-- ---- the reader

stands_by : (fit there : Bool) (n : ℕ) → first_of ends.Misfit ends.Twice ends.TooMuch (not fit) there (nat_le (2 ^ 63) n) ≡ None → (fit && nat_lt n (2 ^ 63)) ≡ true
stands_by false there n e = absurd cc
stands_by true true n e = absurd cc
stands_by true false n e = below (nat_le (2 ^ 63) n) refl e
  where
    below : (b : Bool) → nat_le (2 ^ 63) n ≡ b → (if b then Some ends.TooMuch else None) ≡ None → nat_lt n (2 ^ 63) ≡ true
    below true is e = absurd cc
    below false is e = let less : n < 2 ^ 63 = leb-false (2 ^ 63) n is in lt-ltb n (2 ^ 63) less

falls_by : (fit : Bool) (n : ℕ) (end : AddEnd) → first_of ends.Misfit ends.Twice ends.TooMuch (not fit) false (nat_le (2 ^ 63) n) ≡ Some end → (fit && nat_lt n (2 ^ 63)) ≡ false
falls_by false n end e = refl
falls_by true n end e = above (nat_le (2 ^ 63) n) refl e
  where
    above : (b : Bool) → nat_le (2 ^ 63) n ≡ b → (if b then Some ends.TooMuch else None) ≡ Some end → nat_lt n (2 ^ 63) ≡ false
    above false is e = absurd cc
    above true is e = let more : 2 ^ 63 ≤ n = leb-true (2 ^ 63) n is in le-ltb n (2 ^ 63) more

pub may_stand_from : (s : LedgerCells) (c : Cell) (v : Val) → s.flight ≡ 0 → misplaced s c v ≡ None → may_stand s.book (supply s.cells) c v ≡ true
may_stand_from s c v none free = stands_by (fits s.book c v) (contains_key s.cells c) (supply s.cells + money_of (c, v)) (sym (misplaced_is s c v none) ∙ free)

-- a cell that isn't there is refused where it may not stand
pub may_not_stand : (s : LedgerCells) (c : Cell) (v : Val) (end : AddEnd) → s.flight ≡ 0 → get s.cells c ≡ None → misplaced s c v ≡ Some end → may_stand s.book (supply s.cells) c v ≡ false
may_not_stand s c v end none new why =
    falls_by (fits s.book c v) (supply s.cells + money_of (c, v)) end
    (sym (ap (λ b. first_of ends.Misfit ends.Twice ends.TooMuch (not (fits s.book c v)) b (nat_le (2 ^ 63) (supply s.cells + money_of (c, v)))) (ap is_some new)) ∙ sym (misplaced_is s c v none) ∙ why)
