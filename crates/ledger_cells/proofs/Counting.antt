-- How many cells there are, and how much money is in them, when a cell is put.
use Rattle.std.proofs.Common.{◌≡◌, ◌≢◌, ℕ, zero, suc, ◌+◌, ◌-◌, ◌<◌, ◌≤◌, ◌^◌, true, cond, List, [], ◌∷◌, map, length, Option, Some, None, refl, sym, ap, ◌∙◌, arith}
use Rattle.std.specs.Prelude.{is_some, sum}
use Rattle.std.specs.FinMap.{empty, entries, get, get-empty, len, len-empty, len-entries, len-insert, len-remove, empty_of_len}
use Rattle.value_core.specs.declared.val.Val.{Val}
use Rattle.value_core.specs.declared.val.Val.TheVariants.{Mutez}
use Rattle.cell_names.specs.declared.cell.Cell.{Cell}
use Rattle.cell_names.specs.declared.cell.Cell.TheVariants.{Balance}
use Rattle.cell_names.specs.Cells.{cell_cmp}
use Rattle.cell_names.specs.CellOrder.{cell_cmp-total}
use Rattle.cell_names.specs.Contents.{Contents, put, amount_in, amount_of, amount_kept, with_balance}
use Rattle.cell_names.specs.Supply.{money_of, supply}
use Rattle.cell_names.proofs.Undoing.{amount_of-Mutez}
use Rattle.cell_names.proofs.Money.{supply-put}
use Rattle.ledger_cells.specs.declared.counts.Counts.{Counts}
use Rattle.ledger_cells.specs.Overlay.{Change, over, count_at, counts_of, IsRecount}

-- ---- the number of cells

one_more_counted : (c : Cell) (o : Option Val) (n l : ℕ) → l ≡ cond (is_some o) n (n + 1) → l + (count_at c o).cells ≡ n + 1
one_more_counted c None n l e = omega arith
one_more_counted c (Some v) n l e = omega arith

one_less_counted : (c : Cell) (o : Option Val) (n l : ℕ) → (o ≢ None → 0 < n) → l ≡ cond (is_some o) (n - 1) n → l + (count_at c o).cells ≡ n + 0
one_less_counted c None n l some e = omega arith
one_less_counted c (Some v) n l some e = let above : 0 < n = some (λ none. cc) in omega arith

some_cells : (m : Contents) (c : Cell) → get m c ≢ None → 0 < len m
some_cells m c some =
    let any : len m ≢ 0 = λ none. some (ap (λ (n : Contents). get n c) (empty_of_len m none) ∙ get-empty cell_cmp c) in
    omega arith

pub len-put : (m : Contents) (c : Cell) (o : Option Val) → len (put m c o) + (count_at c (get m c)).cells ≡ len m + (count_at c o).cells
len-put m c None = one_less_counted c (get m c) (len m) (len (put m c None)) (some_cells m c) (len-remove cell_cmp-total m c)
len-put m c (Some v) = one_more_counted c (get m c) (len m) (len (put m c (Some v))) (len-insert cell_cmp-total m c v)

at_most_one : (c : Cell) (o : Option Val) → (count_at c o).cells ≤ 1
at_most_one c None = omega arith
at_most_one c (Some v) = omega arith

-- there are no more cells than are held and have a slot
pub len-over : (m : Contents) (es : List Change) → len (over m es) ≤ len m + length es
len-over m [] = omega arith
len-over m (e ∷ es) =
    let rest : len (over m es) ≤ len m + length es = len-over m es in
    omega (arith, rest, len-put (over m es) e.0 e.1, at_most_one e.0 e.1)

-- ---- money

pub money-put : (m : Contents) (c : Cell) (o old : Option Val) → get m c ≡ old → supply (put m c o) + (count_at c old).money ≡ supply m + (count_at c o).money
money-put m c None None e = let sum = rw e at (supply-put m c None) in omega (arith, sum)
money-put m c None (Some w) e = let sum = rw e at (supply-put m c None) in omega (arith, sum)
money-put m c (Some v) None e = let sum = rw e at (supply-put m c (Some v)) in omega (arith, sum)
money-put m c (Some v) (Some w) e = let sum = rw e at (supply-put m c (Some v)) in omega (arith, sum)

-- ---- both counts, when a cell is put

-- what a cell adds may be exchanged for something else, and what that gives
pub record IsExchanged (m : Contents) (c : Cell) (o : Option Val) (old new : Counts) : Type 0 where
  pub money : old.money ≤ supply m
  pub cells : old.cells ≤ len m
  pub money_is : (supply m - old.money) + new.money ≡ supply (put m c o)
  pub cells_is : (len m - old.cells) + new.cells ≡ len (put m c o)

pub counts_exchanged : (m : Contents) (c : Cell) (o : Option Val) → IsExchanged m c o (count_at c (get m c)) (count_at c o)
counts_exchanged m c o =
    let taken : supply (put m c None) + (count_at c (get m c)).money ≡ supply m + 0 = money-put m c None (get m c) refl in
    let gone : len (put m c None) + (count_at c (get m c)).cells ≡ len m + 0 = len-put m c None in
    record {
      money = omega (arith, taken);
      cells = omega (arith, gone);
      money_is = omega (arith, taken, money-put m c o (get m c) refl);
      cells_is = omega (arith, gone, len-put m c o);
    }

pub recounts : (m after : Contents) (c : Cell) (o : Option Val) (counts gone new : Counts) → counts ≡ counts_of m → after ≡ put m c o → gone ≡ count_at c (get m c) → new ≡ count_at c o → supply (put m c o) < 2 ^ 64 → IsRecount after counts gone new
recounts m after c o counts gone new counted put_is gone_is new_is within =
    let exchanged = counts_exchanged m c o in
    let money_is : counts.money ≡ supply m = ap (λ (x : Counts). x.money) counted in
    let cells_is : counts.cells ≡ len m = ap (λ (x : Counts). x.cells) counted in
    let gone_money : gone.money ≡ (count_at c (get m c)).money = ap (λ (x : Counts). x.money) gone_is in
    let gone_cells : gone.cells ≡ (count_at c (get m c)).cells = ap (λ (x : Counts). x.cells) gone_is in
    let new_money : new.money ≡ (count_at c o).money = ap (λ (x : Counts). x.money) new_is in
    let new_cells : new.cells ≡ (count_at c o).cells = ap (λ (x : Counts). x.cells) new_is in
    let number : len after ≡ len (put m c o) = ap (λ (n : Contents). len n) put_is in
    let sum : supply after ≡ supply (put m c o) = ap (λ (n : Contents). supply n) put_is in
    record {
      money_there = omega (arith, exchanged.money, money_is, gone_money);
      cells_there = omega (arith, exchanged.cells, cells_is, gone_cells);
      money = omega (arith, exchanged.money, exchanged.money_is, money_is, gone_money, new_money, sum);
      cells = omega (arith, exchanged.cells, exchanged.cells_is, cells_is, gone_cells, new_cells, number);
      within = omega (arith, sum, within);
    }

-- ---- no cells

no_entries : (es : List (Cell × Val)) → length es ≡ 0 → es ≡ []
no_entries [] e = refl
no_entries (x ∷ es) e = absurd (omega (arith, e))

pub supply-empty : supply (empty {X = Val} {R = cell_cmp}) ≡ 0
supply-empty =
    let none : entries (empty {X = Val} {R = cell_cmp}) ≡ [] = no_entries (entries (empty {X = Val} {R = cell_cmp})) (sym (len-entries (empty {X = Val} {R = cell_cmp})) ∙ len-empty cell_cmp Val) in
    ap (λ (es : List (Cell × Val)). sum (map money_of es)) none

pub counts_of_none : (m : Contents) (es : List Change) → m ≡ empty → es ≡ [] → record { money = 0; cells = 0 } ≡ counts_of (over m es)
counts_of_none m es none no_changes =
    let nothing : record { money = 0; cells = 0 } ≡ counts_of (empty {X = Val} {R = cell_cmp}) = λ i. record { money = sym supply-empty i; cells = sym (len-empty cell_cmp Val) i } in
    nothing ∙ (λ i. counts_of (over (sym none i) (sym no_changes i)))

-- ---- balances

kept_some : (n : ℕ) → n ≢ 0 → amount_kept n ≡ Some (Mutez n)
kept_some zero some = absurd (some refl)
kept_some (suc n) some = refl

-- what a balance above 0 adds
pub balance_counted : (a : List ℕ) (o : Option Val) → amount_in o ≢ 0 → count_at (Balance a) (amount_kept (amount_in o)) ≡ count_at (Balance a) o
balance_counted a None some = absurd (some refl)
balance_counted a (Some v) some =
    ap (count_at (Balance a)) (kept_some (amount_of v) some)
    ∙ (λ i. record { money = amount_of-Mutez (amount_of v) i; cells = 1 })

pub some_balance : (o : Option Val) → amount_in o ≢ 0 → is_some o ≡ true
some_balance None some = absurd (some refl)
some_balance (Some v) some = refl

pub put_kept : (m : Contents) (a : List ℕ) (n : ℕ) (o : Option Val) → o ≡ amount_kept n → put m (Balance a) o ≡ with_balance m a n
unfolding with_balance
put_kept m a n o kept = ap (put m (Balance a)) kept
