-- One more cell: the first reason against it, and what cells keep where there is none.
use Rattle.std.proofs.Common.{◌≡◌, ℕ, zero, suc, ◌+◌, ◌<◌, ◌^◌, Bool, true, false, cond, not, List, Option, Some, None, refl, sym, ap, subst, ◌∙◌, arith, rules}
use Rattle.std.specs.Prelude.{nat_lt, nat_le, is_some, if◌then◌else◌}
use Rattle.std.specs.FinMap.{contains_key, get}
use Rattle.value_core.specs.declared.val.Val.{Val}
use Rattle.value_core.specs.declared.val.Val.TheVariants as variant
use Rattle.value_core.specs.declared.val.Val.TheOpen as one
use Rattle.value_core.specs.declared.val.Val.TheViews.{out-Val, roll-Val}
use Rattle.value_core.specs.Layer.{Layer}
use Rattle.value_core.proofs.Bools.{first_true, second_true}
use Rattle.value_core.proofs.Levels.{roll-out}
use Rattle.cell_names.specs.declared.cell.Cell.{Cell}
use Rattle.cell_names.specs.declared.cell.Cell.TheVariants.{Balance, Storage, Entry}
use Rattle.cell_names.specs.Contents.{Contents, put, amount_of, amount_in, amount_level, amount_kept, IsTidy}
use Rattle.cell_names.specs.Supply.{money_of, supply}
use Rattle.cell_names.proofs.Puts.{is_one, one_from, get-put}
use Rattle.code_book.specs.Books.{Contracts, IsBook, has_account}
use Rattle.code_book.specs.Fits.{is_balance, is_balance_level, fits}
use Rattle.code_book.proofs.Owning.{put_fits}
use Rattle.cell_blocks.specs.Blocks.{IsHoldable}
use Rattle.ledger_cells.specs.declared.fault.AddEnd.{AddEnd}
use Rattle.ledger_cells.specs.declared.fault.AddEnd.TheVariants.{Misfit, Twice, TooMuch, NoMemory}
use Rattle.ledger_cells.specs.LedgerCells.{LedgerCells, money, AreLawful}
use Rattle.ledger_cells.specs.Placing.{misplaced, IsTold}
use Rattle.ledger_cells.proofs.Counting.{money-put}
use Rattle.ledger_cells.proofs.Gathering.{kept_is}

-- ---- reasons, by three tests

abbrev pub reason : Bool → Bool → Bool → Option AddEnd
reason fit there much = if not fit then Some Misfit else if there then Some Twice else if much then Some TooMuch else None

pub misfit : (fit there much : Bool) → fit ≡ false → reason fit there much ≡ Some Misfit
misfit fit there much e = ap (λ f. reason f there much) e

pub twice : (fit there much : Bool) → fit ≡ true → there ≡ true → reason fit there much ≡ Some Twice
twice fit there much e f = λ i. reason (e i) (f i) much

pub too_much : (fit there much : Bool) → fit ≡ true → there ≡ false → much ≡ true → reason fit there much ≡ Some TooMuch
too_much fit there much e f g = λ i. reason (e i) (f i) (g i)

pub no_reason : (fit there much : Bool) → fit ≡ true → there ≡ false → much ≡ false → reason fit there much ≡ None
no_reason fit there much e f g = λ i. reason (e i) (f i) (g i)

-- where there is no reason, each test says so
pub record AreFree (fit there much : Bool) : Type 0 where
  pub fit_is : fit ≡ true
  pub there_is : there ≡ false
  pub much_is : much ≡ false

pub free : (fit there much : Bool) → reason fit there much ≡ None → AreFree fit there much
free true false false e = record { fit_is = refl; there_is = refl; much_is = refl }
free false there much e = absurd cc
free true true much e = absurd cc
free true false true e = absurd cc

pub told_no_memory : (end : AddEnd) (why : Option AddEnd) → end ≡ NoMemory → IsTold end why
told_no_memory end why is = subst (λ (e : AddEnd). IsTold e why) (sym is) tt

-- ---- a balance that fits

kept_some : (n : ℕ) → 0 < n → amount_kept n ≡ Some (variant.Mutez n)
kept_some zero above = absurd (omega (arith, above))
kept_some (suc n) above = refl

above_zero : (n : ℕ) → nat_lt 0 n ≡ true → 0 < n
above_zero n e = search rules

balance_level : (v : Val) (x : Layer Val) → out-Val v ≡ x → is_balance_level x ≡ true → Some v ≡ amount_kept (amount_of v)
balance_level v (one.Mutez n) is e =
    let amount : amount_of v ≡ n = ap amount_level is in
    let same : v ≡ variant.Mutez n = sym (roll-out v) ∙ ap roll-Val is ∙ variant.rolls-Mutez n in
    ap (λ (w : Val). Some w) same ∙ sym (kept_some n (above_zero n (first_true (nat_lt 0 n) (nat_lt n (2 ^ 63)) e))) ∙ ap amount_kept (sym amount)
balance_level v x is e = absurd cc

pub fit_balance_is_kept : (book : Contracts) (a : List ℕ) (v : Val) → fits book (Balance a) v ≡ true → Some v ≡ amount_kept (amount_of v)
fit_balance_is_kept book a v e = balance_level v (out-Val v) refl (second_true (has_account book a) (is_balance v) e)

-- what fits a cell may stand in blocks
pub fit_is_holdable : (book : Contracts) (c : Cell) (v : Val) → fits book c v ≡ true → IsHoldable c v
fit_is_holdable book (Balance a) v e = kept_is (amount_of v) v (fit_balance_is_kept book a v e)
fit_is_holdable book (Storage a) v e = tt
fit_is_holdable book (Entry a p k) v e = tt

-- ---- what cells keep

abbrev IsKept : Option Val → Type 0
IsKept o = o ≡ amount_kept (amount_in o)

kept_cond : (b : Bool) (x y : Option Val) → (b ≡ true → IsKept x) → IsKept y → IsKept (cond b x y)
kept_cond true x y p q = p refl
kept_cond false x y p q = q

tidy_added : (book : Contracts) (m : Contents) (c : Cell) (v : Val) → fits book c v ≡ true → IsTidy m → IsTidy (put m c (Some v))
tidy_added book m c v fit tidy a =
    subst IsKept (sym (get-put m c (Some v) (Balance a)))
    (kept_cond (is_one (Balance a) c) (Some v) (get m (Balance a)) (λ one. fit_balance_is_kept book a v (subst (λ (x : Cell). fits book x v ≡ true) (sym (one_from (Balance a) c one)) fit)) (tidy a))

-- how much there is with one more cell
pub supply_added : (m : Contents) (c : Cell) (v : Val) → get m c ≡ None → supply (put m c (Some v)) ≡ supply m + money_of (c, v)
supply_added m c v none = let sum = money-put m c (Some v) None none in omega (arith, sum)

pub lawful_added : (s t : LedgerCells) (c : Cell) (v : Val) → AreLawful s → fits s.book c v ≡ true → get s.cells c ≡ None → money s + money_of (c, v) < 2 ^ 63 → t.book ≡ s.book → t.cells ≡ put s.cells c (Some v) → t.flight ≡ s.flight → AreLawful t
lawful_added s t c v lawful fit none small book cells flight =
    record {
      book = subst IsBook (sym book) lawful.book;
      values = λ q w e.
          ap (λ (b : Contracts). fits b q w) book
          ∙ put_fits s.book s.cells c (Some v) lawful.values (λ x is. let same : v ≡ x = cc in subst (λ (y : Val). fits s.book c y ≡ true) same fit) q w (ap (λ (n : Contents). get n q) (sym cells) ∙ e);
      tidy = subst IsTidy (sym cells) (tidy_added s.book s.cells c v fit lawful.tidy);
      within =
          let sum : supply t.cells ≡ supply s.cells + money_of (c, v) = ap supply cells ∙ supply_added s.cells c v none in
          let small : (supply s.cells + s.flight) + money_of (c, v) < 2 ^ 63 = small in
          omega (arith, sum, flight, small);
    }

-- ---- where there is no reason against it

pub free_of : (s : LedgerCells) (c : Cell) (v : Val) → misplaced s c v ≡ None → AreFree (fits s.book c v) (contains_key s.cells c) (nat_le (2 ^ 63) (money s + money_of (c, v)))
free_of s c v e = free (fits s.book c v) (contains_key s.cells c) (nat_le (2 ^ 63) (money s + money_of (c, v))) e

not_there : (o : Option Val) → is_some o ≡ false → o ≡ None
not_there None e = refl
not_there (Some v) e = absurd cc

below_of : (x y : ℕ) → nat_le x y ≡ false → y < x
below_of x y e = search rules

pub added_within : (s : LedgerCells) (c : Cell) (v : Val) → misplaced s c v ≡ None → supply (put s.cells c (Some v)) < 2 ^ 64
added_within s c v e =
    let is_free = free_of s c v e in
    let small : (supply s.cells + s.flight) + money_of (c, v) < 2 ^ 63 = below_of (2 ^ 63) (money s + money_of (c, v)) is_free.much_is in
    omega (arith, small, supply_added s.cells c v (not_there (get s.cells c) is_free.there_is))

pub added_lawful : (s t : LedgerCells) (c : Cell) (v : Val) → AreLawful s → misplaced s c v ≡ None → t.book ≡ s.book → t.cells ≡ put s.cells c (Some v) → t.flight ≡ s.flight → AreLawful t
added_lawful s t c v lawful e book cells flight =
    let is_free = free_of s c v e in
    lawful_added s t c v lawful is_free.fit_is (not_there (get s.cells c) is_free.there_is) (below_of (2 ^ 63) (money s + money_of (c, v)) is_free.much_is) book cells flight
