-- What stands in a cell once a cell is put, and once an access is done.
use Rattle.std.proofs.Common.{◌≡◌, ◌≢◌, ℕ, ◌+◌, ◌-◌, Bool, true, false, cond, List, Option, Some, None, refl, sym, ap, ◌∙◌}
use Rattle.std.specs.Prelude.{nat_lt, if◌then◌else◌, IsTrue, ◌↔◌}
use Rattle.std.specs.declared.cmp.Ordering.{Ordering}
use Rattle.std.specs.declared.cmp.Ordering.TheVariants.{Less, Equal, Greater}
use Rattle.std.specs.Ordering.{eq_by_cmp, is_eq}
use Rattle.std.specs.Cmp.{eq_by_cmp_equiv}
use Rattle.std.specs.FinMap.{get, get-insert, get-remove, same_map}
use Rattle.value_core.specs.declared.val.Val.{Val}
use Rattle.cell_names.specs.declared.cell.Cell.{Cell}
use Rattle.cell_names.specs.declared.cell.Cell.TheVariants.{Balance}
use Rattle.cell_names.specs.declared.access.Access.{Access}
use Rattle.cell_names.specs.declared.access.Access.TheVariants as access
use Rattle.cell_names.specs.Cells.{cell_cmp}
use Rattle.cell_names.specs.CellOrder.{cell_cmp-total, cell_cmp-ties}
use Rattle.cell_names.specs.Contents.{Contents, put, amount_in, amount_kept, balance, with_balance}
use Rattle.cell_names.specs.Effects.{cell_of, after}

-- ---- cells that are one

-- whether two cells are one
abbrev pub is_one : Cell → Cell → Bool
is_one c d = eq_by_cmp cell_cmp c d

tie_of : (r : Ordering) → is_eq r ≡ true → r ≡ Equal
tie_of Less e = cc
tie_of Equal e = refl
tie_of Greater e = cc

pub one_from : (c d : Cell) → is_one c d ≡ true → c ≡ d
one_from c d e = cell_cmp-ties c d (tie_of (cell_cmp c d) e)

pub is_one-self : (c : Cell) → is_one c c ≡ true
is_one-self c = (eq_by_cmp_equiv cell_cmp-total).refl c

pub is_one-apart : (c d : Cell) → c ≢ d → is_one c d ≡ false
is_one-apart c d apart = elim (is_one c d) as (λ b. is_one c d ≡ b → b ≡ false) [ true ↦ λ e. absurd (apart (one_from c d e)) | false ↦ λ e. refl ] refl

pub ties_are_same : (c d : Cell) (r : Ordering) (b : Bool) → r ≡ cell_cmp c d → b ≡ is_eq r → IsTrue b ↔ (c ≡ d)
ties_are_same c d r b order test = (
  λ is. one_from c d (ap is_eq (sym order) ∙ sym test ∙ is),
  λ same. test ∙ ap is_eq order ∙ ap (is_one c) (sym same) ∙ is_one-self c,
)

-- ---- a cell that is put

pub get-put : (m : Contents) (c : Cell) (o : Option Val) (q : Cell) → get (put m c o) q ≡ cond (is_one q c) o (get m q)
get-put m c None q = get-remove cell_cmp-total m c q
get-put m c (Some v) q = get-insert cell_cmp-total m c v q

pub get-put_there : (m : Contents) (c : Cell) (o : Option Val) → get (put m c o) c ≡ o
get-put_there m c o = get-put m c o c ∙ ap (λ b. cond b o (get m c)) (is_one-self c)

-- contents that answer alike are the same
pub same_contents : (m n : Contents) → ((q : Cell) → get m q ≡ get n q) → m ≡ n
same_contents = same_map cell_cmp-total cell_cmp-ties

pub get-with_balance : (m : Contents) (a : List ℕ) (n : ℕ) (q : Cell) → get (with_balance m a n) q ≡ cond (is_one q (Balance a)) (amount_kept n) (get m q)
unfolding with_balance
get-with_balance m a n q = get-put m (Balance a) (amount_kept n) q

-- ---- a cell once an access is done

-- what the access leaves in its cell
abbrev pub left_in : Access → Option Val → Option Val
left_in (access.Read c) o = o
left_in (access.Write c v) o = v
left_in (access.Credit a n) o = amount_kept (amount_in o + n)
left_in (access.Debit a n) o = if nat_lt (amount_in o) n then o else amount_kept (amount_in o - n)

same_there : (m : Contents) (c q : Cell) (b : Bool) → is_one q c ≡ b → get m q ≡ cond b (get m c) (get m q)
same_there m c q true e = ap (get m) (one_from q c e)
same_there m c q false e = refl

debited : (m : Contents) (a : List ℕ) (n : ℕ) (q : Cell) (b : Bool) →
    get (if b then m else with_balance m a (balance m a - n)) q ≡ cond (is_one q (Balance a)) (if b then get m (Balance a) else amount_kept (balance m a - n)) (get m q)
debited m a n q true = same_there m (Balance a) q (is_one q (Balance a)) refl
debited m a n q false = get-with_balance m a (balance m a - n) q

pub get-after : (a : Access) (m : Contents) (q : Cell) → get (after a m) q ≡ cond (is_one q (cell_of a)) (left_in a (get m (cell_of a))) (get m q)
get-after (access.Read c) m q = same_there m c q (is_one q c) refl
get-after (access.Write c v) m q = get-put m c v q
get-after (access.Credit a n) m q = get-with_balance m a (balance m a + n) q
get-after (access.Debit a n) m q = debited m a n q (nat_lt (balance m a) n)

pub get-after_there : (a : Access) (m : Contents) → get (after a m) (cell_of a) ≡ left_in a (get m (cell_of a))
get-after_there a m = get-after a m (cell_of a) ∙ ap (λ b. cond b (left_in a (get m (cell_of a))) (get m (cell_of a))) (is_one-self (cell_of a))

pub get-after_elsewhere : (a : Access) (m : Contents) (q : Cell) → q ≢ cell_of a → get (after a m) q ≡ get m q
get-after_elsewhere a m q apart = get-after a m q ∙ ap (λ b. cond b (left_in a (get m (cell_of a))) (get m q)) (is_one-apart q (cell_of a) apart)
