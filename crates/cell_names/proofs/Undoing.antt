-- What takes an access back, and that no balance of 0 stands.
use Rattle.std.proofs.Common.{◌≡◌, ℕ, zero, suc, ◌+◌, ◌-◌, ◌≤◌, Bool, true, false, cond, List, Option, refl, sym, ap, ◌∙◌, arith, rules}
use Rattle.std.specs.Prelude.{nat_lt, if◌then◌else◌}
use Rattle.std.specs.FinMap.{get}
use Rattle.value_core.specs.declared.val.Val.{Val}
use Rattle.value_core.specs.declared.val.Val.TheVariants as variant
use Rattle.value_core.specs.declared.val.Val.TheOpen as one
use Rattle.value_core.proofs.Levels.{out-roll}
use Rattle.cell_names.specs.declared.cell.Cell.{Cell}
use Rattle.cell_names.specs.declared.cell.Cell.TheVariants.{Balance, Storage, Entry}
use Rattle.cell_names.specs.declared.access.Access.{Access}
use Rattle.cell_names.specs.declared.access.Access.TheVariants as access
use Rattle.cell_names.specs.declared.access.Undo.{Undo}
use Rattle.cell_names.specs.declared.access.Undo.TheVariants as undo
use Rattle.cell_names.specs.Contents.{Contents, put, amount_level, amount_of, amount_in, amount_kept, balance, with_balance, IsTidy}
use Rattle.cell_names.specs.Effects.{after, undone, flight_undone}
use Rattle.cell_names.specs.Conditions.{IsWritable, NamesWritable, IsCovered, HasAmount}
use Rattle.cell_names.specs.Laws.{IsTakenBack, PutsWritable}
use Rattle.cell_names.proofs.Puts.{is_one, one_from, is_one-self, get-put, same_contents, get-with_balance}

-- ---- amounts

pub amount_of-Mutez : (n : ℕ) → amount_of (variant.Mutez n) ≡ n
amount_of-Mutez n = ap amount_of (sym (variant.rolls-Mutez n)) ∙ ap amount_level (out-roll (one.Mutez n))

pub amount_in-kept : (n : ℕ) → amount_in (amount_kept n) ≡ n
amount_in-kept zero = refl
amount_in-kept (suc n) = amount_of-Mutez (suc n)

pub balance-with_balance : (m : Contents) (a : List ℕ) (n : ℕ) → balance (with_balance m a n) a ≡ n
balance-with_balance m a n =
    ap amount_in (get-with_balance m a n (Balance a) ∙ ap (λ b. cond b (amount_kept n) (get m (Balance a))) (is_one-self (Balance a)))
    ∙ amount_in-kept n

-- ---- the old value is put back

pub cond_twice : {A : Type 0} (b : Bool) (x y z : A) → cond b x (cond b y z) ≡ cond b x z
cond_twice true x y z = refl
cond_twice false x y z = refl

found_again : (m : Contents) (c q : Cell) (b : Bool) → is_one q c ≡ b → cond b (get m c) (get m q) ≡ get m q
found_again m c q true e = ap (get m) (sym (one_from q c e))
found_again m c q false e = refl

pub put_back : (m : Contents) (c : Cell) (o : Option Val) → put (put m c o) c (get m c) ≡ m
put_back m c o = same_contents _ _ (λ q.
    get-put (put m c o) c (get m c) q ∙ ap (cond (is_one q c) (get m c)) (get-put m c o q)
    ∙ cond_twice (is_one q c) _ _ _ ∙ found_again m c q (is_one q c) refl)

pub with_balance_back : (m : Contents) (a : List ℕ) (n k : ℕ) → IsTidy m → k ≡ balance m a → with_balance (with_balance m a n) a k ≡ m
unfolding with_balance
with_balance_back m a n k tidy is =
    ap (λ x. put (put m (Balance a) (amount_kept n)) (Balance a) x) (ap amount_kept is ∙ sym (tidy a))
    ∙ put_back m (Balance a) (amount_kept n)

-- ---- an access, taken back

pub not_less : (x y : ℕ) → nat_lt x y ≡ false → y ≤ x
not_less x y e = search rules

-- what a debit leaves is taken back, whether it is Low or not
record DebitBack (a : List ℕ) (n : ℕ) (m : Contents) (f : ℕ) (low : Bool) : Type 0 where
  cells : undone (if low then undo.Nothing else undo.Undebit a n) (if low then m else with_balance m a (balance m a - n)) ≡ m
  flight : flight_undone (if low then undo.Nothing else undo.Undebit a n) (if low then f else f + n) ≡ f
  amount : HasAmount (if low then m else with_balance m a (balance m a - n)) (if low then f else f + n) (if low then undo.Nothing else undo.Undebit a n)

debit_back : (m : Contents) (f : ℕ) (a : List ℕ) (n : ℕ) (low : Bool) → IsTidy m → nat_lt (balance m a) n ≡ low → DebitBack a n m f low
debit_back m f a n true tidy e = record { cells = refl; flight = refl; amount = tt }
debit_back m f a n false tidy e =
    let enough : n ≤ balance m a = not_less (balance m a) n e in
    let is = balance-with_balance m a (balance m a - n) in
    record {
      cells = with_balance_back m a (balance m a - n) (balance (with_balance m a (balance m a - n)) a + n) tidy (omega (arith, is, enough));
      flight = omega arith;
      amount = omega arith;
    }

pub taken_back : (a : Access) (m : Contents) (f : ℕ) → IsTidy m → IsCovered f a → IsTakenBack a m f
taken_back (access.Read c) m f tidy h = record { cells = refl; flight = refl; amount = tt }
taken_back (access.Write c v) m f tidy h = record { cells = put_back m c v; flight = refl; amount = tt }
taken_back (access.Credit a n) m f tidy h =
    let is = balance-with_balance m a (balance m a + n) in
    record {
      cells = with_balance_back m a (balance m a + n) (balance (with_balance m a (balance m a + n)) a - n) tidy (omega (arith, is));
      flight = omega (arith, h);
      amount = omega (arith, is);
    }
taken_back (access.Debit a n) m f tidy h =
    let back = debit_back m f a n (nat_lt (balance m a) n) tidy refl in
    record { cells = back.cells; flight = back.flight; amount = back.amount }

-- ---- no balance of 0 stands

-- what stands in the cell of a balance is its amount, and nothing where that is 0
abbrev IsKept : Option Val → Type 0
IsKept o = o ≡ amount_kept (amount_in o)

kept_cond : (b : Bool) (x y : Option Val) → IsKept x → IsKept y → IsKept (cond b x y)
kept_cond true x y p q = p
kept_cond false x y p q = q

tidy_balance : (m : Contents) (a : List ℕ) (n : ℕ) → IsTidy m → IsTidy (with_balance m a n)
tidy_balance m a n tidy q =
    rw (get-with_balance m a n (Balance q))
    (kept_cond (is_one (Balance q) (Balance a)) (amount_kept n) (get m (Balance q)) (sym (ap amount_kept (amount_in-kept n))) (tidy q))

-- a storage and an entry are no balance
not_balance : (c : Cell) (q : List ℕ) (b : Bool) → IsWritable c → is_one (Balance q) c ≡ b → b ≡ false
not_balance (Balance a) q b w e = absurd w
not_balance (Storage a) q b w e = sym e
not_balance (Entry a p k) q b w e = sym e

pub get-put_elsewhere : (m : Contents) (c : Cell) (v : Option Val) (q : List ℕ) → IsWritable c → get (put m c v) (Balance q) ≡ get m (Balance q)
get-put_elsewhere m c v q w = get-put m c v (Balance q) ∙ ap (λ b. cond b v (get m (Balance q))) (not_balance c q (is_one (Balance q) c) w refl)

tidy_put : (m : Contents) (c : Cell) (v : Option Val) → IsWritable c → IsTidy m → IsTidy (put m c v)
tidy_put m c v w tidy q = rw (get-put_elsewhere m c v q w) (tidy q)

tidy_if : (b : Bool) (m n : Contents) → IsTidy m → IsTidy n → IsTidy (if b then m else n)
tidy_if true m n p q = p
tidy_if false m n p q = q

pub tidy_after : (a : Access) (m : Contents) → NamesWritable a → IsTidy m → IsTidy (after a m)
tidy_after (access.Read c) m w tidy = tidy
tidy_after (access.Write c v) m w tidy = tidy_put m c v w tidy
tidy_after (access.Credit a n) m w tidy = tidy_balance m a (balance m a + n) tidy
tidy_after (access.Debit a n) m w tidy = tidy_if (nat_lt (balance m a) n) m _ tidy (tidy_balance m a (balance m a - n) tidy)

pub tidy_undone : (u : Undo) (m : Contents) → PutsWritable u → IsTidy m → IsTidy (undone u m)
tidy_undone undo.Nothing m w tidy = tidy
tidy_undone (undo.Put c v) m w tidy = tidy_put m c v w tidy
tidy_undone (undo.Uncredit a n) m w tidy = tidy_balance m a (balance m a - n) tidy
tidy_undone (undo.Undebit a n) m w tidy = tidy_balance m a (balance m a + n) tidy
