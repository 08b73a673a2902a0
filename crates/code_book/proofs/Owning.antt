-- Accesses and undos that are fit keep that a book is a store's; the undo of a fit access is fit.
use Rattle.std.proofs.Common.{◌≡◌, ◌≢◌, ℕ, zero, suc, ◌+◌, ◌-◌, ◌<◌, ◌≤◌, ◌^◌, Bool, true, false, cond, List, Option, Some, None, Result, Ok, Err, refl, sym, ap, subst, ◌∙◌, arith, rules, eq-eqb}
use Rattle.std.specs.Prelude.{nat_lt, if◌then◌else◌, IsSome, is_some, ◌||◌, ◌==◌}
use Rattle.std.specs.FinMap.{get, contains_key}
use Rattle.std.proofs.lemmas.Bool.{eqb-true}
use Rattle.value_core.specs.declared.val.Val.{Val}
use Rattle.value_core.specs.declared.val.Val.TheVariants as variant
use Rattle.value_core.specs.declared.val.Val.TheOpen as one
use Rattle.value_core.proofs.Bools.{both_true, first_true}
use Rattle.value_core.proofs.Levels.{out-roll}
use Rattle.michelson_code.specs.declared.script.Script.{Script}
use Rattle.cell_names.specs.declared.cell.Cell.{Cell}
use Rattle.cell_names.specs.declared.cell.Cell.TheVariants.{Balance, Storage, Entry}
use Rattle.cell_names.specs.declared.mode.Mode.{Mode}
use Rattle.cell_names.specs.declared.mode.Mode.TheVariants as mode
use Rattle.cell_names.specs.declared.access.Access.{Access}
use Rattle.cell_names.specs.declared.access.Access.TheVariants as access
use Rattle.cell_names.specs.declared.access.Reply.{Reply}
use Rattle.cell_names.specs.declared.access.Undo.{Undo}
use Rattle.cell_names.specs.declared.access.Undo.TheVariants as undo
use Rattle.cell_names.specs.declared.store.StoreEnd.{StoreEnd}
use Rattle.cell_names.specs.Contents.{Contents, put, amount_in, amount_kept, balance, with_balance, IsTidy}
use Rattle.cell_names.specs.Supply.{supply}
use Rattle.cell_names.specs.Effects.{after, flight_after, undo_of, undone, flight_undone}
use Rattle.cell_names.specs.Conditions.{Seen, IsLentIn, IsWritable, Lends, IsCovered, HasAmount, MayChange, CanAccess, CanUndo}
use Rattle.cell_names.specs.Stores.{Stays, IsAsBefore, HasSlot, Did, Accesses, Undoes}
use Rattle.cell_names.specs.Laws.{PutsWritable}
use Rattle.cell_names.proofs.Puts.{is_one, one_from, get-put, get-with_balance}
use Rattle.cell_names.proofs.Undoing.{taken_back, not_less, tidy_after, tidy_undone}
use Rattle.cell_names.proofs.Money.{kept_after, kept_undone, supply-with_balance}
use Rattle.code_book.specs.Books.{Contracts, has_account}
use Rattle.code_book.specs.Fits.{is_balance, is_balance_level, fits, fits_storage, fits_write, fits_access, fits_undo}
use Rattle.code_book.specs.Ownership.{IsBookOf}

-- ---- what is put

-- a fit write names a storage or an entry
pub writable : (book : Contracts) (c : Cell) (v : Option Val) → fits_write book c v ≡ true → IsWritable c
writable book (Balance a) v e = absurd cc
writable book (Storage a) v e = tt
writable book (Entry a p k) v e = tt

-- a value that a fit write leaves fits its cell
pub written_fits : (book : Contracts) (c : Cell) (v : Val) → fits_write book c (Some v) ≡ true → fits book c v ≡ true
written_fits book (Balance a) v e = absurd cc
written_fits book (Storage a) v e = e
written_fits book (Entry a p k) v e = e

-- what fits a storage or an entry is fit to be written there
pub fit_again : (book : Contracts) (c : Cell) (v : Val) → IsWritable c → fits book c v ≡ true → fits_write book c (Some v) ≡ true
fit_again book (Balance a) v w e = absurd w
fit_again book (Storage a) v w e = e
fit_again book (Entry a p k) v w e = e

-- each value of contents fits the book
abbrev pub AllFit : Contracts → Contents → Type 0
AllFit book m = (c : Cell) (v : Val) → get m c ≡ Some v → fits book c v ≡ true

fits_at : (book : Contracts) (c q : Cell) (v : Val) → is_one q c ≡ true → fits book c v ≡ true → fits book q v ≡ true
fits_at book c q v one e = subst (λ (x : Cell). fits book x v ≡ true) (sym (one_from q c one)) e

put_or_there : (book : Contracts) (c q : Cell) (o old : Option Val) (v : Val) (b : Bool) → is_one q c ≡ b → ((w : Val) → o ≡ Some w → fits book c w ≡ true) → (old ≡ Some v → fits book q v ≡ true) → cond b o old ≡ Some v → fits book q v ≡ true
put_or_there book c q o old v true one new there e = fits_at book c q v one (new v e)
put_or_there book c q o old v false one new there e = there e

pub put_fits : (book : Contracts) (m : Contents) (c : Cell) (o : Option Val) → AllFit book m → ((w : Val) → o ≡ Some w → fits book c w ≡ true) → AllFit book (put m c o)
put_fits book m c o all new q v e = put_or_there book c q o (get m q) v (is_one q c) refl new (all q v) (sym (get-put m c o q) ∙ e)

-- ---- balances

is_balance-Mutez : (n : ℕ) → 0 < n → n < 2 ^ 63 → is_balance (variant.Mutez n) ≡ true
is_balance-Mutez n above below = ap is_balance (sym (variant.rolls-Mutez n)) ∙ ap is_balance_level (out-roll (one.Mutez n)) ∙ both_true (nat_lt 0 n) (nat_lt n (2 ^ 63)) (search rules) (search rules)

-- the balance of an account, of which something stands only where it may have money
kept_fits : (book : Contracts) (a : List ℕ) (n : ℕ) (w : Val) → (n ≢ 0 → has_account book a ≡ true) → n < 2 ^ 63 → amount_kept n ≡ Some w → fits book (Balance a) w ≡ true
kept_fits book a zero w account small e = absurd cc
kept_fits book a (suc n) w account small e =
    let is : variant.Mutez (suc n) ≡ w = cc in
    let there : has_account book a ≡ true = account (omega arith) in
    subst (λ (x : Val). fits book (Balance a) x ≡ true) is (both_true _ _ there (is_balance-Mutez (suc n) (omega arith) small))

pub balance_fits : (book : Contracts) (m : Contents) (a : List ℕ) (n : ℕ) → AllFit book m → (n ≢ 0 → has_account book a ≡ true) → n < 2 ^ 63 → AllFit book (with_balance m a n)
unfolding with_balance
balance_fits book m a n all account small = put_fits book m (Balance a) (amount_kept n) all (λ w e. kept_fits book a n w account small e)

-- an account that has something may have money
amount_account : (book : Contracts) (a : List ℕ) (o : Option Val) → ((v : Val) → o ≡ Some v → fits book (Balance a) v ≡ true) → amount_in o ≢ 0 → has_account book a ≡ true
amount_account book a None all some = absurd (some refl)
amount_account book a (Some v) all some = first_true _ _ (all v refl)

pub funded_account : (book : Contracts) (m : Contents) (a : List ℕ) → AllFit book m → balance m a ≢ 0 → has_account book a ≡ true
funded_account book m a all some = amount_account book a (get m (Balance a)) (all (Balance a)) some

-- an account has no more than all accounts together
pub within_supply : (m : Contents) (a : List ℕ) → balance m a ≤ supply m
within_supply m a = omega (arith, supply-with_balance m a 0)

given_account : (book : Contracts) (a : List ℕ) (n : ℕ) → n ≢ 0 → (n == 0 || has_account book a) ≡ true → has_account book a ≡ true
given_account book a n some e = elim (n == 0) as (λ b. (n == 0) ≡ b → (b || has_account book a) ≡ true → has_account book a ≡ true) [ true ↦ λ zero_is _. absurd (some (eqb-true n 0 zero_is)) | false ↦ λ _ h. h ] refl e

-- ---- what an access and an undo leave fits

module _ (book : Contracts) (m : Contents) (f : ℕ) (all : AllFit book m) (money : supply m + f < 2 ^ 63) where
  debit_fits : (a : List ℕ) (n : ℕ) (low : Bool) → AllFit book (if low then m else with_balance m a (balance m a - n))
  debit_fits a n true = all
  debit_fits a n false =
      let most = within_supply m a in
      balance_fits book m a (balance m a - n) all (λ some. funded_account book m a all (λ none. some (omega (arith, none)))) (omega (arith, most))

  pub after_fits : (a : Access) → fits_access book a ≡ true → IsCovered f a → AllFit book (after a m)
  after_fits (access.Read c) fit covered = all
  after_fits (access.Write c v) fit covered = put_fits book m c v all (λ w e. written_fits book c w (subst (λ (o : Option Val). fits_write book c o ≡ true) e fit))
  after_fits (access.Credit a n) fit covered = let most = within_supply m a in balance_fits book m a (balance m a + n) all (λ _. fit) (omega (arith, most, covered))
  after_fits (access.Debit a n) fit covered = debit_fits a n (nat_lt (balance m a) n)

  returned_account : (a : List ℕ) (n : ℕ) → (n == 0 || has_account book a) ≡ true → balance m a + n ≢ 0 → has_account book a ≡ true
  returned_account a n fit some =
      elim (n == 0) as (λ b. (n == 0) ≡ b → (b || has_account book a) ≡ true → has_account book a ≡ true) [
        | true ↦ λ zero_is _. let none : n ≡ 0 = eqb-true n 0 zero_is in funded_account book m a all (λ nothing. some (omega (arith, none, nothing)))
        | false ↦ λ _ h. h
      ] refl fit

  pub undone_fits : (u : Undo) → fits_undo book u ≡ true → HasAmount m f u → AllFit book (undone u m)
  undone_fits undo.Nothing fit amount = all
  undone_fits (undo.Put c v) fit amount = put_fits book m c v all (λ w e. written_fits book c w (subst (λ (o : Option Val). fits_write book c o ≡ true) e fit))
  undone_fits (undo.Uncredit a n) fit amount =
      let most = within_supply m a in
      balance_fits book m a (balance m a - n) all (λ some. funded_account book m a all (λ none. some (omega (arith, none)))) (omega (arith, most))
  undone_fits (undo.Undebit a n) fit amount =
      let most = within_supply m a in
      balance_fits book m a (balance m a + n) all (returned_account a n fit) (omega (arith, most, amount))

-- ---- a storage that is there stays there

written_there : (book : Contracts) (s : List ℕ) (o : Option Val) → fits_write book (Storage s) o ≡ true → IsSome o
written_there book s None e = absurd cc
written_there book s (Some v) e = search rules

there_or : (o old : Option Val) (b : Bool) → (b ≡ true → IsSome o) → IsSome old → IsSome (cond b o old)
there_or o old true new there = new refl
there_or o old false new there = there

there_put : (book : Contracts) (m : Contents) (c : Cell) (o : Option Val) (s : List ℕ) → fits_write book c o ≡ true → IsSome (get m (Storage s)) → IsSome (get (put m c o) (Storage s))
there_put book m c o s fit there =
    subst (λ (x : Option Val). IsSome x) (sym (get-put m c o (Storage s)))
    (there_or o (get m (Storage s)) (is_one (Storage s) c) (λ one. written_there book s o (subst (λ (x : Cell). fits_write book x o ≡ true) (sym (one_from (Storage s) c one)) fit)) there)

there_balance : (m : Contents) (a : List ℕ) (n : ℕ) (s : List ℕ) → IsSome (get m (Storage s)) → IsSome (get (with_balance m a n) (Storage s))
there_balance m a n s there = subst (λ (x : Option Val). IsSome x) (sym (get-with_balance m a n (Storage s))) there

there_if : (b : Bool) (m n : Contents) (s : List ℕ) → IsSome (get m (Storage s)) → IsSome (get n (Storage s)) → IsSome (get (if b then m else n) (Storage s))
there_if true m n s p q = p
there_if false m n s p q = q

pub after_there : (book : Contracts) (m : Contents) (a : Access) (s : List ℕ) → fits_access book a ≡ true → IsSome (get m (Storage s)) → IsSome (get (after a m) (Storage s))
after_there book m (access.Read c) s fit there = there
after_there book m (access.Write c v) s fit there = there_put book m c v s fit there
after_there book m (access.Credit a n) s fit there = there_balance m a (balance m a + n) s there
after_there book m (access.Debit a n) s fit there = there_if (nat_lt (balance m a) n) m _ s there (there_balance m a (balance m a - n) s there)

pub undone_there : (book : Contracts) (m : Contents) (u : Undo) (s : List ℕ) → fits_undo book u ≡ true → IsSome (get m (Storage s)) → IsSome (get (undone u m) (Storage s))
undone_there book m undo.Nothing s fit there = there
undone_there book m (undo.Put c v) s fit there = there_put book m c v s fit there
undone_there book m (undo.Uncredit a n) s fit there = there_balance m a (balance m a - n) s there
undone_there book m (undo.Undebit a n) s fit there = there_balance m a (balance m a + n) s there

-- ---- the book stays the store's

-- what contents and flight keep of a book and a store
record Keeps (book : Contracts) (old : Seen) (m : Contents) (f : ℕ) : Type 0 where
  values : AllFit book m
  there : (s : List ℕ) → IsSome (get old.cells (Storage s)) → IsSome (get m (Storage s))
  tidy : IsTidy m
  money : supply m + f < 2 ^ 63

still_owned : (book : Contracts) (old new : Seen) (m : Contents) (f : ℕ) → IsBookOf book old → Stays old new → new.cells ≡ m → new.flight ≡ f → Keeps book old m f → IsBookOf book new
still_owned book old new m f owned stays cells flight keeps = record {
  fit = λ a e. stays.fits a ∙ owned.fit a e;
  values = λ c v e. keeps.values c v (ap (λ (n : Contents). get n c) (sym cells) ∙ e);
  storages = λ s known lent.
      subst (λ (n : Contents). IsSome (get n (Storage s))) (sym cells)
      (keeps.there s (owned.storages s known (subst (λ (l : Option Mode). IsLentIn l mode.Read) (stays.lent (Storage s)) lent)));
  tidy = subst IsTidy (sym cells) keeps.tidy;
  money = let same : supply new.cells ≡ supply m = ap supply cells in let money : supply m + f < 2 ^ 63 = keeps.money in omega (arith, same, flight, money);
}

unchanged : (book : Contracts) (old : Seen) → IsBookOf book old → Keeps book old old.cells old.flight
unchanged book old owned = record { values = owned.values; there = λ s h. h; tidy = owned.tidy; money = owned.money }

after_keeps : (book : Contracts) (old : Seen) (a : Access) → IsBookOf book old → fits_access book a ≡ true → CanAccess old a → Keeps book old (after a old.cells) (flight_after a old.cells old.flight)
after_keeps book old a owned fit can = record {
  values = after_fits book old.cells old.flight owned.values owned.money a fit can.covered;
  there = λ s h. after_there book old.cells a s fit h;
  tidy = tidy_after a old.cells can.names owned.tidy;
  money = let kept = kept_after a old.cells old.flight can.names can.covered in let money : supply old.cells + old.flight < 2 ^ 63 = owned.money in omega (arith, kept, money);
}

puts_writable : (book : Contracts) (u : Undo) → fits_undo book u ≡ true → PutsWritable u
puts_writable book undo.Nothing fit = tt
puts_writable book (undo.Put c v) fit = writable book c v fit
puts_writable book (undo.Uncredit a n) fit = tt
puts_writable book (undo.Undebit a n) fit = tt

undone_keeps : (book : Contracts) (old : Seen) (u : Undo) → IsBookOf book old → fits_undo book u ≡ true → CanUndo old u → Keeps book old (undone u old.cells) (flight_undone u old.flight)
undone_keeps book old u owned fit can =
    let names = puts_writable book u fit in
    record {
      values = undone_fits book old.cells old.flight owned.values owned.money u fit can.amount;
      there = λ s h. undone_there book old.cells u s fit h;
      tidy = tidy_undone u old.cells names owned.tidy;
      money = let kept = kept_undone u old.cells old.flight names can.amount in let money : supply old.cells + old.flight < 2 ^ 63 = owned.money in omega (arith, kept, money);
    }

pub owned_after : (book : Contracts) (old new : Seen) (a : Access) (r : Result (Reply × Undo) StoreEnd) → IsBookOf book old → fits_access book a ≡ true → CanAccess old a → Accesses old a r new → IsBookOf book new
owned_after book old new a (Ok x) owned fit can done =
    let did : Did old a x.0 x.1 new = done.did in
    still_owned book old new _ _ owned done.stays did.cells did.flight (after_keeps book old a owned fit can)
owned_after book old new a (Err e) owned fit can done =
    let before : IsAsBefore old new = done.failed in
    still_owned book old new _ _ owned done.stays before.cells before.flight (unchanged book old owned)

pub owned_undone : (book : Contracts) (old new : Seen) (u : Undo) → IsBookOf book old → fits_undo book u ≡ true → CanUndo old u → Undoes old u new → IsBookOf book new
owned_undone book old new u owned fit can done = still_owned book old new _ _ owned done.stays done.cells done.flight (undone_keeps book old u owned fit can)

-- ---- the undo of a fit access

is_some_amount : (n : ℕ) → (n == 0) ≡ false → n ≢ 0
is_some_amount n some none = let is : true ≡ false = sym (eq-eqb n 0 none) ∙ some in cc

-- a cell that is lent to be written is lent to be read
read_too : (l : Option Mode) → IsLentIn l mode.Own → IsLentIn l mode.Read
read_too None lent = absurd lent
read_too (Some mode.Read) lent = absurd cc
read_too (Some mode.Credit) lent = absurd cc
read_too (Some mode.Own) lent = refl

-- a storage that fits is a contract's of the book
stands : (s : Option Script) (v : Val) → fits_storage s v ≡ true → is_some s ≡ true
stands None v e = absurd cc
stands (Some s) v e = refl

known : (book : Contracts) (s : List ℕ) (o : Option Val) → fits_write book (Storage s) o ≡ true → contains_key book s ≡ true
known book s None e = absurd cc
known book s (Some v) e = stands (get book s) v e

none_there : (o : Option Val) → o ≡ None → ¬ IsSome o
none_there None e h = search rules
none_there (Some v) e h = absurd cc

-- what stood in a cell that is written fits it
old_fits : (book : Contracts) (c : Cell) (o : Option Val) → IsWritable c → ((v : Val) → o ≡ Some v → fits book c v ≡ true) → ((s : List ℕ) → c ≡ Storage s → IsSome o) → fits_write book c o ≡ true
old_fits book (Balance a) o w all there = absurd w
old_fits book (Storage s) None w all there = absurd (none_there None refl (there s refl))
old_fits book (Storage s) (Some v) w all there = all v refl
old_fits book (Entry a p k) None w all there = refl
old_fits book (Entry a p k) (Some v) w all there = all v refl

undebit_fits : (book : Contracts) (m : Contents) (a : List ℕ) (n : ℕ) (low : Bool) → AllFit book m → nat_lt (balance m a) n ≡ low → fits_undo book (if low then undo.Nothing else undo.Undebit a n) ≡ true
undebit_fits book m a n true all e = refl
undebit_fits book m a n false all e =
    let enough : n ≤ balance m a = not_less (balance m a) n e in
    elim (n == 0) as (λ b. (n == 0) ≡ b → (b || has_account book a) ≡ true) [
      | true ↦ λ _. refl
      | false ↦ λ some. funded_account book m a all (λ none. absurd (is_some_amount n some (omega (arith, enough, none))))
    ] refl

pub undo_fits : (book : Contracts) (old : Seen) (a : Access) → IsBookOf book old → fits_access book a ≡ true → Lends old a → fits_undo book (undo_of a old.cells) ≡ true
undo_fits book old (access.Read c) owned fit lent = refl
undo_fits book old (access.Write c v) owned fit lent =
    old_fits book c (get old.cells c) (writable book c v fit) (owned.values c)
    (λ s is.
    subst (λ (x : Cell). IsSome (get old.cells x)) (sym is)
    (owned.storages s (known book s v (subst (λ (x : Cell). fits_write book x v ≡ true) is fit))
    (read_too (old.lent (Storage s)) (subst (λ (x : Cell). IsLentIn (old.lent x) mode.Own) is lent))))
undo_fits book old (access.Credit a n) owned fit lent = refl
undo_fits book old (access.Debit a n) owned fit lent = undebit_fits book old.cells a n (nat_lt (balance old.cells a) n) owned.values refl

may_change : (book : Contracts) (new : Seen) (u : Undo) → IsBookOf book new → fits_undo book u ≡ true → HasSlot new.slots u → MayChange new u
may_change book new undo.Nothing owned fit slot = tt
may_change book new (undo.Put c v) owned fit slot = record { names = writable book c v fit; fits = owned.fit (access.Write c v) fit; slot = slot }
may_change book new (undo.Uncredit a n) owned fit slot = tt
may_change book new (undo.Undebit a n) owned fit slot = record { credited = λ some. (n, owned.fit (access.Credit a n) (given_account book a n some fit)); slot = λ _. slot }

pub may_be_taken : (book : Contracts) (old new : Seen) (a : Access) → IsBookOf book old → IsBookOf book new → fits_access book a ≡ true → CanAccess old a → Lends old a →
    new.cells ≡ after a old.cells → new.flight ≡ flight_after a old.cells old.flight → HasSlot new.slots (undo_of a old.cells) → CanUndo new (undo_of a old.cells)
may_be_taken book old new a owned still fit can lent cells flight slot =
    let back = taken_back a old.cells old.flight owned.tidy can.covered in
    record {
      amount =
          subst (λ (x : Contents × ℕ). HasAmount x.0 x.1 (undo_of a old.cells)) (λ i. (sym cells i, sym flight i)) back.amount;
      change = may_change book new (undo_of a old.cells) still (undo_fits book old a owned fit lent) slot;
    }
