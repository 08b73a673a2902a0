-- What accesses and undos do to cells of a ledger, seen as a store.
use Rattle.std.proofs.Common.{◌≡◌, ℕ, ◌+◌, ◌-◌, ◌<◌, ◌≤◌, Bool, true, false, cond, ◌||◌, List, Option, Ok, Err, refl, sym, ap, subst, ◌∙◌, arith, rules}
use Rattle.std.specs.Prelude.{nat_lt, if◌then◌else◌}
use Rattle.std.specs.FinMap.{get}
use Rattle.std.specs.FinSet.{FinSet, contains, insert, contains-insert}
use Rattle.value_core.specs.declared.val.Val.{Val}
use Rattle.cell_names.specs.declared.cell.Cell.{Cell}
use Rattle.cell_names.specs.declared.cell.Cell.TheVariants.{Balance}
use Rattle.cell_names.specs.declared.access.Access.{Access}
use Rattle.cell_names.specs.declared.access.Access.TheVariants as access
use Rattle.cell_names.specs.declared.access.Reply.{Reply}
use Rattle.cell_names.specs.declared.access.Reply.TheVariants as reply
use Rattle.cell_names.specs.declared.access.Undo.{Undo}
use Rattle.cell_names.specs.declared.access.Undo.TheVariants as undo
use Rattle.cell_names.specs.declared.store.StoreEnd.{StoreEnd}
use Rattle.cell_names.specs.declared.store.StoreEnd.TheVariants as ends
use Rattle.cell_names.specs.Cells.{cell_cmp}
use Rattle.cell_names.specs.CellOrder.{cell_cmp-total}
use Rattle.cell_names.specs.Contents.{Contents, put, balance, amount_kept, with_balance, IsTidy}
use Rattle.cell_names.specs.Effects.{reply_to, after, flight_after, undo_of, undone, flight_undone}
use Rattle.cell_names.specs.Conditions.{Lends, CanAccess}
use Rattle.cell_names.specs.Stores.{Stays, HasSlot, Did, Accesses, Undoes}
use Rattle.cell_names.proofs.Puts.{is_one, is_one-self, one_from, get-put, same_contents}
use Rattle.code_book.specs.Books.{Contracts}
use Rattle.code_book.specs.Fits.{fits_access}
use Rattle.ledger_cells.specs.LedgerCells.{LedgerCells, seen_of, AreLawful}
use Rattle.ledger_cells.proofs.Lawful.{lawful_after}

-- each cell is lent in the mode that an access needs
pub all_lent : (s : LedgerCells) (a : Access) → Lends (seen_of s) a
all_lent s (access.Read c) = refl
all_lent s (access.Write c v) = refl
all_lent s (access.Credit a n) = refl
all_lent s (access.Debit a n) = refl

-- no slot is taken away
abbrev pub KeepsSlots : LedgerCells → LedgerCells → Type 0
KeepsSlots s t = (c : Cell) → contains s.slots c ≡ true → contains t.slots c ≡ true

stays : (s t : LedgerCells) → t.book ≡ s.book → KeepsSlots s t → Stays (seen_of s) (seen_of t)
stays s t book slots = record { lent = λ c. refl; fits = λ a. ap (λ (b : Contracts). fits_access b a) book; slots = slots }

pub accessed : (s t : LedgerCells) (a : Access) (r : Reply) (u : Undo) → t.book ≡ s.book → KeepsSlots s t → r ≡ reply_to a s.cells → u ≡ undo_of a s.cells →
    t.cells ≡ after a s.cells → t.flight ≡ flight_after a s.cells s.flight → HasSlot (contains t.slots) u → Accesses (seen_of s) a (Ok (r, u)) (seen_of t)
accessed s t a r u book slots reply undo cells flight slot = record {
  stays = stays s t book slots;
  did = record { lent = all_lent s a; reply = reply; undo = undo; cells = cells; flight = flight; slot = slot };
  failed = tt;
  outside = λ c e. absurd cc;
}

pub refused : (s t : LedgerCells) (a : Access) (e : StoreEnd) → e ≡ ends.NoMemory → t.book ≡ s.book → KeepsSlots s t → t.cells ≡ s.cells → t.flight ≡ s.flight → Accesses (seen_of s) a (Err e) (seen_of t)
refused s t a e is book slots cells flight = record {
  stays = stays s t book slots;
  did = tt;
  failed = record { cells = cells; flight = flight };
  outside = λ c outside. absurd cc;
}

pub undoes : (s t : LedgerCells) (u : Undo) → t.book ≡ s.book → KeepsSlots s t → t.cells ≡ undone u s.cells → t.flight ≡ flight_undone u s.flight → Undoes (seen_of s) u (seen_of t)
undoes s t u book slots cells flight = record { stays = stays s t book slots; cells = cells; flight = flight }

-- ---- slots

pub slot_made : (s : FinSet cell_cmp) (c : Cell) → contains (insert s c) c ≡ true
slot_made s c = contains-insert cell_cmp-total s c c ∙ ap (λ b. b || contains s c) (is_one-self c)

or_kept : (a b : Bool) → b ≡ true → (a || b) ≡ true
or_kept true b e = refl
or_kept false b e = e

pub slot_kept : (s : FinSet cell_cmp) (c q : Cell) → contains s q ≡ true → contains (insert s c) q ≡ true
slot_kept s c q there = contains-insert cell_cmp-total s c q ∙ or_kept (is_one q c) (contains s q) there

keeps_with : (s t : LedgerCells) (c : Cell) → t.slots ≡ insert s.slots c → KeepsSlots s t
keeps_with s t c slots q there = ap (λ (l : FinSet cell_cmp). contains l q) slots ∙ slot_kept s.slots c q there

made_with : (s t : LedgerCells) (c : Cell) → t.slots ≡ insert s.slots c → contains t.slots c ≡ true
made_with s t c slots = ap (λ (l : FinSet cell_cmp). contains l c) slots ∙ slot_made s.slots c

keeps_same : (s t : LedgerCells) → t.slots ≡ s.slots → KeepsSlots s t
keeps_same s t slots q there = ap (λ (l : FinSet cell_cmp). contains l q) slots ∙ there

-- ---- accesses, one for each kind

pub has_read : (s : LedgerCells) (c : Cell) (o : Option Val) → o ≡ get s.cells c → Accesses (seen_of s) (access.Read c) (Ok (reply.Value o, undo.Nothing)) (seen_of s)
has_read s c o is = accessed s s (access.Read c) (reply.Value o) undo.Nothing refl (λ q there. there) (ap reply.Value is) refl refl refl tt

pub has_written : (s t : LedgerCells) (c name : Cell) (v old : Option Val) → t.book ≡ s.book → t.flight ≡ s.flight → t.cells ≡ put s.cells c v → t.slots ≡ insert s.slots c → name ≡ c → old ≡ get s.cells c →
    Accesses (seen_of s) (access.Write c v) (Ok (reply.Done, undo.Put name old)) (seen_of t)
has_written s t c name v old book flight cells slots same is =
    accessed s t (access.Write c v) reply.Done (undo.Put name old) book (keeps_with s t c slots) refl
    (λ i. undo.Put (same i) (is i)) cells flight
    (ap (contains t.slots) same ∙ made_with s t c slots)

-- a balance that is put is what the account has then
balance_put : (s t : LedgerCells) (a : List ℕ) (n : ℕ) (o : Option Val) → o ≡ amount_kept n → t.cells ≡ put s.cells (Balance a) o → t.cells ≡ with_balance s.cells a n
unfolding with_balance
balance_put s t a n o kept cells = cells ∙ ap (put s.cells (Balance a)) kept

pub has_credited : (s t : LedgerCells) (a : List ℕ) (n has : ℕ) (o : Option Val) → t.book ≡ s.book → t.flight ≡ s.flight - n → has ≡ balance s.cells a → o ≡ amount_kept (has + n) →
    t.cells ≡ put s.cells (Balance a) o → t.slots ≡ insert s.slots (Balance a) → Accesses (seen_of s) (access.Credit a n) (Ok (reply.Done, undo.Uncredit a n)) (seen_of t)
has_credited s t a n has o book flight is kept cells slots =
    accessed s t (access.Credit a n) reply.Done (undo.Uncredit a n) book (keeps_with s t (Balance a) slots) refl refl
    (balance_put s t a (balance s.cells a + n) o (kept ∙ ap (λ h. amount_kept (h + n)) is) cells) flight
    (made_with s t (Balance a) slots)

not_low : (x y : ℕ) → y ≤ x → nat_lt x y ≡ false
not_low x y e = search rules

is_less : (x y : ℕ) → x < y → nat_lt x y ≡ true
is_less x y e = search rules

pub has_debited : (s t : LedgerCells) (a : List ℕ) (n has : ℕ) (o : Option Val) → t.book ≡ s.book → t.flight ≡ s.flight + n → has ≡ balance s.cells a → n ≤ has → o ≡ amount_kept (has - n) →
    t.cells ≡ put s.cells (Balance a) o → t.slots ≡ insert s.slots (Balance a) → Accesses (seen_of s) (access.Debit a n) (Ok (reply.Done, undo.Undebit a n)) (seen_of t)
has_debited s t a n has o book flight is enough kept cells slots =
    let done : nat_lt (balance s.cells a) n ≡ false = not_low (balance s.cells a) n (subst (λ h. n ≤ h) is enough) in
    accessed s t (access.Debit a n) reply.Done (undo.Undebit a n) book (keeps_with s t (Balance a) slots)
    (sym (ap (λ b. if b then reply.Low else reply.Done) done))
    (sym (ap (λ b. if b then undo.Nothing else undo.Undebit a n) done))
    (balance_put s t a (balance s.cells a - n) o (kept ∙ ap (λ h. amount_kept (h - n)) is) cells
    ∙ sym (ap (λ b. if b then s.cells else with_balance s.cells a (balance s.cells a - n)) done))
    (flight ∙ sym (ap (λ b. if b then s.flight else s.flight + n) done))
    (made_with s t (Balance a) slots)

pub is_low : (s : LedgerCells) (a : List ℕ) (n has : ℕ) → has ≡ balance s.cells a → has < n → Accesses (seen_of s) (access.Debit a n) (Ok (reply.Low, undo.Nothing)) (seen_of s)
is_low s a n has is less =
    let low : nat_lt (balance s.cells a) n ≡ true = is_less (balance s.cells a) n (subst (λ h. h < n) is less) in
    accessed s s (access.Debit a n) reply.Low undo.Nothing refl (λ q there. there)
    (sym (ap (λ b. if b then reply.Low else reply.Done) low))
    (sym (ap (λ b. if b then undo.Nothing else undo.Undebit a n) low))
    (sym (ap (λ b. if b then s.cells else with_balance s.cells a (balance s.cells a - n)) low))
    (sym (ap (λ b. if b then s.flight else s.flight + n) low))
    tt

pub has_no_memory : (s t : LedgerCells) (a : Access) (e : StoreEnd) → e ≡ ends.NoMemory → t ≡ s → Accesses (seen_of s) a (Err e) (seen_of t)
has_no_memory s t a e is same =
    subst (λ (x : LedgerCells). Accesses (seen_of s) a (Err e) (seen_of x)) (sym same)
    (refused s s a e is refl (λ q there. there) refl refl)

-- what was accessed keeps what cells keep
pub lawful_accessed : (s t : LedgerCells) (a : Access) (r : Reply) (u : Undo) → AreLawful s → CanAccess (seen_of s) a → t.book ≡ s.book → Accesses (seen_of s) a (Ok (r, u)) (seen_of t) → AreLawful t
lawful_accessed s t a r u lawful can book done =
    let did : Did (seen_of s) a r u (seen_of t) = done.did in
    lawful_after s t a lawful can book did.cells did.flight

-- ---- undos of nothing

found_again : (m : Contents) (c q : Cell) (o : Option Val) (b : Bool) → is_one q c ≡ b → o ≡ get m c → cond b o (get m q) ≡ get m q
found_again m c q o true one is = is ∙ ap (get m) (sym (one_from q c one))
found_again m c q o false one is = refl

put_same : (m : Contents) (c : Cell) (o : Option Val) → o ≡ get m c → put m c o ≡ m
put_same m c o is = same_contents _ _ (λ q. get-put m c o q ∙ found_again m c q o (is_one q c) refl is)

zero_less : (x n : ℕ) → n ≡ 0 → x - n ≡ x
zero_less x n none = omega (arith, none)

zero_more : (x n : ℕ) → n ≡ 0 → x + n ≡ x
zero_more x n none = omega (arith, none)

pub same_balance : (m : Contents) (a : List ℕ) (n : ℕ) → IsTidy m → n ≡ balance m a → m ≡ with_balance m a n
unfolding with_balance
same_balance m a n tidy is = sym (put_same m (Balance a) (amount_kept n) (ap amount_kept is ∙ sym (tidy a)))

pub uncredits_nothing : (s : LedgerCells) (a : List ℕ) (n : ℕ) → AreLawful s → n ≡ 0 → Undoes (seen_of s) (undo.Uncredit a n) (seen_of s)
uncredits_nothing s a n lawful none =
    undoes s s (undo.Uncredit a n) refl (λ q there. there)
    (same_balance s.cells a (balance s.cells a - n) lawful.tidy (zero_less (balance s.cells a) n none))
    (sym (zero_more s.flight n none))

pub undebits_nothing : (s : LedgerCells) (a : List ℕ) (n : ℕ) → AreLawful s → n ≡ 0 → Undoes (seen_of s) (undo.Undebit a n) (seen_of s)
undebits_nothing s a n lawful none =
    undoes s s (undo.Undebit a n) refl (λ q there. there)
    (same_balance s.cells a (balance s.cells a + n) lawful.tidy (zero_more (balance s.cells a) n none))
    (sym (zero_less s.flight n none))
