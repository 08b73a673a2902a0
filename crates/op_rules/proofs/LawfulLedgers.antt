-- An operation makes fit accesses alone, and leaves the cells of a ledger; so does a run.
use Rattle.std.proofs.Common.{◌≡◌, ℕ, ◌+◌, ◌-◌, ◌≤◌, Bool, true, false, Option, List, [], ◌∷◌, refl, sym, ap, subst, ◌∙◌, arith}
use Rattle.std.specs.Prelude.{nat_lt, IsSome, if◌then◌else◌}
use Rattle.std.specs.List.{AllByRecursion}
use Rattle.std.specs.FinMap.{get}
use Rattle.value_core.specs.declared.val.Val.{Val}
use Rattle.michelson_code.specs.declared.why.Why.{Why}
use Rattle.cell_names.specs.declared.access.Access.{Access}
use Rattle.cell_names.specs.declared.access.Access.TheVariants as access
use Rattle.cell_names.specs.declared.access.Reply.{Reply}
use Rattle.cell_names.specs.declared.access.Reply.TheVariants as reply
use Rattle.cell_names.specs.declared.cell.Cell.{Cell}
use Rattle.cell_names.specs.declared.cell.Cell.TheVariants.{Storage}
use Rattle.cell_names.specs.declared.head.Head.{Head}
use Rattle.cell_names.specs.Conditions.{IsCovered, Seen}
use Rattle.cell_names.specs.Contents.{Contents, balance, put, with_balance}
use Rattle.cell_names.specs.Effects.{after, flight_after, reply_to}
use Rattle.cell_names.specs.Supply.{supply}
use Rattle.code_book.specs.Books.{Contracts, IsBook, has_account}
use Rattle.code_book.specs.Fits.{fits_access, fits_write}
use Rattle.code_book.specs.Ownership.{IsBookOf}
use Rattle.code_book.proofs.Owning.{after_there}
use Rattle.op_rules.specs.declared.limits.TheConstants.{MOST_CALLS, MOST_ROOM}
use Rattle.op_rules.specs.declared.op.Op.{Op}
use Rattle.op_rules.specs.Course.{Course, Past, Serial, done, failed}
use Rattle.op_rules.specs.Ledgers.{AreFitFrom, AreLedgerCells, IsFit, MakesFit}
use Rattle.op_rules.specs.Operations.{IsLawful, first_of}
use Rattle.op_rules.specs.Replies.{AreLawful, flight_by, flight_of}
use Rattle.op_rules.specs.Serial.{begins_with, cells_after, run_all, serial, serial_within}
use Rattle.op_rules.proofs.Along.{noted}
use Rattle.op_rules.proofs.FitAlong.{IsKeptFit, keeps_transfers}
use Rattle.op_rules.proofs.Flights.{fit_push, flight_after-is, flight_of-push, lawful_after}

module _ (book : Contracts) (opening : Contents) (began : AreLawful book opening 0) where
  -- cells within an operation, with so much in flight
  record IsOnTheWay (n : ℕ) (m : Contents) (past : Past) : Type 0 where
    lawful : AreLawful book m n
    there : (s : List ℕ) → IsSome (get opening (Storage s)) → IsSome (get m (Storage s))
    flight : flight_of past ≡ n
    fit : AreFitFrom book 0 past

  -- cells at its end
  record Ends (s : Serial) : Type 0 where
    makes : MakesFit book s
    lawful : AreLawful book (cells_after opening s) 0
    there : (a : List ℕ) → IsSome (get opening (Storage a)) → IsSome (get (cells_after opening s) (Storage a))

  -- ---- one access

  module _ (a : Access) (r : Reply) (n n' : ℕ) (m m' : Contents) (past : Past) where
    now_in_flight : reply_to a m ≡ r → flight_after a m n ≡ n' → flight_by a r n ≡ n'
    now_in_flight gives flight = ap (λ (x : Reply). flight_by a x n) (sym gives) ∙ sym (flight_after-is a m n) ∙ flight

    goes_on : IsOnTheWay n m past → fits_access book a ≡ true → IsCovered n a → reply_to a m ≡ r → after a m ≡ m' → flight_after a m n ≡ n' → IsOnTheWay n' m' (noted past a r)
    goes_on h fits covered gives cells flight = record {
      lawful = subst (λ (x : Contents × ℕ). AreLawful book x.0 x.1) (λ i. (cells i, flight i)) (lawful_after book m n a h.lawful fits covered);
      there = λ s t. subst (λ (x : Contents). IsSome (get x (Storage s))) cells (after_there book m a s fits (h.there s t));
      flight = flight_of-push past a r ∙ ap (flight_by a r) h.flight ∙ now_in_flight gives flight;
      fit = fit_push book 0 past a r h.fit (subst (λ (f : ℕ). IsFit book f a) (sym h.flight) (record { fits = fits; covered = covered }));
    }

  reads : (c : Cell) (m : Contents) (past : Past) → IsOnTheWay 0 m past → IsOnTheWay 0 m (noted past (access.Read c) (reply.Value (get m c)))
  reads c m past h = goes_on (access.Read c) (reply.Value (get m c)) 0 0 m m past h refl tt refl refl refl

  writes : (c : Cell) (v : Option Val) (m : Contents) (past : Past) → fits_write book c v ≡ true → IsOnTheWay 0 m past → IsOnTheWay 0 (put m c v) (noted past (access.Write c v) reply.Done)
  writes c v m past fit h = goes_on (access.Write c v) reply.Done 0 0 m (put m c v) past h fit tt refl refl refl

  low : (a : List ℕ) (n : ℕ) (m : Contents) (past : Past) → nat_lt (balance m a) n ≡ true → IsOnTheWay 0 m past → IsOnTheWay 0 m (noted past (access.Debit a n) reply.Low)
  low a n m past e h =
      goes_on (access.Debit a n) reply.Low 0 0 m m past h refl tt (ap (λ (b : Bool). if b then reply.Low else reply.Done) e)
      (ap (λ (b : Bool). if b then m else with_balance m a (balance m a - n)) e) (ap (λ (b : Bool). if b then 0 else 0 + n) e)

  debits : (a : List ℕ) (n : ℕ) (m : Contents) (past : Past) → nat_lt (balance m a) n ≡ false → IsOnTheWay 0 m past →
      IsOnTheWay n (with_balance m a (balance m a - n)) (noted past (access.Debit a n) reply.Done)
  debits a n m past e h =
      let flight : 0 + n ≡ n = omega arith in
      goes_on (access.Debit a n) reply.Done 0 n m (with_balance m a (balance m a - n)) past h refl tt (ap (λ (b : Bool). if b then reply.Low else reply.Done) e)
      (ap (λ (b : Bool). if b then m else with_balance m a (balance m a - n)) e) (ap (λ (b : Bool). if b then 0 else 0 + n) e ∙ flight)

  credits : (a : List ℕ) (n : ℕ) (m : Contents) (past : Past) → has_account book a ≡ true → IsOnTheWay n m past →
      IsOnTheWay 0 (with_balance m a (balance m a + n)) (noted past (access.Credit a n) reply.Done)
  credits a n m past account h =
      let covered : n ≤ n = omega arith in
      let flight : n - n ≡ 0 = omega arith in
      goes_on (access.Credit a n) reply.Done n 0 m (with_balance m a (balance m a + n)) past h account covered refl refl flight

  -- ---- an end

  ends_failed : (y : Why) (n : ℕ) (m : Contents) (c : Course) → IsOnTheWay n m c.past → Ends (failed y m c)
  ends_failed y n m c h = record { makes = record { accesses = h.fit; settled = tt }; lawful = began; there = λ s t. t }

  ends_done : (m : Contents) (c : Course) → IsOnTheWay 0 m c.past → Ends (done m c)
  ends_done m c h = record { makes = record { accesses = h.fit; settled = h.flight }; lawful = h.lawful; there = h.there }

  kept : IsKeptFit book (IsOnTheWay 0) IsOnTheWay Ends
  kept = record {
    values = λ m past h. h.lawful.values;
    fails = λ y m c h. ends_failed y 0 m c h;
    owes = ends_failed;
    applied = ends_done;
    reads = reads;
    writes = writes;
    low = low;
    debits = debits;
    credits = credits;
  }

  ends : IsBook book → (head : Head) (op : Op) → IsLawful op → Ends (serial book head op opening)
  unfolding serial serial_within
  ends all head op lawful =
      keeps_transfers book (IsOnTheWay 0) IsOnTheWay Ends kept all head op.source MOST_CALLS (first_of op ∷ []) (lawful.amount, tt) opening (begins_with op MOST_ROOM)
      (record { lawful = began; there = λ s t. t; flight = refl; fit = tt })

-- ---- operations and runs

module _ (book : Contracts) (head : Head) where
  pub makes_fit : (op : Op) (opening : Contents) → IsBook book → IsLawful op → AreLawful book opening 0 → MakesFit book (serial book head op opening)
  makes_fit op opening all lawful began = (ends book opening began all head op lawful).makes

  pub leaves_lawful : (op : Op) (opening : Contents) → IsBook book → IsLawful op → AreLedgerCells book opening → AreLedgerCells book (cells_after opening (serial book head op opening))
  leaves_lawful op opening all lawful began =
      let at_end = ends book opening began.lawful all head op lawful in
      record { lawful = at_end.lawful; storages = λ a known. at_end.there a (began.storages a known) }

  pub run_leaves_lawful : (ops : List Op) (opening : Contents) → IsBook book → AllByRecursion IsLawful ops → AreLedgerCells book opening → AreLedgerCells book (run_all book head ops opening).cells
  run_leaves_lawful [] opening all lawful began = began
  run_leaves_lawful (op ∷ ops) opening all lawful began =
      run_leaves_lawful ops (cells_after opening (serial book head op opening)) all lawful.1 (leaves_lawful op opening all lawful.0 began)

-- a store that has the cells of a ledger and lets each fit access be made is the book's
pub is_book_of : (book : Contracts) (seen : Seen) → AreLedgerCells book seen.cells → seen.flight ≡ 0 → ((a : Access) → fits_access book a ≡ true → seen.fits a ≡ true) → IsBookOf book seen
is_book_of book seen cells none fit = record {
  fit = fit;
  values = cells.lawful.values;
  storages = λ a known lent. cells.storages a known;
  tidy = cells.lawful.tidy;
  money = let within = cells.lawful.money in let same : supply seen.cells + seen.flight ≡ supply seen.cells + 0 = ap (λ (f : ℕ). supply seen.cells + f) none in omega (arith, within, same);
}
