-- The law of the whole file: what is read is a ledger and is spelt so, and every ledger is read from its spelling.
use Rattle.std.proofs.Common.{◌≡◌, ℕ, ◌+◌, ◌<◌, ◌^◌, Bool, true, List, [], ◌∷◌, ◌++◌, length, Option, Some, None, Result, Ok, Err, refl, sym, ap, subst, ◌∙◌, arith}
use Rattle.std.specs.Prelude.{map, sum, IfOk}
use Rattle.std.specs.List.{flat_map, AllByRecursion}
use Rattle.std.specs.Int.{w32, w64, to_be_bytes}
use Rattle.std.specs.FinMap.{entries, len, len-entries, is_sorted}
use Rattle.std.specs.FinMap.Entries.{below_all}
use Rattle.std.proofs.lemmas.List.{length-map}
use Rattle.std.proofs.lemmas.List.Sums.{sum_by-cons}
use Rattle.byte_fields.specs.Readers.{Reader, number, both, behind}
use Rattle.byte_fields.specs.Laws.{IsBytes, AllAlong, Reads, ReadsWhole}
use Rattle.byte_fields.proofs.Joined.{both_reads, made_reads}
use Rattle.byte_fields.proofs.Whole.{whole_reads}
use Rattle.byte_fields.proofs.Digits.{wide32, wide64}
use Rattle.byte_fields.proofs.Numbers.{behind_reads, number_reads}
use Rattle.value_core.proofs.Bools.{both_true, first_true, second_true}
use Rattle.value_core.proofs.PlaceLemmas.{is_Less}
use Rattle.cell_names.specs.declared.fault.FormatStop.{FormatStop}
use Rattle.byte_fields.specs.Told.{AnswersUnlessFull}
use Rattle.cell_names.specs.Stops.{format_stop}
use Rattle.plain_ledger.specs.declared.holding.Holding.{Holding}
use Rattle.plain_ledger.specs.Ledger.{BalanceEntry, Ledger, Balances, AreBalances, Ascends, pair}
use Rattle.plain_ledger.specs.Holdings.{AreHoldings, balances_of, ledger_from}
use Rattle.plain_ledger.specs.Spelling.{magic, cell, spelling, IsLedger}
use Rattle.plain_ledger.specs.Reading.{Before, is_above, next, book, ledger}
use Rattle.plain_ledger.proofs.Ascending.{below_all_less}
use Rattle.plain_ledger.proofs.Changing.{R, o, IsFunded, entries_funded, balances_from_entries}
use Rattle.plain_ledger.proofs.HoldingLemmas.{entries-balances_of, unpair, balances_are}
use Rattle.plain_ledger.proofs.FieldLaws.{Follows, Follow, book_bytes, IsBook, book_reads}

-- ---- one after the other, and all of them

-- what these amounts are together
abbrev total_of : List BalanceEntry → ℕ
total_of es = sum (map (λ (e : BalanceEntry). e.1) es)

total_of-cons : (e : BalanceEntry) (es : List BalanceEntry) → total_of (e ∷ es) ≡ e.1 + total_of es
total_of-cons e es = sum_by-cons (λ n. n) e.1 (map (λ (e : BalanceEntry). e.1) es)

-- each key is above the last one, where there is one
abbrev are_above : Option (List ℕ) → List BalanceEntry → Bool
are_above None es = true
are_above (Some last) es = below_all R last es

-- what holdings that follow each other are together
record Together (before : Before) (es : List BalanceEntry) : Type 0 where
  ascend : is_sorted R es ≡ true
  above : are_above before.0 es ≡ true
  funded : AllByRecursion IsFunded es
  within : before.1 < 2 ^ 63 → before.1 + total_of es < 2 ^ 63

are_above-cons : (last : Option (List ℕ)) (e : BalanceEntry) (es : List BalanceEntry) → is_above last e.0 ≡ true → below_all R e.0 es ≡ true → are_above last (e ∷ es) ≡ true
are_above-cons None e es a h = refl
are_above-cons (Some last) e es a h = both_true _ _ a (below_all_less o last e.0 es (is_Less _ a) h)

above_first : (last : Option (List ℕ)) (e : BalanceEntry) (es : List BalanceEntry) → are_above last (e ∷ es) ≡ true → is_above last e.0 ≡ true
above_first None e es h = refl
above_first (Some last) e es h = first_true _ _ h

none_above : (last : Option (List ℕ)) → are_above last [] ≡ true
none_above None = refl
none_above (Some last) = refl

together : (before : Before) (hs : List Holding) → AllAlong Follows next before hs → Together before (map pair hs)
together before [] h = record { ascend = refl; above = none_above before.0; funded = tt; within = λ lt. omega arith }
together before (x ∷ hs) h =
    let t = together (next before x) hs h.1 in
    record {
      ascend = both_true _ _ t.above t.ascend;
      above = are_above-cons before.0 (pair x) (map pair hs) h.0.0.1 t.above;
      funded = ((h.0.0.0, h.0.1.0), t.funded);
      within = λ lt. omega (arith, t.within h.0.1.1, total_of-cons (pair x) (map pair hs));
    }

along : (before : Before) (hs : List Holding) → Ascends hs → are_above before.0 (map pair hs) ≡ true → AllByRecursion IsFunded (map pair hs) → before.1 + total_of (map pair hs) < 2 ^ 63 → AllAlong Follows next before hs
along before [] s a f lt = tt
along before (x ∷ hs) s a f lt =
    let sum_is : total_of (map pair (x ∷ hs)) ≡ x.amount + total_of (map pair hs) = total_of-cons (pair x) (map pair hs) in
    (((f.0.0, above_first before.0 (pair x) (map pair hs) a), (f.0.1, omega arith)), along (next before x) hs (second_true _ _ s) (first_true _ _ s) f.1 (omega arith))

pub AreHoldings-from_follow : (n : ℕ) (hs : List Holding) → Follow n hs → AreHoldings hs
AreHoldings-from_follow n hs h =
    let t = together (None, 0) hs h.1 in
    let is : entries (balances_of hs) ≡ map pair hs = entries-balances_of hs t.ascend in
    record {
      ascend = t.ascend;
      lawful = balances_from_entries (balances_of hs) (subst (AllByRecursion IsFunded) (sym is) t.funded)
          (subst (λ (es : List BalanceEntry). total_of es < 2 ^ 63) (sym is) (omega (arith, t.within (omega arith))));
    }

follow_from_balances : (m : Balances) (hs : List Holding) → map pair hs ≡ entries m → AreBalances m → Follow (length hs) hs
follow_from_balances m hs is h =
    (refl, along (None, 0) hs (balances_are hs m is).0 refl (subst (AllByRecursion IsFunded) (sym is) (entries_funded m h)) (subst (λ (es : List BalanceEntry). 0 + total_of es < 2 ^ 63) (sym is) (omega (arith, h.within))))

-- ---- the file

-- level, now and holdings, as they stand in the file
abbrev Parts : Type 0
Parts = ℕ × (ℕ × List Holding)

abbrev parts : Reader Parts
parts = behind magic (both (number w32) (both (number w64) book))

abbrev from_parts : Parts → Ledger
from_parts p = ledger_from p.0 p.1.0 p.1.1

abbrev to_parts : Ledger → Parts
to_parts s = (s.level, (s.now, map unpair (entries s.balances)))

abbrev AreParts : Parts → Type 0
AreParts p = (p.0 < 2 ^ 32) × ((p.1.0 < 2 ^ 64) × IsBook p.1.1)

abbrev parts_bytes : Parts → List ℕ
parts_bytes p = magic ++ (to_be_bytes w32 p.0 ++ (to_be_bytes w64 p.1.0 ++ (to_be_bytes w32 0 ++ book_bytes p.1.1)))

parts_reads : Reads parts parts_bytes AreParts
parts_reads = behind_reads magic (both_reads ((number_reads w32 (2 ^ 32) wide32)) (both_reads ((number_reads w64 (2 ^ 64) wide64)) book_reads))

abbrev holding_bytes : List Holding → List ℕ
holding_bytes hs = flat_map (λ h. cell (pair h)) hs

holding_bytes-pairs : (hs : List Holding) → holding_bytes hs ≡ flat_map cell (map pair hs)
holding_bytes-pairs [] = refl
holding_bytes-pairs (h ∷ hs) = ap (λ (bytes : List ℕ). cell (pair h) ++ bytes) (holding_bytes-pairs hs)

-- the spelling, by its count and its cells
abbrev spelt : ℕ → ℕ → ℕ → List ℕ → List ℕ
spelt level now n bytes = magic ++ to_be_bytes w32 level ++ to_be_bytes w64 now ++ to_be_bytes w32 0 ++ to_be_bytes w32 n ++ bytes

pairs_back : (es : List BalanceEntry) → map pair (map unpair es) ≡ es
pairs_back [] = refl
pairs_back (e ∷ es) = ap (λ (es : List BalanceEntry). e ∷ es) (pairs_back es)

from_good : (p : Parts) → AreParts p → (parts_bytes p ≡ spelling (from_parts p)) × IsLedger (from_parts p)
from_good p good =
    let hs : List Holding = p.1.1 in
    let are : AreHoldings hs = AreHoldings-from_follow (length hs) hs good.1.1.1 in
    let is : map pair hs ≡ entries (balances_of hs) = sym (entries-balances_of hs are.ascend) in
    let count : length hs ≡ len (balances_of hs) = sym (length-map hs pair) ∙ ap length is ∙ sym (len-entries (balances_of hs)) in
    let body : holding_bytes hs ≡ flat_map cell (entries (balances_of hs)) = holding_bytes-pairs hs ∙ ap (flat_map cell) is in
    (λ i. spelt p.0 p.1.0 (count i) (body i), record { level = good.0; now = good.1.0; few = subst (λ n. n < 2 ^ 32) count good.1.1.0; balances = are.lawful })

to_good : (s : Ledger) → IsLedger s → AreParts (to_parts s) × (from_parts (to_parts s) ≡ s)
to_good s good =
    let hs : List Holding = map unpair (entries s.balances) in
    let is : map pair hs ≡ entries s.balances = pairs_back (entries s.balances) in
    let count : length hs ≡ len s.balances = length-map (entries s.balances) unpair ∙ sym (len-entries s.balances) in (
      (good.level, (good.now, (subst (λ n. n < 2 ^ 32) (sym count) good.few, follow_from_balances s.balances hs is good.balances))),
      ap (λ (m : Balances). let l : Ledger = record { level = s.level; now = s.now; balances = m } in l) (balances_are hs s.balances is).1,
    )

pub ledger_reads : ReadsWhole ledger spelling IsLedger
unfolding ledger
ledger_reads = whole_reads (made_reads from_parts to_parts spelling IsLedger from_good to_good parts_reads)

-- what a book has read are holdings of a state
pub book_lawful : {X : Type 0} (view : X → List Holding × List ℕ) (bytes : List ℕ) (r : Result X FormatStop) → IsBytes bytes → AnswersUnlessFull format_stop view r (book bytes) → IfOk r (λ x. AreHoldings (view x).0)
book_lawful view bytes (Ok x) fits is = AreHoldings-from_follow (length (view x).0) (view x).0 (book_reads.takes bytes (view x).0 (view x).1 fits is).1.1
book_lawful view bytes (Err e) fits is = tt
