-- The rows of lawful lines: one more row, one more contract, and what was seen.
use Rattle.std.proofs.Common.{◌≡◌, ◌≢◌, ℕ, ◌+◌, ◌<◌, ◌^◌, Bool, true, false, cond, List, [], ◌∷◌, ◌++◌, length, Option, Some, None, Result, Ok, inl, inr, refl, sym, ap, subst, ◌∙◌, arith}
use Rattle.std.specs.Prelude.{◌||◌, map, not, sum, nat_le, is_some, if◌then◌else◌}
use Rattle.std.specs.declared.cmp.Ordering.{Ordering}
use Rattle.std.specs.declared.cmp.Ordering.TheVariants.{Less, Equal, Greater}
use Rattle.std.specs.Ordering.{eq_by_cmp, is_eq, nat_cmp}
use Rattle.std.specs.Cmp.Lexicographic.{nat_list_cmp_total, slice_cmp}
use Rattle.std.specs.FinMap.{IsAntisymmetric, contains_key, empty, entries, len-empty, len-entries, get, get-empty, get-insert, insert, nat_cmp-IsAntisymmetric, slice_cmp-IsAntisymmetric}
use Rattle.std.specs.FinSet as set
use Rattle.std.proofs.lemmas.Bool.{cases_lt, lt-leb}
use Rattle.value_core.proofs.Bools.{both_true, first_true, second_true}
use Rattle.value_core.specs.declared.val.Val.{Val}
use Rattle.michelson_code.specs.declared.script.Script.{Script}
use Rattle.cell_names.specs.declared.cell.Cell.{Cell}
use Rattle.cell_names.specs.declared.cell.Cell.TheVariants.{Balance, Storage, Entry}
use Rattle.cell_names.specs.Accounts.{is_implicit}
use Rattle.cell_names.specs.Cells.{cell_cmp}
use Rattle.cell_names.specs.Contents.{Contents}
use Rattle.cell_names.specs.Supply.{money_of, supply}
use Rattle.cell_names.proofs.Money.{supply-put}
use Rattle.cell_names.proofs.Puts.{get-put, one_from}
use Rattle.code_book.specs.Books.{Contracts, has_account}
use Rattle.code_book.specs.Fits.{fits, fits_storage, fits_entry, is_balance}
use Rattle.ledger_state.specs.declared.fault.BuildFault.{BuildFault}
use Rattle.ledger_state.specs.declared.fault.BuildFault.TheVariants.{Misfit, Twice, TooMuch}
use Rattle.ledger_state.specs.Building.{added, against, unless}
use Rattle.chain_text.specs.Standing.{Addresses}
use Rattle.chain_text.specs.Rows.{AreRows, IsSeen, Row, gathered}

-- the order of addresses
abbrev pub by_bytes : List ℕ → List ℕ → Ordering
by_bytes = slice_cmp nat_cmp

pub tie_of : (r : Ordering) → is_eq r ≡ true → r ≡ Equal
tie_of Less e = absurd cc
tie_of Equal e = refl
tie_of Greater e = absurd cc

pub ties : IsAntisymmetric by_bytes
ties = slice_cmp-IsAntisymmetric nat_cmp-IsAntisymmetric

-- ---- one row more

goes_on : {n : Contents} {x : Result Contents BuildFault} (why : Option BuildFault) (r s : Result Contents BuildFault) → (r ≡ Ok n → s ≡ x) → unless why r ≡ Ok n → unless why s ≡ x
goes_on None r s f e = f e
goes_on (Some fault) r s f e = absurd cc

added_then : (book : Contracts) (at : ℕ) (m n : Contents) (rows more : List Row) → added book at m rows ≡ Ok n → added book at m (rows ++ more) ≡ added book (at + length rows) n more
added_then book at m n [] more e =
    let same : m ≡ n = cc in
    let here : at ≡ at + 0 = omega arith in
    λ i. added book (here i) (same i) more
added_then book at m n ((c, v) ∷ rows) more e =
    let here : at + 1 + length rows ≡ at + length ((c, v) ∷ rows) = omega arith in
    goes_on (against book at m c v) (added book (at + 1) (insert m c v) rows) _
    (λ later. added_then book (at + 1) (insert m c v) n rows more later ∙ ap (λ (k : ℕ). added book k n more) here) e

pub gathered_then : (m : Contents) (rows more : List Row) → gathered m (rows ++ more) ≡ gathered (gathered m rows) more
gathered_then m [] more = refl
gathered_then m ((c, v) ∷ rows) more = gathered_then (insert m c v) rows more

-- by the three reasons against a row
abbrev reason : ℕ → Bool → Bool → Bool → Option BuildFault
reason at a b c = if not a then Some (Misfit at) else if b then Some (Twice at) else if c then Some (TooMuch at) else None

none_against : (book : Contracts) (at : ℕ) (m : Contents) (c : Cell) (v : Val) → fits book c v ≡ true → get m c ≡ None → supply m + money_of (c, v) < 2 ^ 63 → against book at m c v ≡ None
none_against book at m c v fit none few =
    let free : contains_key m c ≡ false = ap is_some none in
    let within : nat_le (2 ^ 63) (supply m + money_of (c, v)) ≡ false = lt-leb (2 ^ 63) (supply m + money_of (c, v)) few in
    λ i. reason at (fit i) (free i) (within i)

one_added : (book : Contracts) (m : Contents) (rows : List Row) (c : Cell) (v : Val) → added book 0 empty rows ≡ Ok m → fits book c v ≡ true → get m c ≡ None → supply m + money_of (c, v) < 2 ^ 63 →
    added book 0 empty (rows ++ (c, v) ∷ []) ≡ Ok (insert m c v)
one_added book m rows c v e fit none few =
    let at = 0 + length rows in
    let last : Result Contents BuildFault = Ok (insert m c v) in
    added_then book 0 empty m rows ((c, v) ∷ []) e ∙ ap (λ (why : Option BuildFault). unless why last) (none_against book at m c v fit none few)

-- ---- what stands in cells when one is put

pub put_elsewhere : (m : Contents) (c q : Cell) (v : Val) → q ≢ c → get (insert m c v) q ≡ get m q
put_elsewhere m c q v apart =
    elim (eq_by_cmp cell_cmp q c) as (λ b. eq_by_cmp cell_cmp q c ≡ b → get (insert m c v) q ≡ get m q) [
      | true ↦ λ tied. absurd (apart (one_from q c tied))
      | false ↦ λ no. get-put m c (Some v) q ∙ ap (λ (b : Bool). cond b (Some v) (get m q)) no
    ] refl

pub supply_put : (m : Contents) (c : Cell) (v : Val) → get m c ≡ None → supply (insert m c v) ≡ supply m + money_of (c, v)
supply_put m c v none =
    let all = supply-put m c (Some v) in
    let left = rw none at all in
    omega (arith, left)

still_none : (m : Contents) (c q : Cell) (v : Val) → q ≢ c → contains_key m q ≡ false → contains_key (insert m c v) q ≡ false
still_none m c q v apart none = ap is_some (put_elsewhere m c q v apart) ∙ none

never_seen : (b : Bool) → b ≡ true → b ≡ false → ⊥
never_seen b is other = let both : true ≡ false = sym is ∙ other in cc

-- a row more
pub row_more : (book : Contracts) (rows : List Row) (balanced stored : Addresses) (amount : ℕ) (c : Cell) (v : Val) (n more : ℕ) → AreRows book rows (gathered empty rows) balanced stored amount →
    fits book c v ≡ true → get (gathered empty rows) c ≡ None → IsSeen balanced stored c → n ≡ money_of (c, v) → (0 < n → supply (gathered empty rows) + n < 2 ^ 63) → more ≡ amount + n →
    AreRows book (rows ++ (c, v) ∷ []) (gathered empty (rows ++ (c, v) ∷ [])) balanced stored more
row_more book rows balanced stored amount c v n more are fit none seen is few total =
    let cells : Contents = gathered empty rows in
    let grown : gathered empty (rows ++ (c, v) ∷ []) ≡ insert cells c v = gathered_then empty rows ((c, v) ∷ []) in
    let money : supply cells ≡ amount = are.money in
    let all : supply (insert cells c v) ≡ supply cells + money_of (c, v) = supply_put cells c v none in
    let low : amount < 2 ^ 63 = are.within in
    let fits_in : more < 2 ^ 63 = elim (cases_lt 0 n) [ inl some ↦ let much = few some in omega arith | inr nothing ↦ omega arith ] in
    let put : AreRows book (rows ++ (c, v) ∷ []) (insert cells c v) balanced stored more = record {
      added = one_added book cells rows c v are.added fit none (omega arith);
      money = omega arith;
      within = fits_in;
      balances = λ a unseen. still_none cells c (Balance a) v (λ same. never_seen (set.contains balanced a) (subst (IsSeen balanced stored) (sym same) seen) unseen) (are.balances a unseen);
      storages = λ a unseen. still_none cells c (Storage a) v (λ same. never_seen (set.contains stored a) (subst (IsSeen balanced stored) (sym same) seen) unseen) (are.storages a unseen);
      entries = λ a place key unseen. still_none cells c (Entry a place key) v (λ same. never_seen (set.contains stored a) (subst (IsSeen balanced stored) (sym same) seen) unseen) (are.entries a place key unseen);
    } in
    subst (λ (m : Contents). AreRows book (rows ++ (c, v) ∷ []) m balanced stored more) (sym grown) put

-- ---- one contract more

or_kept : (x y z : Bool) → (y ≡ true → z ≡ true) → (x || y) ≡ true → (x || z) ≡ true
or_kept true y z f e = refl
or_kept false y z f e = f e

known_in : (o p : Option Script) (a b : List ℕ) (s : Script) (tied : Bool) → p ≡ cond tied (Some s) o → is_some o ≡ true → is_some p ≡ true
known_in o p a b s true is e = ap is_some is
known_in o p a b s false is e = ap is_some is ∙ e

module _ (book : Contracts) (a : List ℕ) (s : Script) (none : get book a ≡ None) where
  -- what the book has at an address, it has still
  same_code : (b : List ℕ) → is_some (get book b) ≡ true → get (insert book a s) b ≡ get book b
  same_code b known =
      elim (eq_by_cmp by_bytes b a) as (λ t. eq_by_cmp by_bytes b a ≡ t → get (insert book a s) b ≡ get book b) [
        | true ↦ λ tied. absurd (never_seen (is_some (get book b)) known (ap is_some (ap (get book) (ties b a (tie_of (by_bytes b a) tied)) ∙ none)))
        | false ↦ λ no. get-insert nat_list_cmp_total book a s b ∙ ap (λ (t : Bool). cond t (Some s) (get book b)) no
      ] refl

  by_code : (f : Option Script → Bool) (b : List ℕ) → f None ≡ false → f (get book b) ≡ true → f (get (insert book a s) b) ≡ true
  by_code f b never holds = at (get book b) refl
    where
      at : (o : Option Script) → get book b ≡ o → f (get (insert book a s) b) ≡ true
      at None is = absurd (never_seen (f (get book b)) holds (ap f is ∙ never))
      at (Some x) is = ap f (same_code b (ap is_some is)) ∙ holds

  fits_still : (c : Cell) (v : Val) → fits book c v ≡ true → fits (insert book a s) c v ≡ true
  fits_still (Balance b) v fit =
      both_true (has_account (insert book a s) b) (is_balance v)
      (or_kept (is_implicit b) (contains_key book b) (contains_key (insert book a s) b) (λ known. ap is_some (same_code b known) ∙ known) (first_true (has_account book b) (is_balance v) fit))
      (second_true (has_account book b) (is_balance v) fit)
  fits_still (Storage b) v fit = by_code (λ o. fits_storage o v) b refl fit
  fits_still (Entry b place key) v fit = by_code (λ o. fits_entry o place key v) b refl fit

  added_still : (at : ℕ) (m n : Contents) (rows : List Row) → added book at m rows ≡ Ok n → added (insert book a s) at m rows ≡ Ok n
  added_still at m n [] e = e
  added_still at m n ((c, v) ∷ rows) e = by_why (fits book c v) (fits (insert book a s) c v) (fits_still c v) (added_still (at + 1) (insert m c v) n rows) e
    where
      by_why : (b d : Bool) → (b ≡ true → d ≡ true) → (added book (at + 1) (insert m c v) rows ≡ Ok n → added (insert book a s) (at + 1) (insert m c v) rows ≡ Ok n) →
          unless (reason at b (contains_key m c) (nat_le (2 ^ 63) (supply m + money_of (c, v)))) (added book (at + 1) (insert m c v) rows) ≡ Ok n →
          unless (reason at d (contains_key m c) (nat_le (2 ^ 63) (supply m + money_of (c, v)))) (added (insert book a s) (at + 1) (insert m c v) rows) ≡ Ok n
      by_why true d keeps later e = rw (keeps refl) (goes_on (reason at true (contains_key m c) (nat_le (2 ^ 63) (supply m + money_of (c, v)))) _ _ later e)
      by_why false d keeps later e = absurd cc

  pub contract_more : (rows : List Row) (cells : Contents) (balanced stored : Addresses) (amount : ℕ) → AreRows book rows cells balanced stored amount → AreRows (insert book a s) rows cells balanced stored amount
  contract_more rows cells balanced stored amount are = record {
    added = added_still 0 empty cells rows are.added;
    money = are.money;
    within = are.within;
    balances = are.balances;
    storages = are.storages;
    entries = are.entries;
  }

-- ---- one address more

unseen_before : (x y : Bool) → (x || y) ≡ false → y ≡ false
unseen_before true y e = absurd cc
unseen_before false y e = e

marked : (seen : Addresses) (a b : List ℕ) → set.contains (set.insert seen a) b ≡ false → set.contains seen b ≡ false
marked seen a b unseen = unseen_before (eq_by_cmp by_bytes b a) (set.contains seen b) (sym (set.contains-insert nat_list_cmp_total seen a b) ∙ unseen)

pub balance_seen : (book : Contracts) (rows : List Row) (cells : Contents) (balanced stored : Addresses) (amount : ℕ) (a : List ℕ) → AreRows book rows cells balanced stored amount → AreRows book rows cells (set.insert balanced a) stored amount
balance_seen book rows cells balanced stored amount a are = record {
  added = are.added;
  money = are.money;
  within = are.within;
  balances = λ b unseen. are.balances b (marked balanced a b unseen);
  storages = are.storages;
  entries = are.entries;
}

pub storage_seen : (book : Contracts) (rows : List Row) (cells : Contents) (balanced stored : Addresses) (amount : ℕ) (a : List ℕ) → AreRows book rows cells balanced stored amount → AreRows book rows cells balanced (set.insert stored a) amount
storage_seen book rows cells balanced stored amount a are = record {
  added = are.added;
  money = are.money;
  within = are.within;
  balances = are.balances;
  storages = λ b unseen. are.storages b (marked stored a b unseen);
  entries = λ b place key unseen. are.entries b place key (marked stored a b unseen);
}

-- ---- before the first line

nothing_in : (m : Contents) → entries m ≡ [] → supply m ≡ 0
nothing_in m none = ap (λ (es : List Row). sum (map money_of es)) none

no_rows_in : (es : List Row) → length es ≡ 0 → es ≡ []
no_rows_in [] e = refl
no_rows_in (x ∷ es) e = absurd (omega arith)

none_in : entries (empty {X = Val} {R = cell_cmp}) ≡ []
none_in = no_rows_in (entries (empty {X = Val} {R = cell_cmp})) (sym (len-entries (empty {X = Val} {R = cell_cmp})) ∙ len-empty cell_cmp Val)

pub no_rows : (book : Contracts) (balanced stored : Addresses) (rows : List Row) → rows ≡ [] → AreRows book rows (gathered empty rows) balanced stored 0
no_rows book balanced stored rows none = subst (λ (x : List Row). AreRows book x (gathered empty x) balanced stored 0) (sym none) (record {
  added = refl;
  money = nothing_in empty none_in;
  within = omega arith;
  balances = λ a unseen. ap is_some (get-empty cell_cmp (Balance a));
  storages = λ a unseen. ap is_some (get-empty cell_cmp (Storage a));
  entries = λ a place key unseen. ap is_some (get-empty cell_cmp (Entry a place key));
})
