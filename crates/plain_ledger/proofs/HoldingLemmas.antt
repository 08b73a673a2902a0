-- Holdings as entries: where an address stands among them, and what changes leave of them.
use Rattle.std.proofs.Common.{◌≡◌, ℕ, zero, suc, ◌+◌, ◌<◌, ◌≤◌, Bool, true, false, cond, eqb, ◌^◌, List, [], ◌∷◌, ◌++◌, length, get_or, take, drop, None, refl, sym, ap, subst, ◌∙◌, append_assoc, add-one, drop-cons, arith}
use Rattle.std.specs.Prelude.{IsTrue, not, ◌&&◌, map, bytes_eq, unwrap_or, All}
use Rattle.std.proofs.lemmas.List.{get_or-drop, get_or-take, length-take, length-drop, drop-map, take-append-drop, map-append}
use Rattle.std.proofs.Math.ListN.{drop_of_length-le}
use Rattle.std.proofs.lemmas.Bool.{eqb-true}
use Rattle.std.proofs.lemmas.List.Sums.{list_all-from_AllPass}
use Rattle.std.proofs.lemmas.List.Folds.{list_all-map}
use Rattle.std.proofs.lemmas.Map.Text.{is_eq-slice_cmp}
use Rattle.std.specs.declared.cmp.Ordering.TheVariants.{Less, Equal, Greater}
use Rattle.std.specs.Ordering.{is_lt, is_eq, ordering_reverse}
use Rattle.std.specs.Cmp.{tied_back}
use Rattle.std.specs.List.{list_all}
use Rattle.std.specs.List.Sorted.{IsPartitionedBy, IsPartitionPoint}
use Rattle.std.specs.FinMap.{entries, entries_sorted, same_entries_map, find, is_sorted, entries-from_sorted, get-from_sorted}
use Rattle.std.specs.FinMap.Entries.{below_all}
use Rattle.value_core.proofs.PlaceLemmas.{is_Less}
use Rattle.value_core.proofs.Bools.{T_of, first_true, second_true, true_of}
use Rattle.cell_names.specs.Accounts.{IsImplicit}
use Rattle.plain_ledger.specs.declared.holding.Holding.{Holding}
use Rattle.plain_ledger.specs.Ledger.{Ledger, Balances, BalanceEntry, AreBalances, Ascends, pair, balance, changed, supply}
use Rattle.plain_ledger.specs.Holdings.{AreHoldings, balances_of, ledger_from, first_amount, is_below, is_not_below, kept, without}
use Rattle.plain_ledger.proofs.Ascending.{below_all_less, are_below, find_past, is_sorted-drop}
use Rattle.plain_ledger.proofs.Changing.{R, o, set_all, set_all_step, kept_cell, without_cell, none_below, entries-changed, AreBalances-changed}

pub entries-balances_of : (hs : List Holding) → Ascends hs → entries (balances_of hs) ≡ map pair hs
entries-balances_of hs h = entries-from_sorted R (map pair hs) (T_of _ h)

pub Ascends-drop : (n : ℕ) (hs : List Holding) → Ascends hs → Ascends (drop n hs)
Ascends-drop n hs s = ap (is_sorted R) (sym (drop-map pair n hs)) ∙ is_sorted-drop o n (map pair hs) s

-- ---- equal states

abbrev pub unpair : List ℕ × ℕ → Holding
unpair e = record { address = e.0; amount = e.1 }

pub holdings_back : (hs : List Holding) → map unpair (map pair hs) ≡ hs
holdings_back [] = refl
holdings_back (h ∷ hs) = ap (λ hs. h ∷ hs) (holdings_back hs)

same_balances : (hs ks : List Holding) → Ascends hs → Ascends ks → balances_of hs ≡ balances_of ks → hs ≡ ks
same_balances hs ks s t e =
    let pairs : map pair hs ≡ map pair ks = sym (entries-balances_of hs s) ∙ ap entries e ∙ entries-balances_of ks t in
    sym (holdings_back hs) ∙ ap (map unpair) pairs ∙ holdings_back ks

pub same_with : (b : Bool) (xs ys hs ks : List Holding) → xs ≡ hs → ys ≡ ks → (b ≡ true → xs ≡ ys) × (xs ≡ ys → b ≡ true) → (b ≡ true → hs ≡ ks) × (hs ≡ ks → b ≡ true)
same_with b xs ys hs ks x y same = ((λ h. sym x ∙ same.0 h ∙ y), (λ h. same.1 (x ∙ h ∙ sym y)))

pub same_ledgers : (level now level' now' : ℕ) (hs ks : List Holding) (heads b : Bool) (s t : Ledger) → ledger_from level now hs ≡ s → ledger_from level' now' ks ≡ t →
    heads ≡ true → heads ≡ (eqb level level' && eqb now now') → Ascends hs → Ascends ks → (b ≡ true → hs ≡ ks) × (hs ≡ ks → b ≡ true) → (b ≡ true → s ≡ t) × (s ≡ t → b ≡ true)
same_ledgers level now level' now' hs ks heads b s t is is' e heads-is a a' same =
    let both : (eqb level level' && eqb now now') ≡ true = sym heads-is ∙ e in
    let levels : level ≡ level' = eqb-true level level' (first_true _ _ both) in
    let times : now ≡ now' = eqb-true now now' (second_true _ _ both) in
    ((λ h. sym is ∙ rw (levels, times, same.0 h) refl ∙ is'), (λ h. same.1 (same_balances hs ks a a' (ap (λ (l : Ledger). l.balances) (is ∙ h ∙ sym is')))))

-- ---- where an address stands

less_at : (k : List ℕ) (hs : List Holding) (j : ℕ) (d : Holding) → below_all R k (map pair hs) ≡ true → j < length hs → R k (get_or hs j d).address ≡ Less
less_at k [] j d h lt = absurd (omega arith)
less_at k (x ∷ hs) zero d h lt = is_Less _ (first_true _ _ h)
less_at k (x ∷ hs) (suc j) d h lt = less_at k hs j d (second_true _ _ h) (omega arith)

pub below_is_partitioned : (a : List ℕ) (hs : List Holding) → Ascends hs → IsPartitionedBy (is_below a) hs
below_is_partitioned a [] s i j d le lt p = absurd (omega arith)
below_is_partitioned a (x ∷ hs) s zero zero d le lt p = p
below_is_partitioned a (x ∷ hs) s zero (suc j) d le lt p =
    let step : R x.address (get_or hs j d).address ≡ Less = less_at x.address hs j d (first_true _ _ s) (omega arith) in
    ap is_lt (o.trans x.address (get_or hs j d).address a step (is_Less _ p))
below_is_partitioned a (x ∷ hs) s (suc i) zero d le lt p = absurd (omega arith)
below_is_partitioned a (x ∷ hs) s (suc i) (suc j) d le lt p = below_is_partitioned a hs (second_true _ _ s) i j d (omega arith) (omega arith) p

pub below_in_front : (a : List ℕ) (hs : List Holding) (n : ℕ) → n ≤ length hs → IsPartitionPoint (λ h. is_below a h ≡ true) (λ h. is_below a h ≡ false) hs n → IsTrue (list_all (is_below a) (take n hs))
below_in_front a hs n le p =
    list_all-from_AllPass (is_below a) (take n hs) (λ k d lt.
    let short : k < n = omega (arith, length-take n hs) in
    subst (λ h. is_below a h ≡ true) (sym (get_or-take n hs k d short)) (p.0 k d (omega arith) short))

pub none_behind : (a : List ℕ) (hs : List Holding) (n : ℕ) → n ≤ length hs → IsPartitionPoint (λ h. is_below a h ≡ true) (λ h. is_below a h ≡ false) hs n → IsTrue (list_all (is_not_below a) (drop n hs))
none_behind a hs n le p =
    list_all-from_AllPass (is_not_below a) (drop n hs) (λ k d lt.
    let short : n + k < length hs = omega (arith, length-drop n hs) in
    subst (λ h. is_not_below a h ≡ true) (sym (get_or-drop n hs k d)) (ap not (p.1 (n + k) d (omega arith) short)))

-- ---- what an account has

-- a balance, by the first holding from the account's place on
balance_behind : (hs : List Holding) (a : List ℕ) (n : ℕ) → Ascends hs → IsTrue (list_all (is_below a) (take n hs)) → balance (balances_of hs) a ≡ unwrap_or (find R a (map pair (drop n hs))) 0
balance_behind hs a n s f =
    let front : are_below o a (map pair (take n hs)) ≡ true = list_all-map (λ e. is_lt (R e.0 a)) pair (take n hs) ∙ f in
    let parts : map pair hs ≡ map pair (take n hs) ++ map pair (drop n hs) = ap (map pair) (sym (take-append-drop n hs)) ∙ map-append pair (take n hs) (drop n hs) in
    ap (λ x. unwrap_or x 0) (get-from_sorted R (map pair hs) a (T_of _ s) ∙ ap (find R a) parts ∙ find_past o a (map pair (take n hs)) (map pair (drop n hs)) front)

find_above : (a : List ℕ) (hs : List Holding) → below_all R a (map pair hs) ≡ true → find R a (map pair hs) ≡ None
find_above a [] h = refl
find_above a (x ∷ hs) h =
    let here : R a x.address ≡ Less = is_Less _ (first_true _ _ h) in
    rw here (find_above a hs (second_true _ _ h))

balance_here : (a : List ℕ) (hs : List Holding) → Ascends hs → IsTrue (list_all (is_not_below a) hs) → unwrap_or (find R a (map pair hs)) 0 ≡ first_amount a hs
balance_here a [] s f = refl
balance_here a (x ∷ hs) s f =
    elim (R x.address a) as (λ r. R x.address a ≡ r → not (is_lt r) ≡ true → unwrap_or (find R a (map pair (x ∷ hs))) 0 ≡ first_amount a (x ∷ hs)) [
      | Less ↦ λ is n. absurd cc
      | Equal ↦ λ is n.
          let back : R a x.address ≡ Equal = tied_back o x.address a is in
          let same : bytes_eq x.address a ≡ true = sym (is_eq-slice_cmp x.address a) ∙ ap is_eq is in
          rw (back, same) refl
      | Greater ↦ λ is n.
          let back : R a x.address ≡ Less = o.antisymm a x.address ∙ ap ordering_reverse is in
          let apart : bytes_eq x.address a ≡ false = sym (is_eq-slice_cmp x.address a) ∙ ap is_eq is in
          rw (back, apart) (ap (λ x. unwrap_or x 0) (find_above a hs (below_all_less o a x.address (map pair hs) back (first_true _ _ s))))
    ] refl (first_true _ _ f)

pub balance_is : (hs : List Holding) (a : List ℕ) (n : ℕ) → Ascends hs → IsTrue (list_all (is_below a) (take n hs)) → IsTrue (list_all (is_not_below a) (drop n hs)) → first_amount a (drop n hs) ≡ balance (balances_of hs) a
balance_is hs a n s f g = sym (balance_behind hs a n s f ∙ balance_here a (drop n hs) (Ascends-drop n hs s) g)

-- ---- what changes leave

pub pairs-kept : (c : Holding) → map pair (kept c) ≡ kept_cell (pair c)
pairs-kept c = elim (eqb c.amount 0) as (λ b. map pair (cond b [] (c ∷ [])) ≡ cond b [] (pair c ∷ [])) [ true ↦ refl | false ↦ refl ]

pub pairs-without : (a : List ℕ) (hs : List Holding) → map pair (without a hs) ≡ without_cell a (map pair hs)
pairs-without a [] = refl
pairs-without a (h ∷ hs) =
    rw is_eq-slice_cmp (elim (bytes_eq h.address a) as (λ b. map pair (cond b hs (h ∷ hs)) ≡ cond b (map pair hs) (pair h ∷ map pair hs)) [ true ↦ refl | false ↦ refl ])

pub Ascends-without : (a : List ℕ) (hs : List Holding) → Ascends hs → Ascends (without a hs)
Ascends-without a [] s = s
Ascends-without a (h ∷ hs) s = elim (bytes_eq h.address a) as (λ b. Ascends (cond b hs (h ∷ hs))) [ true ↦ second_true _ _ s | false ↦ s ]

-- one change more
pub merged_step : (out front back hs changes : List Holding) (c d : Holding) (i n : ℕ) (rest : List Holding) → Ascends rest → Ascends changes → i < length changes → c ≡ get_or changes i d → front ≡ take n rest → back ≡ drop n rest →
    IsTrue (list_all (is_below c.address) (take n rest)) → IsTrue (list_all (is_not_below c.address) (drop n rest)) →
    map pair out ++ set_all (map pair rest) (map pair (drop i changes)) ≡ set_all (map pair hs) (map pair changes) →
    map pair ((out ++ front) ++ kept c) ++ set_all (map pair (without c.address back)) (map pair (drop (i + 1) changes)) ≡ set_all (map pair hs) (map pair changes)
merged_step out front back hs changes c d i n rest s t lt is f b below above so_far =
    let later : List BalanceEntry = map pair (drop (i + 1) changes) in
    let head : drop i changes ≡ c ∷ drop (i + 1) changes = rw (is, add-one) (drop-cons changes i d lt) in
    let back_ascends : is_sorted R (map pair back) ≡ true = subst Ascends (sym b) (Ascends-drop n rest s) in
    let changes_ascend : is_sorted R (pair c ∷ later) ≡ true = subst Ascends head (Ascends-drop i changes t) in
    let is_front : are_below o c.address (map pair front) ≡ true =
    list_all-map (λ e. is_lt (R e.0 c.address)) pair front ∙ subst (λ hs. list_all (is_below c.address) hs ≡ true) (sym f) below in
    let is_back : none_below c.address (map pair back) ≡ true =
    list_all-map (λ e. not (is_lt (R e.0 c.address))) pair back ∙ subst (λ hs. list_all (is_not_below c.address) hs ≡ true) (sym b) above in
    let parts : map pair rest ≡ map pair front ++ map pair back =
    rw (f, b) (ap (map pair) (sym (take-append-drop n rest)) ∙ map-append pair (take n rest) (drop n rest)) in
    let step : set_all (map pair rest) (map pair (drop i changes)) ≡ map pair front ++ (kept_cell (pair c) ++ set_all (without_cell c.address (map pair back)) later) =
    ap (λ cs. set_all (map pair rest) (map pair cs)) head ∙ ap (λ es. set_all es (pair c ∷ later)) parts
    ∙ set_all_step (map pair front) (map pair back) later (pair c) back_ascends changes_ascend is_front is_back in
    let shape : map pair ((out ++ front) ++ kept c) ++ set_all (map pair (without c.address back)) later ≡ map pair out ++ (map pair front ++ (kept_cell (pair c) ++ set_all (without_cell c.address (map pair back)) later)) =
    rw (pairs-without c.address back) (simp (map-append, append_assoc, pairs-kept)) in
    shape ∙ ap (λ es. map pair out ++ es) (sym step) ∙ so_far

-- no change is left
pub merged_end : (out rest hs changes : List Holding) (i : ℕ) → Ascends hs → length changes ≤ i → map pair out ++ set_all (map pair rest) (map pair (drop i changes)) ≡ set_all (map pair hs) (map pair changes) →
    map pair (out ++ rest) ≡ entries (changed (balances_of hs) changes)
merged_end out rest hs changes i s le so_far =
    let none : drop i changes ≡ [] = drop_of_length-le changes le in
    map-append pair out rest ∙ ap (λ cs. map pair out ++ set_all (map pair rest) (map pair cs)) (sym none) ∙ so_far
    ∙ ap (λ es. set_all es (map pair changes)) (sym (entries-balances_of hs s)) ∙ sym (entries-changed (balances_of hs) changes)

-- ---- holdings whose pairs are these balances

pub balances_are : (hs : List Holding) (m : Balances) → map pair hs ≡ entries m → Ascends hs × (balances_of hs ≡ m)
balances_are hs m e =
    let ascend : Ascends hs = ap (is_sorted R) e ∙ true_of _ (entries_sorted m) in
    (ascend, same_entries_map (balances_of hs) m (entries-balances_of hs ascend ∙ e))

pub AreHoldings-from : (hs : List Holding) (m : Balances) → map pair hs ≡ entries m → AreBalances m → AreHoldings hs
AreHoldings-from hs m e h = let are = balances_are hs m e in record { ascend = are.0; lawful = subst AreBalances (sym are.1) h }

pub AreHoldings-merged : (out hs changes : List Holding) (m : Balances) → map pair out ≡ entries (changed (balances_of hs) changes) → balances_of hs ≡ m → AreBalances (balances_of hs) →
    All (λ (c : Holding). IsImplicit c.address) changes → supply (changed m changes) < 2 ^ 63 → AreHoldings out
AreHoldings-merged out hs changes m e is h a s =
    AreHoldings-from out (changed (balances_of hs) changes) e
    (AreBalances-changed (balances_of hs) changes h a (subst (λ m. supply (changed m changes) < 2 ^ 63) (sym is) s))
