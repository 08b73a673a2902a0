-- Balances with changes written over them: what each account has, and what one more change does.
use Rattle.std.proofs.Common.{◌≡◌, ℕ, ◌==◌, Bool, true, false, cond, T, ◌&&◌, List, [], ◌∷◌, map, refl, sym, ap, subst, ◌∙◌}
use Rattle.std.specs.Prelude.{Option, Some, None, unwrap_or, if◌then◌else◌}
use Rattle.std.specs.Ordering.{nat_cmp, is_lt}
use Rattle.std.specs.Cmp.Lexicographic.{slice_cmp, nat_list_cmp_total}
use Rattle.std.specs.BTreeMap.{is_at}
use Rattle.std.specs.Cmp.{eq_by_cmp_equiv}
use Rattle.std.specs.List.{All, AllByRecursion}
use Rattle.std.specs.Bool.{passes}
use Rattle.std.proofs.lemmas.List.Elements.{All-from_recursion, recursion_from_All}
use Rattle.std.specs.List.Sorted.{IsStrictlySortedBy}
use Rattle.std.specs.declared.cmp.Ordering.TheVariants.{Less}
use Rattle.std.specs.Map.{lookup}
use Rattle.std.specs.FinMap.{get, same_map, find, is_sorted}
use Rattle.std.specs.FinMap.Entries.{below_all}
use Rattle.std.proofs.lemmas.Bool.{eqb-true}
use Rattle.std.proofs.lemmas.Map.Keys.{sorted_head, sorted_tail}
use Rattle.value_core.proofs.Bools.{left, right, true_of}
use Rattle.plain_ledger.specs.Ledger.{BalanceEntry, Balances, balance, with_balance, changed, pair, Ascends}
use Rattle.plain_ledger.specs.declared.holding.Holding.{Holding}
use Rattle.plain_transfers.specs.Changes.{over, holding_of}
use Rattle.plain_transfers.proofs.Entries.{below_tied, is_equal}
use Rattle.plain_transfers.proofs.Balances.{same_key, keys_differ, held, get-with_balance}

-- an amount that was written, or else what was there
abbrev pub written : Option ℕ → Option ℕ → Option ℕ
written None o = o
written (Some n) o = held n

cond-written : (b : Bool) (n : ℕ) (f o : Option ℕ) → cond b (held n) (written f o) ≡ written (cond b (Some n) f) o
cond-written true n f o = refl
cond-written false n f o = refl

pub get-over : (m : Balances) (es : List BalanceEntry) (q : List ℕ) → get (over m es) q ≡ written (find (slice_cmp nat_cmp) q es) (get m q)
get-over m [] q = refl
get-over m (e ∷ es) q = get-with_balance (over m es) e.0 e.1 q ∙ ap (cond (same_key q e.0) (held e.1)) (get-over m es q) ∙ cond-written (same_key q e.0) e.1 _ _

-- a look-up in an ordered map is one in its entries
pub lookup-find : (q : List ℕ) (es : List BalanceEntry) → lookup (is_at (slice_cmp nat_cmp q)) es ≡ find (slice_cmp nat_cmp) q es
lookup-find q [] = refl
lookup-find q (e ∷ es) = ap (cond (same_key q e.0) (Some e.1)) (lookup-find q es)

-- one more change is one more balance that is another
pub over-written : (m : Balances) (old new : List BalanceEntry) (a : List ℕ) (n : ℕ)
    → ((q : List ℕ) → lookup (is_at (slice_cmp nat_cmp q)) new ≡ cond (same_key a q) (Some n) (lookup (is_at (slice_cmp nat_cmp q)) old))
    → over m new ≡ with_balance (over m old) a n
over-written m old new a n updates =
    same_map nat_list_cmp_total keys_differ (over m new) (with_balance (over m old) a n)
    (λ q. get-over m new q
    ∙ ap (λ f. written f (get m q)) (sym (lookup-find q new) ∙ updates q ∙ ap (cond (same_key a q) (Some n)) (lookup-find q old))
    ∙ sym (cond-written (same_key a q) n (find (slice_cmp nat_cmp) q old) (get m q))
    ∙ ap (cond (same_key a q) (held n)) (sym (get-over m old q))
    ∙ ap (λ b. cond b (held n) (get (over m old) q)) ((eq_by_cmp_equiv nat_list_cmp_total).symm a q)
    ∙ sym (get-with_balance (over m old) a n q))

held-unwrap_or : (n : ℕ) → unwrap_or (held n) 0 ≡ n
held-unwrap_or n = elim (n == 0) as (λ b. (n == 0) ≡ b → unwrap_or (if b then None else Some n) 0 ≡ n) [ true ↦ λ e. sym (eqb-true n 0 e) | false ↦ λ _. refl ] refl

-- what an account has, where it changed and where it didn't
pub balance-over_some : (m : Balances) (es : List BalanceEntry) (a : List ℕ) (n : ℕ) → lookup (is_at (slice_cmp nat_cmp a)) es ≡ Some n → balance (over m es) a ≡ n
balance-over_some m es a n found =
    ap (λ o. unwrap_or o 0) (get-over m es a ∙ ap (λ f. written f (get m a)) (sym (lookup-find a es) ∙ found)) ∙ held-unwrap_or n

pub balance-over_none : (m : Balances) (es : List BalanceEntry) (a : List ℕ) → lookup (is_at (slice_cmp nat_cmp a)) es ≡ None → balance (over m es) a ≡ balance m a
balance-over_none m es a none =
    ap (λ o. unwrap_or o 0) (get-over m es a ∙ ap (λ f. written f (get m a)) (sym (lookup-find a es) ∙ none))

get-changed : (m : Balances) (hs : List Holding) (q : List ℕ) → T (is_sorted (slice_cmp nat_cmp) (map pair hs)) → get (changed m hs) q ≡ written (find (slice_cmp nat_cmp) q (map pair hs)) (get m q)
get-changed m [] q ordered = refl
get-changed m (h ∷ hs) q ordered =
    let rest = map pair hs in
    let later = right (below_all (slice_cmp nat_cmp) h.address rest) (is_sorted (slice_cmp nat_cmp) rest) ordered in
    let above = left (below_all (slice_cmp nat_cmp) h.address rest) (is_sorted (slice_cmp nat_cmp) rest) ordered in
    get-changed (with_balance m h.address h.amount) hs q later
    ∙ ap (written (find (slice_cmp nat_cmp) q rest)) (get-with_balance m h.address h.amount q)
    ∙ elim (same_key q h.address) as (λ b. same_key q h.address ≡ b → written (find (slice_cmp nat_cmp) q rest) (cond b (held h.amount) (get m q)) ≡ written (cond b (Some h.amount) (find (slice_cmp nat_cmp) q rest)) (get m q)) [
      | true ↦ λ tied. ap (λ f. written f (held h.amount)) (below_tied nat_list_cmp_total q h.address rest (is_equal _ tied) above)
      | false ↦ λ _. refl
    ] refl

-- changes in the order of their addresses may be made from the front or from the back
pub changed-over : (m : Balances) (hs : List Holding) → T (is_sorted (slice_cmp nat_cmp) (map pair hs)) → changed m hs ≡ over m (map pair hs)
changed-over m hs ordered =
    same_map nat_list_cmp_total keys_differ (changed m hs) (over m (map pair hs)) (λ q. get-changed m hs q ordered ∙ sym (get-over m (map pair hs) q))

below_from_keys : (k : List ℕ) (es : List BalanceEntry) → AllByRecursion (λ y. slice_cmp nat_cmp k y ≡ Less) (map (λ e. e.0) es) → T (below_all (slice_cmp nat_cmp) k es)
below_from_keys k [] all = tt
below_from_keys k (e ∷ es) all = subst (λ r. T (is_lt r && below_all (slice_cmp nat_cmp) k es)) (sym all.0) (below_from_keys k es all.1)

both : (a b : Bool) → T a → T b → T (a && b)
both true b h g = g
both false b h g = absurd h

-- the entries of an ordered map are in order
pub is_sorted_from_keys : (es : List BalanceEntry) → IsStrictlySortedBy (slice_cmp nat_cmp) (map (λ e. e.0) es) → T (is_sorted (slice_cmp nat_cmp) es)
is_sorted_from_keys [] ordered = tt
is_sorted_from_keys (e ∷ es) ordered =
    both _ _ (below_from_keys e.0 es (sorted_head (slice_cmp nat_cmp) e.0 (map (λ e. e.0) es) ordered))
    (is_sorted_from_keys es (sorted_tail (slice_cmp nat_cmp) e.0 (map (λ e. e.0) es) ordered))

pub pairs_of_holdings : (es : List BalanceEntry) → map pair (map holding_of es) ≡ es
pairs_of_holdings [] = refl
pairs_of_holdings (e ∷ es) = ap (λ l. e ∷ l) (pairs_of_holdings es)

-- the entries of an ordered map, as holdings, ascend
pub Ascends-holdings : (es : List BalanceEntry) → IsStrictlySortedBy (slice_cmp nat_cmp) (map (λ e. e.0) es) → Ascends (map holding_of es)
Ascends-holdings es ordered = subst (λ ps. is_sorted (slice_cmp nat_cmp) ps ≡ true) (sym (pairs_of_holdings es)) (true_of _ (is_sorted_from_keys es ordered))

pub over-holdings : (m : Balances) (es : List BalanceEntry) → Ascends (map holding_of es) → changed m (map holding_of es) ≡ over m es
over-holdings m es ascend = changed-over m (map holding_of es) (passes _ ascend) ∙ ap (over m) (pairs_of_holdings es)

all_holdings : (P : List ℕ → Type 0) (es : List BalanceEntry) → AllByRecursion P (map (λ e. e.0) es) → AllByRecursion (λ h. P h.address) (map holding_of es)
all_holdings P [] all = tt
all_holdings P (e ∷ es) all = (all.0, all_holdings P es all.1)

-- what holds of each key holds of each holding's address
pub All-holdings : (P : List ℕ → Type 0) (es : List BalanceEntry) → All P (map (λ e. e.0) es) → All (λ h. P h.address) (map holding_of es)
All-holdings P es all = All-from_recursion _ _ (all_holdings P es (recursion_from_All _ _ all))
