-- Balances where one account has another amount: what each account has, the supply, and what balances keep.
use Rattle.std.proofs.Common.{◌≡◌, ℕ, ◌+◌, ◌<◌, ◌≤◌, ◌^◌, ◌==◌, Bool, true, false, not, cond, List, [], ◌∷◌, refl, sym, ap, subst, ◌∙◌, arith}
use Rattle.std.specs.Prelude.{Option, Some, None, unwrap_or, if◌then◌else◌, IfSome, All}
use Rattle.std.specs.Ordering.{nat_cmp, eq_by_cmp}
use Rattle.std.proofs.lemmas.Bool.{eqb-true, ne_eqb}
use Rattle.std.specs.Cmp.Lexicographic.{slice_cmp, nat_list_cmp_total}
use Rattle.std.specs.FinMap.{get, insert, remove, entries, entries_sorted, entries-insert, get-entries, get-insert, get-remove, same_map, nat_cmp-IsAntisymmetric, slice_cmp-IsAntisymmetric, IsAntisymmetric}
use Rattle.std.specs.FinMap.Entries.{where_key}
use Rattle.std.proofs.lemmas.List.Elements.{All-from_recursion}
use Rattle.cell_names.specs.Accounts.{IsImplicit}
use Rattle.plain_ledger.specs.declared.holding.Holding.{Holding}
use Rattle.plain_ledger.specs.Ledger.{Balances, AreBalances, balance, supply, with_balance}
use Rattle.plain_ledger.proofs.Changing.{IsFunded, entries_funded, entries-changed, AreBalances-changed}
use Rattle.plain_transfers.proofs.Entries.{total, total_is, total-put, total-where_key, all-find, is_equal}

abbrev pub same_key : List ℕ → List ℕ → Bool
same_key x y = eq_by_cmp (slice_cmp nat_cmp) x y

pub keys_differ : IsAntisymmetric (slice_cmp nat_cmp)
keys_differ = slice_cmp-IsAntisymmetric nat_cmp-IsAntisymmetric

-- an amount as a map holds it
abbrev pub held : ℕ → Option ℕ
held n = if n == 0 then None else Some n

pub get-with_balance : (m : Balances) (a : List ℕ) (n : ℕ) (q : List ℕ) → get (with_balance m a n) q ≡ cond (same_key q a) (held n) (get m q)
get-with_balance m a n q =
    elim (n == 0) as (λ b. get (if b then remove m a else insert m a n) q ≡ cond (same_key q a) (if b then None else Some n) (get m q)) [
      | true ↦ get-remove nat_list_cmp_total m a q
      | false ↦ get-insert nat_list_cmp_total m a n q
    ]

entries-remove : (m : Balances) (a : List ℕ) → entries (remove m a) ≡ where_key (slice_cmp nat_cmp) (λ x. not (same_key a x)) (entries m)
entries-remove m a = entries-changed m (record { address = a; amount = 0 } ∷ [])

supply-remove : (m : Balances) (a : List ℕ) → supply (remove m a) + balance m a ≡ supply m
supply-remove m a =
    let rest = total-where_key nat_list_cmp_total a (entries m) (entries_sorted m) in
    let there = total_is (entries m) in
    let here = total_is (entries (remove m a)) ∙ ap total (entries-remove m a) in
    let found = ap (λ f. unwrap_or f 0) (get-entries m a) in
    omega (arith, rest, there, here, found)

supply-insert : (m : Balances) (a : List ℕ) (n : ℕ) → supply (insert m a n) + balance m a ≡ supply m + n
supply-insert m a n =
    let rest = total-put nat_list_cmp_total a n (entries m) (entries_sorted m) in
    let there = total_is (entries m) in
    let here = total_is (entries (insert m a n)) ∙ ap total (entries-insert nat_list_cmp_total m a n) in
    let found = ap (λ f. unwrap_or f 0) (get-entries m a) in
    omega (arith, rest, there, here, found)

-- the supply changes as the balance does
pub supply-with_balance : (m : Balances) (a : List ℕ) (n : ℕ) → supply (with_balance m a n) + balance m a ≡ supply m + n
supply-with_balance m a n =
    elim (n == 0) as (λ b. (n == 0) ≡ b → supply (if b then remove m a else insert m a n) + balance m a ≡ supply m + n) [
      | true ↦ λ zero. omega (arith, supply-remove m a, eqb-true n 0 zero)
      | false ↦ λ _. supply-insert m a n
    ] refl

-- no account has more than there is
pub balance-le-supply : (m : Balances) (a : List ℕ) → balance m a ≤ supply m
balance-le-supply m a = omega (arith, supply-remove m a)

-- balances of accounts stay that, while the supply does
pub AreBalances-with_balance : (m : Balances) (a : List ℕ) (n : ℕ) → IsImplicit a → AreBalances m → supply (with_balance m a n) < 2 ^ 63 → AreBalances (with_balance m a n)
AreBalances-with_balance m a n account lawful within =
    let change : Holding = record { address = a; amount = n } in
    let accounts : All (λ (c : Holding). IsImplicit c.address) (change ∷ []) = All-from_recursion (λ (c : Holding). IsImplicit c.address) (change ∷ []) (account, tt) in
    AreBalances-changed m (change ∷ []) lawful accounts within

held_again : (o : Option ℕ) → IfSome o (λ n. 0 < n) → held (unwrap_or o 0) ≡ o
held_again None above = refl
held_again (Some n) above = ap (λ b. if b then None else Some n) (ne_eqb n 0 (λ zero. omega (arith, zero)))

-- an account that is given what it has changes nothing
pub with_balance-same : (m : Balances) (a : List ℕ) → AreBalances m → with_balance m a (balance m a) ≡ m
with_balance-same m a lawful =
    let above : IfSome (get m a) (λ n. 0 < n) =
    subst (λ f. IfSome f (λ n. 0 < n)) (sym (get-entries m a)) (all-find (slice_cmp nat_cmp) IsFunded (λ n. 0 < n) (λ e h. h.1) a (entries m) (entries_funded m lawful)) in
    same_map nat_list_cmp_total keys_differ (with_balance m a (balance m a)) m
    (λ q. get-with_balance m a (balance m a) q
    ∙ elim (same_key q a) as (λ b. same_key q a ≡ b → cond b (held (balance m a)) (get m q) ≡ get m q) [
      | true ↦ λ tied. held_again (get m a) above ∙ ap (get m) (sym (keys_differ q a (is_equal _ tied)))
      | false ↦ λ _. refl
    ] refl)
