-- What changed balances are, as entries.
use Rattle.std.proofs.Common.{◌≡◌, ℕ, ◌<◌, Bool, true, false, cond, eqb, ◌^◌, List, [], ◌∷◌, ◌++◌, Ordering, None, refl, sym, ap, subst, ◌∙◌, arith}
use Rattle.std.specs.Prelude.{not, T, map, All, ◌≢◌}
use Rattle.std.specs.declared.cmp.Ordering.TheVariants.{Less, Equal, Greater}
use Rattle.std.specs.Ordering.{is_lt, is_eq, nat_cmp, ordering_reverse, eq_by_cmp}
use Rattle.std.specs.List.{list_all, AllByRecursion}
use Rattle.std.specs.Cmp.{IsTotalOrder, alike_right, eq_by_cmp_equiv, tied_back}
use Rattle.std.specs.Cmp.Lexicographic.{slice_cmp, nat_list_cmp_total}
use Rattle.std.specs.FinMap.{keys, values, get, insert, remove, entries, from_sorted, is_sorted, put, IsAntisymmetric, slice_cmp-IsAntisymmetric, nat_cmp-IsAntisymmetric, same_map, get-remove, get-entries, get-from_sorted, entries_sorted, entries-insert, entries-from_sorted}
use Rattle.std.specs.FinMap.Entries.{below_all, where_key, by_order, is_sorted-where_key, find-where_key}
use Rattle.value_core.proofs.Bools.{both_true, first_true, second_true}
use Rattle.value_core.proofs.PlaceLemmas.{is_Less}
use Rattle.cell_names.specs.Accounts.{IsImplicit}
use Rattle.plain_ledger.specs.declared.holding.Holding.{Holding}
use Rattle.plain_ledger.specs.Ledger.{Balances, BalanceEntry, AreBalances, with_balance, changed, supply, pair}
use Rattle.std.proofs.lemmas.Bool.{eqb-false}
use Rattle.std.proofs.lemmas.List.Elements.{All-from_recursion, recursion_from_All}
use Rattle.plain_ledger.proofs.Ascending.{greater_is, below_all_less, are_below, are_before, are_before-next}

abbrev pub R : List ℕ → List ℕ → Ordering
R = slice_cmp nat_cmp

pub o : IsTotalOrder R
o = nat_list_cmp_total

pub same : IsAntisymmetric R
same = slice_cmp-IsAntisymmetric nat_cmp-IsAntisymmetric

-- whether a key is another than this one
abbrev other : List ℕ → List ℕ → Bool
other k x = not (eq_by_cmp R k x)

-- one account set among entries
abbrev pub set : BalanceEntry → List BalanceEntry → List BalanceEntry
set c es = cond (eqb c.1 0) (where_key R (other c.0) es) (put R c.0 c.1 es)

abbrev pub set_all : List BalanceEntry → List BalanceEntry → List BalanceEntry
set_all es [] = es
set_all es (c ∷ cs) = set_all (set c es) cs

-- ---- what they are of balances

turned : {A : Type 0} (b : Bool) (x y : A) → cond (not b) x y ≡ cond b y x
turned true x y = refl
turned false x y = refl

entries-remove : (m : Balances) (k : List ℕ) → entries (remove m k) ≡ where_key R (other k) (entries m)
entries-remove m k =
    let left : List BalanceEntry = where_key R (other k) (entries m) in
    let sorted : T (is_sorted R left) = is_sorted-where_key R (other k) (entries m) (entries_sorted m) in
    let is : remove m k ≡ from_sorted left =
    same_map o same (remove m k) (from_sorted left) (λ q.
    get-remove o m k q
    ∙ ap (λ b. cond b None (get m q)) ((eq_by_cmp_equiv o).symm q k)
    ∙ sym (turned (eq_by_cmp R k q) (get m q) None)
    ∙ ap (λ x. cond (other k q) x None) (get-entries m q)
    ∙ sym (find-where_key R (other k) q (λ x t. ap (λ r. not (is_eq r)) (sym (alike_right o q x k t))) (entries m))
    ∙ sym (get-from_sorted R left q sorted)) in
    ap entries is ∙ entries-from_sorted R left sorted

entries-with_balance : (m : Balances) (k : List ℕ) (n : ℕ) → entries (with_balance m k n) ≡ set (k, n) (entries m)
entries-with_balance m k n =
    elim (eqb n 0) as (λ b. entries (cond b (remove m k) (insert m k n)) ≡ cond b (where_key R (other k) (entries m)) (put R k n (entries m))) [
      | true ↦ entries-remove m k
      | false ↦ entries-insert o m k n
    ]

pub entries-changed : (m : Balances) (cs : List Holding) → entries (changed m cs) ≡ set_all (entries m) (map pair cs)
entries-changed m [] = refl
entries-changed m (c ∷ cs) = entries-changed (with_balance m c.address c.amount) cs ∙ ap (λ es. set_all es (map pair cs)) (entries-with_balance m c.address c.amount)

-- ---- past what stands in front

put-append : (k : List ℕ) (v : ℕ) (front back : List BalanceEntry) → are_below o k front ≡ true → put R k v (front ++ back) ≡ front ++ put R k v back
put-append k v [] back h = refl
put-append k v (e ∷ front) back h =
    let here : R k e.0 ≡ Greater = greater_is o e.0 k (is_Less (R e.0 k) (first_true _ _ h)) in
    rw here (ap (λ es. e ∷ es) (put-append k v front back (second_true _ _ h)))

where_key-append : (k : List ℕ) (front back : List BalanceEntry) → are_below o k front ≡ true → where_key R (other k) (front ++ back) ≡ front ++ where_key R (other k) back
where_key-append k [] back h = refl
where_key-append k (e ∷ front) back h =
    let here : R k e.0 ≡ Greater = greater_is o e.0 k (is_Less (R e.0 k) (first_true _ _ h)) in
    rw here (ap (λ es. e ∷ es) (where_key-append k front back (second_true _ _ h)))

set-append : (c : BalanceEntry) (front back : List BalanceEntry) → are_below o c.0 front ≡ true → set c (front ++ back) ≡ front ++ set c back
set-append c front back h =
    elim (eqb c.1 0) as (λ b. cond b (where_key R (other c.0) (front ++ back)) (put R c.0 c.1 (front ++ back)) ≡ front ++ cond b (where_key R (other c.0) back) (put R c.0 c.1 back)) [
      | true ↦ where_key-append c.0 front back h
      | false ↦ put-append c.0 c.1 front back h
    ]

set_all-append : (front back cs : List BalanceEntry) → are_before o front cs ≡ true → set_all (front ++ back) cs ≡ front ++ set_all back cs
set_all-append front back [] h = refl
set_all-append front back (c ∷ cs) h =
    ap (λ es. set_all es cs) (set-append c front back (first_true _ _ h)) ∙ set_all-append front (set c back) cs (second_true _ _ h)

-- ---- at its place

-- an entry of 0 is no entry
abbrev pub kept_cell : BalanceEntry → List BalanceEntry
kept_cell c = cond (eqb c.1 0) [] (c ∷ [])

-- without the first entry, where that is the key's
abbrev pub without_cell : List ℕ → List BalanceEntry → List BalanceEntry
without_cell k [] = []
without_cell k (e ∷ es) = cond (is_eq (R e.0 k)) es (e ∷ es)

where_key-all : (k : List ℕ) (es : List BalanceEntry) → below_all R k es ≡ true → where_key R (other k) es ≡ es
where_key-all k [] h = refl
where_key-all k (e ∷ es) h =
    let here : R k e.0 ≡ Less = is_Less (R k e.0) (first_true _ _ h) in
    rw here (ap (λ es. e ∷ es) (where_key-all k es (second_true _ _ h)))

-- whether no entry stands below the key
abbrev pub none_below : List ℕ → List BalanceEntry → Bool
none_below k es = list_all (λ e. not (is_lt (R e.0 k))) es

set_at_tie : (c e : BalanceEntry) (es : List BalanceEntry) → e.0 ≡ c.0 → below_all R e.0 es ≡ true → R c.0 e.0 ≡ Equal → set c (e ∷ es) ≡ kept_cell c ++ es
set_at_tie c e es is h tie =
    let rest : where_key R (other c.0) es ≡ es = where_key-all c.0 es (subst (λ k. below_all R k es ≡ true) is h) in
    elim (eqb c.1 0) as (λ b. cond b (where_key R (other c.0) (e ∷ es)) (put R c.0 c.1 (e ∷ es)) ≡ cond b [] (c ∷ []) ++ es) [
      | true ↦ rw tie rest
      | false ↦ rw tie (ap (λ (k : List ℕ). (k, c.1) ∷ es) is)
    ]

set_below : (c e : BalanceEntry) (es : List BalanceEntry) → below_all R e.0 es ≡ true → R c.0 e.0 ≡ Less → set c (e ∷ es) ≡ kept_cell c ++ e ∷ es
set_below c e es h less =
    let rest : where_key R (other c.0) es ≡ es = where_key-all c.0 es (below_all_less o c.0 e.0 es less h) in
    elim (eqb c.1 0) as (λ b. cond b (where_key R (other c.0) (e ∷ es)) (put R c.0 c.1 (e ∷ es)) ≡ cond b [] (c ∷ []) ++ e ∷ es) [
      | true ↦ rw less (ap (λ es. e ∷ es) rest)
      | false ↦ rw less refl
    ]

set_here : (c : BalanceEntry) (back : List BalanceEntry) → is_sorted R back ≡ true → none_below c.0 back ≡ true → set c back ≡ kept_cell c ++ without_cell c.0 back
set_here c [] s h = elim (eqb c.1 0) as (λ b. cond b [] ((c.0, c.1) ∷ []) ≡ cond b [] (c ∷ []) ++ []) [ true ↦ refl | false ↦ refl ]
set_here c (e ∷ es) s h =
    elim (R e.0 c.0) as (λ r. R e.0 c.0 ≡ r → not (is_lt r) ≡ true → set c (e ∷ es) ≡ kept_cell c ++ cond (is_eq r) es (e ∷ es)) [
      | Less ↦ λ is n. absurd cc
      | Equal ↦ λ is n. set_at_tie c e es (same e.0 c.0 is) (first_true _ _ s) (tied_back o e.0 c.0 is)
      | Greater ↦ λ is n. set_below c e es (first_true _ _ s) (o.antisymm c.0 e.0 ∙ ap ordering_reverse is)
    ] refl (first_true _ _ h)

are_before-kept : (c : BalanceEntry) (cs : List BalanceEntry) → below_all R c.0 cs ≡ true → are_before o (kept_cell c) cs ≡ true
are_before-kept c [] h = refl
are_before-kept c (d ∷ cs) h =
    both_true _ _
    (elim (eqb c.1 0) as (λ b. are_below o d.0 (cond b [] (c ∷ [])) ≡ true) [ true ↦ refl | false ↦ both_true _ _ (first_true _ _ h) refl ])
    (are_before-kept c cs (second_true _ _ h))

-- one change among entries that ascend, by what stands before its place and from there on
pub set_all_step : (front back cs : List BalanceEntry) (c : BalanceEntry) → is_sorted R back ≡ true → is_sorted R (c ∷ cs) ≡ true → are_below o c.0 front ≡ true → none_below c.0 back ≡ true →
    set_all (front ++ back) (c ∷ cs) ≡ front ++ (kept_cell c ++ set_all (without_cell c.0 back) cs)
set_all_step front back cs c s t f b =
    set_all-append front back (c ∷ cs) (both_true _ _ f (are_before-next o c.0 front cs (first_true _ _ t) f))
    ∙ ap (λ es. front ++ set_all es cs) (set_here c back s b)
    ∙ ap (λ es. front ++ es) (set_all-append (kept_cell c) (without_cell c.0 back) cs (are_before-kept c cs (first_true _ _ t)))

-- ---- what they keep

-- an implicit account with more than 0
abbrev pub IsFunded : BalanceEntry → Type 0
IsFunded e = IsImplicit e.0 × (0 < e.1)

where_key-keeps : (P : BalanceEntry → Type 0) (p : List ℕ → Bool) (es : List BalanceEntry) → AllByRecursion P es → AllByRecursion P (where_key R p es)
where_key-keeps P p [] h = tt
where_key-keeps P p (e ∷ es) h =
    elim (p e.0) as (λ b. AllByRecursion P (cond b (e ∷ where_key R p es) (where_key R p es))) [ true ↦ (h.0, where_key-keeps P p es h.1) | false ↦ where_key-keeps P p es h.1 ]

put-keeps : (k : List ℕ) (v : ℕ) (es : List BalanceEntry) → IsImplicit k → 0 < v → AllByRecursion IsFunded es → AllByRecursion IsFunded (put R k v es)
put-keeps k v [] a f h = ((a, f), tt)
put-keeps k v (e ∷ es) a f h =
    elim (R k e.0) as (λ r. AllByRecursion IsFunded (by_order r ((k, v) ∷ e ∷ es) ((e.0, v) ∷ es) (e ∷ put R k v es))) [
      | Less ↦ ((a, f), h)
      | Equal ↦ ((h.0.0, f), h.1)
      | Greater ↦ (h.0, put-keeps k v es a f h.1)
    ]

set-keeps : (c : BalanceEntry) (es : List BalanceEntry) → IsImplicit c.0 → AllByRecursion IsFunded es → AllByRecursion IsFunded (set c es)
set-keeps c es a h =
    elim (eqb c.1 0) as (λ b. eqb c.1 0 ≡ b → AllByRecursion IsFunded (cond b (where_key R (other c.0) es) (put R c.0 c.1 es))) [
      | true ↦ λ is. where_key-keeps IsFunded (other c.0) es h
      | false ↦ λ is. let some : c.1 ≢ 0 = eqb-false c.1 0 is in put-keeps c.0 c.1 es a (omega arith) h
    ] refl

set_all-keeps : (es : List BalanceEntry) (cs : List Holding) → AllByRecursion (λ (c : Holding). IsImplicit c.address) cs → AllByRecursion IsFunded es → AllByRecursion IsFunded (set_all es (map pair cs))
set_all-keeps es [] a h = h
set_all-keeps es (c ∷ cs) a h = set_all-keeps (set (pair c) es) cs a.1 (set-keeps (pair c) es a.0 h)

are_funded : (es : List BalanceEntry) → AllByRecursion IsImplicit (map (λ (e : BalanceEntry). e.0) es) → AllByRecursion (λ n. 0 < n) (map (λ (e : BalanceEntry). e.1) es) → AllByRecursion IsFunded es
are_funded [] a f = tt
are_funded (e ∷ es) a f = ((a.0, f.0), are_funded es a.1 f.1)

accounts_of : (es : List BalanceEntry) → AllByRecursion IsFunded es → AllByRecursion IsImplicit (map (λ (e : BalanceEntry). e.0) es)
accounts_of [] h = tt
accounts_of (e ∷ es) h = (h.0.0, accounts_of es h.1)

amounts_of : (es : List BalanceEntry) → AllByRecursion IsFunded es → AllByRecursion (λ n. 0 < n) (map (λ (e : BalanceEntry). e.1) es)
amounts_of [] h = tt
amounts_of (e ∷ es) h = (h.0.1, amounts_of es h.1)

pub entries_funded : (m : Balances) → AreBalances m → AllByRecursion IsFunded (entries m)
entries_funded m h = are_funded (entries m) (recursion_from_All IsImplicit (keys m) h.accounts) (recursion_from_All (λ n. 0 < n) (values m) h.funded)

pub balances_from_entries : (m : Balances) → AllByRecursion IsFunded (entries m) → supply m < 2 ^ 63 → AreBalances m
balances_from_entries m h s = record {
  accounts = All-from_recursion IsImplicit (keys m) (accounts_of (entries m) h);
  funded = All-from_recursion (λ n. 0 < n) (values m) (amounts_of (entries m) h);
  within = s;
}

pub AreBalances-changed : (m : Balances) (cs : List Holding) → AreBalances m → All (λ (c : Holding). IsImplicit c.address) cs → supply (changed m cs) < 2 ^ 63 → AreBalances (changed m cs)
AreBalances-changed m cs h a s =
    balances_from_entries (changed m cs)
    (subst (AllByRecursion IsFunded) (sym (entries-changed m cs)) (set_all-keeps (entries m) cs (recursion_from_All (λ (c : Holding). IsImplicit c.address) cs a) (entries_funded m h))) s
