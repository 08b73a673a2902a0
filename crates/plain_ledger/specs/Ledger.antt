-- Ledgers: a level, a now, and what each account has.
use Rattle.std.specs.Prelude.{ℕ, ◌<◌, ◌^◌, ◌==◌, if◌then◌else◌, List, [], ◌∷◌, All, sum, map, IsTrue, unwrap_or, refl}
use Rattle.std.specs.Ordering.{nat_cmp}
use Rattle.std.specs.Cmp.Lexicographic.{slice_cmp}
use Rattle.std.specs.FinMap.{FinMap, get, insert, remove, keys, values, is_sorted, code}
use Rattle.std.specs.Coded.{Coded, code_by, coded_ℕ, coded×, coded_list}
use Rattle.cell_names.specs.Accounts.{IsImplicit}
use Rattle.plain_ledger.specs.declared.holding.Holding.{Holding}

-- what each account has, by its address
abbrev pub Balances : Type 0
Balances = FinMap (slice_cmp nat_cmp) ℕ

-- an entry of balances: an address with what it has
abbrev pub BalanceEntry : Type 0
BalanceEntry = List ℕ × ℕ

-- what an account has; a balance of 0 is an absent one
abbrev pub balance : Balances → List ℕ → ℕ
balance m address = unwrap_or (get m address) 0

-- the balances where one account has so much, and all else is the same
abbrev pub with_balance : Balances → List ℕ → ℕ → Balances
with_balance m address amount = if amount == 0 then remove m address else insert m address amount

-- the balances where each of these accounts has that much
abbrev pub changed : Balances → List Holding → Balances
changed m [] = m
changed m (c ∷ cs) = changed (with_balance m c.address c.amount) cs

-- all that there is
abbrev pub supply : Balances → ℕ
supply m = sum (values m)

-- a ledger, as contracts see it
pub record Ledger : Type 0 where
  pub level : ℕ
  pub now : ℕ
  pub balances : Balances

-- what the balances of every ledger keep
pub record AreBalances (m : Balances) : Type 0 where
  pub accounts : All IsImplicit (keys m)
  pub funded : All (λ n. 0 < n) (values m)
  pub within : supply m < 2 ^ 63

-- the entry that stands for a holding in balances
abbrev pub pair : Holding → BalanceEntry
pair h = (h.address, h.amount)

-- the addresses strictly rise
abbrev pub Ascends : List Holding → Type 0
Ascends hs = IsTrue (is_sorted (slice_cmp nat_cmp) (map pair hs))

-- a ledger is stored as the tuple of its parts
abbrev pub ledger_code : Coded Ledger
ledger_code =
    code_by (ℕ × (ℕ × Balances)) (coded× coded_ℕ (coded× coded_ℕ (code (coded_list coded_ℕ) coded_ℕ)))
    (λ s. (s.level, (s.now, s.balances))) (λ p. record { level = p.0; now = p.1.0; balances = p.1.1 }) (λ _. refl)
