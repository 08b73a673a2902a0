-- What the holdings in a state keep, and how changes are put among them.
use Rattle.std.specs.Prelude.{ℕ, Bool, not, List, [], ◌∷◌, map, ◌==◌, if◌then◌else◌, bytes_eq}
use Rattle.std.specs.Ordering.{nat_cmp, is_lt}
use Rattle.std.specs.Cmp.Lexicographic.{slice_cmp}
use Rattle.std.specs.FinMap.{from_sorted}
use Rattle.plain_ledger.specs.declared.holding.Holding.{Holding}
use Rattle.plain_ledger.specs.Ledger.{Balances, Ledger, AreBalances, Ascends, pair}

-- the balances that ascending holdings are
abbrev pub balances_of : List Holding → Balances
balances_of hs = from_sorted (map pair hs)

-- they ascend, and as balances they are lawful
pub record AreHoldings (hs : List Holding) : Type 0 where
  pub ascend : Ascends hs
  pub lawful : AreBalances (balances_of hs)

-- the ledger that a head and holdings are
abbrev pub ledger_from : ℕ → ℕ → List Holding → Ledger
ledger_from level now hs = record { level = level; now = now; balances = balances_of hs }

-- its address stands before this one
abbrev pub is_below : List ℕ → Holding → Bool
is_below address h = is_lt (slice_cmp nat_cmp h.address address)

-- or it doesn't
abbrev pub is_not_below : List ℕ → Holding → Bool
is_not_below address h = not (is_below address h)

-- a holding of 0 is no holding
abbrev pub kept : Holding → List Holding
kept h = if h.amount == 0 then [] else h ∷ []

-- without the first holding, where that is the address's
abbrev pub without : List ℕ → List Holding → List Holding
without address [] = []
without address (h ∷ hs) = if bytes_eq h.address address then hs else h ∷ hs

-- what the first holding has, where that is the address's
abbrev pub first_amount : List ℕ → List Holding → ℕ
first_amount address [] = 0
first_amount address (h ∷ hs) = if bytes_eq h.address address then h.amount else 0
