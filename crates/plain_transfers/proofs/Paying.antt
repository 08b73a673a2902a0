-- A debit and a credit of the same amount: the supply, and what balances keep.
use Rattle.std.proofs.Common.{◌≡◌, ℕ, ◌+◌, ◌-◌, ◌<◌, ◌≤◌, ◌^◌, List, ap, subst, sym, ◌∙◌, arith}
use Rattle.cell_names.specs.Accounts.{IsImplicit}
use Rattle.plain_ledger.specs.Ledger.{BalanceEntry, Balances, AreBalances, balance, supply, with_balance}
use Rattle.plain_transfers.specs.Changes.{over}
use Rattle.plain_transfers.specs.Serial.{credited, debited}
use Rattle.plain_transfers.proofs.Balances.{supply-with_balance, balance-le-supply, AreBalances-with_balance, with_balance-same}

pub supply-debited : (m : Balances) (source : List ℕ) (amount : ℕ) → amount ≤ balance m source → supply (debited m source amount) + amount ≡ supply m
supply-debited m source amount enough = omega (arith, supply-with_balance m source (balance m source - amount))

pub supply-credited : (m : Balances) (dest : List ℕ) (amount : ℕ) → supply (credited m dest amount) ≡ supply m + amount
supply-credited m dest amount = omega (arith, supply-with_balance m dest (balance m dest + amount))

-- what is paid stays in the supply
pub supply-paid : (m : Balances) (source dest : List ℕ) (amount : ℕ) → amount ≤ balance m source → supply (credited (debited m source amount) dest amount) ≡ supply m
supply-paid m source dest amount enough = supply-credited (debited m source amount) dest amount ∙ supply-debited m source amount enough

-- what is credited fits
pub credit_fits : (m : Balances) (source dest : List ℕ) (amount : ℕ) → AreBalances m → amount ≤ balance m source → balance (debited m source amount) dest + amount < 2 ^ 63
credit_fits m source dest amount lawful enough =
    omega (arith, balance-le-supply (debited m source amount) dest, supply-debited m source amount enough, lawful.within)

pub AreBalances-debited : (m : Balances) (source : List ℕ) (amount : ℕ) → IsImplicit source → AreBalances m → amount ≤ balance m source → AreBalances (debited m source amount)
AreBalances-debited m source amount account lawful enough =
    AreBalances-with_balance m source (balance m source - amount) account lawful (omega (arith, supply-debited m source amount enough, lawful.within))

pub AreBalances-paid : (m : Balances) (source dest : List ℕ) (amount : ℕ) → IsImplicit source → IsImplicit dest → AreBalances m → amount ≤ balance m source → AreBalances (credited (debited m source amount) dest amount)
AreBalances-paid m source dest amount account other lawful enough =
    AreBalances-with_balance (debited m source amount) dest (balance (debited m source amount) dest + amount) other (AreBalances-debited m source amount account lawful enough)
    (omega (arith, supply-paid m source dest amount enough, lawful.within))

-- to write what an account has changes nothing
pub over-place : (m : Balances) (old new : List BalanceEntry) (a : List ℕ) (n : ℕ) → AreBalances (over m old) → n ≡ balance (over m old) a → over m new ≡ with_balance (over m old) a n → over m new ≡ over m old
over-place m old new a n lawful is written = written ∙ ap (with_balance (over m old) a) is ∙ with_balance-same (over m old) a lawful

pub over-debit : (m b : Balances) (old new : List BalanceEntry) (source : List ℕ) (amount n : ℕ) → over m old ≡ b → n ≡ balance (over m old) source → over m new ≡ with_balance (over m old) source (n - amount) → over m new ≡ debited b source amount
over-debit m b old new source amount n before is written =
    written ∙ ap (λ k. with_balance (over m old) source (k - amount)) is ∙ ap (λ o. debited o source amount) before

pub over-credit : (m b : Balances) (old new : List BalanceEntry) (dest : List ℕ) (amount n : ℕ) → over m old ≡ b → n ≡ balance (over m old) dest → over m new ≡ with_balance (over m old) dest (n + amount) → over m new ≡ credited b dest amount
over-credit m b old new dest amount n before is written =
    written ∙ ap (λ k. with_balance (over m old) dest (k + amount)) is ∙ ap (λ o. credited o dest amount) before

pub has_enough : (m : Balances) (old new : List BalanceEntry) (source dest : List ℕ) (amount before has : ℕ) → AreBalances (over m old) → amount ≤ balance (over m old) source
    → before ≡ balance (over m old) dest → over m new ≡ with_balance (over m old) dest before → has ≡ balance (over m new) source → amount ≤ has
has_enough m old new source dest amount before has lawful enough is written found =
    subst (λ n. amount ≤ n) (sym (found ∙ ap (λ b. balance b source) (over-place m old new dest before lawful is written))) enough

-- the place of the destination, and then the debit
pub after_debit : (m : Balances) (es0 es1 es2 : List BalanceEntry) (source dest : List ℕ) (amount before has : ℕ) → AreBalances (over m es0)
    → before ≡ balance (over m es0) dest → over m es1 ≡ with_balance (over m es0) dest before
    → has ≡ balance (over m es1) source → over m es2 ≡ with_balance (over m es1) source (has - amount) → over m es2 ≡ debited (over m es0) source amount
after_debit m es0 es1 es2 source dest amount before has lawful is placed found written =
    over-debit m (over m es0) es1 es2 source amount has (over-place m es0 es1 dest before lawful is placed) found written
