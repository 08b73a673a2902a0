-- What one transfer keeps, and so many.
use Rattle.std.proofs.Common.{◌≡◌, ◌≤◌, ◌==◌, true, false, List, [], ◌∷◌, refl, ◌∙◌}
use Rattle.std.specs.Prelude.{nat_lt, if◌then◌else◌}
use Rattle.std.specs.List.{AllByRecursion}
use Rattle.std.proofs.lemmas.Bool.{ltb-false}
use Rattle.plain_ledger.specs.Ledger.{Balances, AreBalances, balance, supply}
use Rattle.transfer_blocks.specs.declared.transfer.Transfer.{Transfer}
use Rattle.plain_transfers.specs.Serial.{serial}
use Rattle.plain_transfers.specs.Run.{IsPlain, run_on}
use Rattle.plain_transfers.proofs.Cases.{unmoved, failed, paid}
use Rattle.plain_transfers.proofs.Paying.{supply-paid, AreBalances-paid}

-- there is as much as before, and the balances are lawful
record Keeps (m after : Balances) : Type 0 where
  supplies : supply after ≡ supply m
  lawful : AreBalances after

serial_keeps : (m : Balances) (t : Transfer) → AreBalances m → IsPlain t → Keeps m (serial m t).balances
unfolding serial
serial_keeps m t lawful plain =
    elim (t.amount == 0) as (λ b. Keeps m (if b then unmoved m else if nat_lt (balance m t.source) t.amount then failed m t else paid m t).balances) [
      | true ↦ record { supplies = refl; lawful = lawful }
      | false ↦
          elim (nat_lt (balance m t.source) t.amount) as (λ b. nat_lt (balance m t.source) t.amount ≡ b → Keeps m (if b then failed m t else paid m t).balances) [
            | true ↦ λ low. record { supplies = refl; lawful = lawful }
            | false ↦ λ high.
                let enough : t.amount ≤ balance m t.source = ltb-false (balance m t.source) t.amount high in
                record { supplies = supply-paid m t.source t.dest t.amount enough; lawful = AreBalances-paid m t.source t.dest t.amount plain.source plain.dest lawful enough }
          ] refl
    ]

run_keeps : (m : Balances) (ops : List Transfer) → AreBalances m → AllByRecursion IsPlain ops → Keeps m (run_on m ops).balances
run_keeps m [] lawful plain = record { supplies = refl; lawful = lawful }
run_keeps m (t ∷ ts) lawful plain =
    let first = serial_keeps m t lawful plain.0 in
    let rest = run_keeps (serial m t).balances ts first.lawful plain.1 in
    record { supplies = rest.supplies ∙ first.supplies; lawful = rest.lawful }

pub supply-run_on : (m : Balances) (ops : List Transfer) → AreBalances m → AllByRecursion IsPlain ops → supply (run_on m ops).balances ≡ supply m
supply-run_on m ops lawful plain = (run_keeps m ops lawful plain).supplies

pub AreBalances-run_on : (m : Balances) (ops : List Transfer) → AreBalances m → AllByRecursion IsPlain ops → AreBalances (run_on m ops).balances
AreBalances-run_on m ops lawful plain = (run_keeps m ops lawful plain).lawful
