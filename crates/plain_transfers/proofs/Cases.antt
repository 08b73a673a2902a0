-- The three ends of a transfer: nothing is moved, the source has too little, the amount is paid.
use Rattle.std.proofs.Common.{◌≡◌, ◌≢◌, ◌<◌, ◌≤◌, [], ap, ◌∙◌}
use Rattle.std.specs.Prelude.{nat_lt, if◌then◌else◌}
use Rattle.std.proofs.lemmas.Bool.{eq-eqb, ne_eqb, lt-ltb, le-ltb}
use Rattle.plain_ledger.specs.Ledger.{Balances, balance}
use Rattle.transfer_blocks.specs.declared.transfer.Transfer.{Transfer}
use Rattle.plain_transfers.specs.Serial.{Ran, applied, credited, debited, serial, too_low, debit_cells, paid_cells}

abbrev pub unmoved : Balances → Ran
unmoved m = record { balances = m; receipt = applied; footprint = [] }

abbrev pub failed : Balances → Transfer → Ran
failed m t = record { balances = m; receipt = too_low; footprint = debit_cells t }

abbrev pub paid : Balances → Transfer → Ran
paid m t = record {
  balances = credited (debited m t.source t.amount) t.dest t.amount;
  receipt = applied;
  footprint = paid_cells t;
}

pub serial-unmoved : (m : Balances) (t : Transfer) → t.amount ≡ 0 → serial m t ≡ unmoved m
unfolding serial
serial-unmoved m t none = ap (λ b. if b then unmoved m else if nat_lt (balance m t.source) t.amount then failed m t else paid m t) (eq-eqb t.amount 0 none)

pub serial-failed : (m : Balances) (t : Transfer) → t.amount ≢ 0 → balance m t.source < t.amount → serial m t ≡ failed m t
unfolding serial
serial-failed m t some low =
    ap (λ b. if b then unmoved m else if nat_lt (balance m t.source) t.amount then failed m t else paid m t) (ne_eqb t.amount 0 some)
    ∙ ap (λ b. if b then failed m t else paid m t) (lt-ltb (balance m t.source) t.amount low)

pub serial-paid : (m : Balances) (t : Transfer) → t.amount ≢ 0 → t.amount ≤ balance m t.source → serial m t ≡ paid m t
unfolding serial
serial-paid m t some enough =
    ap (λ b. if b then unmoved m else if nat_lt (balance m t.source) t.amount then failed m t else paid m t) (ne_eqb t.amount 0 some)
    ∙ ap (λ b. if b then failed m t else paid m t) (le-ltb (balance m t.source) t.amount enough)
