-- Each end of a transfer is the one that is meant.
use Rattle.std.proofs.Common.{◌<◌, ◌≤◌, ap, sym, subst, ◌∙◌}
use Rattle.cell_names.specs.declared.cell.Cell.TheVariants.{Balance}
use Rattle.cell_names.specs.declared.mode.Mode.TheVariants.{Credit, Own}
use Rattle.cell_names.specs.Footprints.{touched}
use Rattle.plain_transfers.specs.Serial.{credited, debited}
use Rattle.plain_transfers.proofs.Cases.{serial-unmoved, serial-failed, serial-paid}
use Rattle.plain_transfers.proofs.overlay.Overlay.run.Goals as goal

pub returns-then-transfer-eq0-clause-balances : goal.returns-then-transfer-eq0-clause-balances
returns-then-transfer-eq0-clause-balances c =
    sym (ap (λ r. r.balances) (serial-unmoved c.args.self.now c.args.transfer.now c.if-transfer-eq0.true))

pub returns-then-transfer-eq0-clause-receipt : goal.returns-then-transfer-eq0-clause-receipt
returns-then-transfer-eq0-clause-receipt c =
    sym (ap (λ r. r.receipt) (serial-unmoved c.args.self.now c.args.transfer.now c.if-transfer-eq0.true))

pub returns-then-transfer-eq0-clause-footprint : goal.returns-then-transfer-eq0-clause-footprint
returns-then-transfer-eq0-clause-footprint c =
    c.new-footprint.ensures ∙ sym (ap (λ r. r.footprint) (serial-unmoved c.args.self.now c.args.transfer.now c.if-transfer-eq0.true))

pub returns-then-balance-transfer-clause-balances : goal.returns-then-balance-transfer-clause-balances
returns-then-balance-transfer-clause-balances c =
    sym (ap (λ r. r.balances) (serial-failed c.args.self.now c.args.transfer.now c.if-transfer-eq0.false (subst (λ n. n < c.args.transfer.now.amount) c.balance.ensures c.if-balance-transfer.true)))

pub returns-then-balance-transfer-clause-receipt : goal.returns-then-balance-transfer-clause-receipt
returns-then-balance-transfer-clause-receipt c =
    sym (ap (λ r. r.receipt) (serial-failed c.args.self.now c.args.transfer.now c.if-transfer-eq0.false (subst (λ n. n < c.args.transfer.now.amount) c.balance.ensures c.if-balance-transfer.true)))

pub returns-then-balance-transfer-clause-footprint : goal.returns-then-balance-transfer-clause-footprint
returns-then-balance-transfer-clause-footprint c =
    c.in_ok-touch.ensures.touched ∙ ap (λ f. touched f (Balance c.args.transfer.now.source) Own) c.new-footprint.ensures
    ∙ sym (ap (λ r. r.footprint) (serial-failed c.args.self.now c.args.transfer.now c.if-transfer-eq0.false (subst (λ n. n < c.args.transfer.now.amount) c.balance.ensures c.if-balance-transfer.true)))

pub returns-clause-balances : goal.returns-clause-balances
returns-clause-balances c =
    c.in_ok-pay.ensures.paid
    ∙ ap (λ m. credited (debited m c.args.transfer.now.source c.args.transfer.now.amount) c.args.transfer.now.dest c.args.transfer.now.amount) c.self.view_is
    ∙ sym (ap (λ r. r.balances) (serial-paid c.args.self.now c.args.transfer.now c.if-transfer-eq0.false (subst (λ n. c.args.transfer.now.amount ≤ n) c.balance.ensures c.if-balance-transfer.false)))

pub returns-clause-receipt : goal.returns-clause-receipt
returns-clause-receipt c =
    sym (ap (λ r. r.receipt) (serial-paid c.args.self.now c.args.transfer.now c.if-transfer-eq0.false (subst (λ n. c.args.transfer.now.amount ≤ n) c.balance.ensures c.if-balance-transfer.false)))

pub returns-clause-footprint : goal.returns-clause-footprint
returns-clause-footprint c =
    c.in_ok-touch-2.ensures.touched
    ∙ ap (λ f. touched f (Balance c.args.transfer.now.dest) Credit) (c.in_ok-touch.ensures.touched ∙ ap (λ f. touched f (Balance c.args.transfer.now.source) Own) c.new-footprint.ensures)
    ∙ sym (ap (λ r. r.footprint) (serial-paid c.args.self.now c.args.transfer.now c.if-transfer-eq0.false (subst (λ n. c.args.transfer.now.amount ≤ n) c.balance.ensures c.if-balance-transfer.false)))
