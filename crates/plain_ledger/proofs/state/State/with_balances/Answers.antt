use Rattle.std.proofs.Common.{◌≡◌, List, ap, subst, ◌∙◌}
use Rattle.std.specs.Prelude.{map}
use Rattle.std.specs.FinMap.{entries}
use Rattle.plain_ledger.specs.declared.holding.Holding.{Holding}
use Rattle.plain_ledger.specs.Ledger.{Balances, Ledger, changed, pair}
use Rattle.plain_ledger.specs.Holdings.{balances_of}
use Rattle.plain_ledger.proofs.HoldingLemmas.{AreHoldings-merged, balances_are}
use Rattle.plain_ledger.proofs.state.State.with_balances.Goals as goal

pub invariant_of-result : goal.invariant_of-result
invariant_of-result c =
    AreHoldings-merged c.in_ok-holdings.holdings.items c.self.inside.holdings.items c.args.changes.now c.args.self.now.balances
    (subst (λ (hs : List Holding). map pair c.in_ok-holdings.holdings.items ≡ entries (changed (balances_of hs) c.args.changes.now)) c.deref.ensures.value c.in_ok-holdings.ensures)
    (ap (λ (s : Ledger). s.balances) c.self.view_is) c.self.invariant.lawful c.requires.accounts c.requires.within

pub returns : goal.returns
returns c =
    let is : map pair c.in_ok-holdings.holdings.items ≡ entries (changed (balances_of c.self.inside.holdings.items) c.args.changes.now) =
    subst (λ (hs : List Holding). map pair c.in_ok-holdings.holdings.items ≡ entries (changed (balances_of hs) c.args.changes.now)) c.deref.ensures.value c.in_ok-holdings.ensures in
    let with_head : Balances → Ledger = λ m. record { level = c.args.head.level; now = c.args.head.now; balances = m } in
    ap with_head (balances_are c.in_ok-holdings.holdings.items (changed (balances_of c.self.inside.holdings.items) c.args.changes.now) is).1
    ∙ ap (λ (s : Ledger). with_head (changed s.balances c.args.changes.now)) c.self.view_is
