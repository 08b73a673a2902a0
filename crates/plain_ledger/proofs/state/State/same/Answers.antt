use Rattle.plain_ledger.proofs.HoldingLemmas.{same_ledgers, same_with}
use Rattle.plain_ledger.proofs.state.State.same.Goals as goal

pub returns-then-eq : goal.returns-then-eq
returns-then-eq c =
    same_ledgers c.self.inside.head.level c.self.inside.head.now c.other.inside.head.level c.other.inside.head.now c.self.inside.holdings.items c.other.inside.holdings.items c.eq.result c.same_holdings.result
    c.args.self.now c.args.other.now c.self.view_is c.other.view_is c.if-eq.true c.eq.ensures c.self.invariant.ascend c.other.invariant.ascend
    (same_with c.same_holdings.result _ _ _ _ c.deref.ensures.value c.deref-then-eq.ensures.value c.same_holdings.ensures)
