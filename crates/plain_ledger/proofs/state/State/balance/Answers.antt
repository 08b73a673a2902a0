use Rattle.std.proofs.Common.{ap, subst, drop, take, ◌∙◌}
use Rattle.std.specs.Prelude.{IsTrue}
use Rattle.std.specs.List.{list_all}
use Rattle.plain_ledger.specs.declared.holding.Holding.{Holding}
use Rattle.plain_ledger.specs.Ledger.{Ledger, balance}
use Rattle.plain_ledger.specs.Holdings.{first_amount, is_below, is_not_below}
use Rattle.std.proofs.Common.{List}
use Rattle.plain_ledger.proofs.HoldingLemmas.{balance_is}
use Rattle.plain_ledger.proofs.state.State.balance.Goals as goal

pub returns : goal.returns
returns c =
    let hs = c.self.inside.holdings.items in
    let below : IsTrue (list_all (is_below c.args.address.now) (take c.place_in.result hs)) =
    subst (λ (l : List Holding). IsTrue (list_all (is_below c.args.address.now) (take c.place_in.result l))) c.as_slice-holdings.ensures.value c.place_in.ensures.below in
    let others : IsTrue (list_all (is_not_below c.args.address.now) (drop c.place_in.result hs)) =
    subst (λ (l : List Holding). IsTrue (list_all (is_not_below c.args.address.now) (drop c.place_in.result l))) c.as_slice-holdings.ensures.value c.place_in.ensures.others in
    c.amount_in.ensures ∙ ap (first_amount c.args.address.now) c.split_at.ensures.back
    ∙ ap (λ (l : List Holding). first_amount c.args.address.now (drop c.place_in.result l)) c.as_slice-holdings.ensures.value
    ∙ balance_is hs c.args.address.now c.place_in.result c.self.invariant.ascend below others
    ∙ ap (λ (s : Ledger). balance s.balances c.args.address.now) c.self.view_is
