use Rattle.std.proofs.Common.{length, sym, ap, ◌∙◌}
use Rattle.std.specs.Prelude.{map}
use Rattle.std.specs.FinMap.{entries, len, len-entries}
use Rattle.plain_ledger.specs.Ledger.{Ledger, pair}
use Rattle.std.proofs.lemmas.List.{length-map}
use Rattle.plain_ledger.specs.Holdings.{balances_of}
use Rattle.plain_ledger.proofs.HoldingLemmas.{entries-balances_of}
use Rattle.plain_ledger.proofs.state.State.holdings.Goals as goal

pub returns-clause-pairs : goal.returns-clause-pairs
returns-clause-pairs c =
    ap (map pair) c.deref.ensures.value ∙ sym (entries-balances_of c.self.inside.holdings.items c.self.invariant.ascend)
    ∙ ap (λ (s : Ledger). entries s.balances) c.self.view_is

pub returns-clause-count : goal.returns-clause-count
returns-clause-count c =
    ap length c.deref.ensures.value ∙ sym (length-map c.self.inside.holdings.items pair)
    ∙ ap length (sym (entries-balances_of c.self.inside.holdings.items c.self.invariant.ascend))
    ∙ sym (len-entries (balances_of c.self.inside.holdings.items)) ∙ ap (λ (s : Ledger). len s.balances) c.self.view_is
