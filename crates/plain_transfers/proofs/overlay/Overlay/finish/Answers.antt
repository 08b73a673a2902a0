-- The changes are what the next state asks for.
use Rattle.std.proofs.Common.{◌≡◌, ◌<◌, ◌^◌, List, ap, sym, subst, ◌∙◌}
use Rattle.std.specs.Prelude.{All, IfOk}
use Rattle.cell_names.specs.Accounts.{IsImplicit}
use Rattle.plain_ledger.specs.Ledger.{Ascends, Balances, changed, supply}
use Rattle.plain_ledger.specs.declared.holding.Holding.{Holding}
use Rattle.plain_transfers.proofs.Over.{Ascends-holdings, All-holdings, over-holdings}
use Rattle.plain_transfers.proofs.overlay.Overlay.finish.Goals as goal

pub with_balances-requires-clause-ascend : goal.with_balances-requires-clause-ascend
with_balances-requires-clause-ascend c =
    subst Ascends (sym (c.deref.ensures.value ∙ c.in_ok-changes.ensures)) (Ascends-holdings c.self.inside.changes.entries c.self.invariant.ascend)

pub with_balances-requires-clause-accounts : goal.with_balances-requires-clause-accounts
with_balances-requires-clause-accounts c =
    let P : List Holding → Type 0 = λ hs. All (λ h. IsImplicit h.address) hs in
    subst P (sym (c.deref.ensures.value ∙ c.in_ok-changes.ensures)) (All-holdings IsImplicit c.self.inside.changes.entries c.self.invariant.accounts)

pub with_balances-requires-clause-within : goal.with_balances-requires-clause-within
with_balances-requires-clause-within c =
    let m = c.self.inside.state.now.balances in
    let es = c.self.inside.changes.entries in
    let same = ap (changed m) (c.deref.ensures.value ∙ c.in_ok-changes.ensures) ∙ over-holdings m es (Ascends-holdings es c.self.invariant.ascend) in
    subst (λ b. supply b < 2 ^ 63) (sym same) c.self.invariant.lawful.within

pub returns : goal.returns
returns c =
    let m = c.self.inside.state.now.balances in
    let es = c.self.inside.changes.entries in
    let same = ap (changed m) (c.deref.ensures.value ∙ c.in_ok-changes.ensures) ∙ over-holdings m es (Ascends-holdings es c.self.invariant.ascend) in
    let P : Balances → Type 0 = λ b. IfOk c.with_balances.result (λ s. s ≡ record { level = c.args.head.level; now = c.args.head.now; balances = b }) in
    subst P (same ∙ c.self.view_is) c.with_balances.ensures
