-- By the words from the left.
use Rattle.std.proofs.Common.{◌≡◌, ◌+◌, ◌<◌, ◌^◌, true, false, Ok, sym, ap, ◌∙◌, arith}
use Rattle.std.specs.FinSet as set
use Rattle.cell_names.specs.Supply.{supply}
use Rattle.code_book.specs.Books.{has_account}
use Rattle.chain_text.specs.Fields.{Read}
use Rattle.chain_text.specs.Standing.{Standing}
use Rattle.chain_text.proofs.KeptEntries.{balanced_now}
use Rattle.chain_text.proofs.LineSaid.{amount_none, amount_put, balance_said}
use Rattle.chain_text.proofs.StandingViews.{no_balance, supply_is}
use Rattle.chain_text.proofs.standing.Standing.balance.Goals as goal

pub put-requires-clause-seen : goal.put-requires-clause-seen
put-requires-clause-seen c = balanced_now c.args.self.now c.mark_balanced.new.self c.in_ok-address.address c.in_ok-mark_balanced.ensures

pub returns-in_ok-put : goal.returns-in_ok-put
returns-in_ok-put c =
    let self = c.self.inside in
    let money : supply c.args.self.now.cells ≡ self.supply = supply_is c.args.self.now self.book self.lines.items self.balanced self.stored self.rows.items self.supply c.self.view_is c.self.invariant in
    let few : supply c.args.self.now.cells + c.in_ok-amount.amount < 2 ^ 63 = let low = c.self.invariant.within in let fits = c.if-amount-self.false in omega arith in
    let new : set.contains c.args.self.now.balanced c.in_ok-address.address ≡ false = ap (λ (t : Standing). set.contains t.balanced c.in_ok-address.address) (sym c.self.view_is) ∙ sym c.has.ensures ∙ c.if-has.false in
    let known : has_account c.args.self.now.book c.in_ok-address.address ≡ true = sym c.has_account.ensures ∙ c.if-not-has_account.false in
    let ok : Standing → Read Standing = λ t. Ok t in
    balance_said c.args.self.now c.args.words.now c.address.new.self c.number.new.self c.in_ok-address.address c.in_ok-amount.amount c.in_ok-address.ensures.address new known c.in_ok-amount.ensures.number few (sym c.in_ok-end.ensures)
    ∙ ap ok (amount_put c.args.self.now c.mark_balanced.new.self c.put.new.self c.in_ok-address.address c.in_ok-amount.amount c.if-amount-gt0.true c.in_ok-mark_balanced.ensures c.in_ok-put.ensures)

pub returns-else-amount-gt0 : goal.returns-else-amount-gt0
returns-else-amount-gt0 c =
    let self = c.self.inside in
    let money : supply c.args.self.now.cells ≡ self.supply = supply_is c.args.self.now self.book self.lines.items self.balanced self.stored self.rows.items self.supply c.self.view_is c.self.invariant in
    let few : supply c.args.self.now.cells + c.in_ok-amount.amount < 2 ^ 63 = let low = c.self.invariant.within in let fits = c.if-amount-self.false in omega arith in
    let new : set.contains c.args.self.now.balanced c.in_ok-address.address ≡ false = ap (λ (t : Standing). set.contains t.balanced c.in_ok-address.address) (sym c.self.view_is) ∙ sym c.has.ensures ∙ c.if-has.false in
    let known : has_account c.args.self.now.book c.in_ok-address.address ≡ true = sym c.has_account.ensures ∙ c.if-not-has_account.false in
    let ok : Standing → Read Standing = λ t. Ok t in
    let nothing : c.in_ok-amount.amount ≡ 0 = let least = c.if-amount-gt0.false in omega arith in
    let none = no_balance c.args.self.now self.book self.lines.items self.balanced self.stored self.rows.items self.supply c.self.view_is c.self.invariant c.in_ok-address.address new in
    balance_said c.args.self.now c.args.words.now c.address.new.self c.number.new.self c.in_ok-address.address c.in_ok-amount.amount c.in_ok-address.ensures.address new known c.in_ok-amount.ensures.number few (sym c.in_ok-end.ensures)
    ∙ ap ok (amount_none c.args.self.now c.mark_balanced.new.self c.in_ok-address.address c.in_ok-amount.amount nothing none c.in_ok-mark_balanced.ensures)
