-- Each of the three writes, and what the balances are behind it.
use Rattle.std.proofs.Common.{arith, ◌≡◌, sym, subst, ap, ◌∙◌}
use Rattle.std.specs.Prelude.{Result, Ok, Err, OnErr}
use Rattle.plain_ledger.specs.Ledger.{AreBalances, balance, supply}
use Rattle.plain_transfers.specs.Changes.{over}
use Rattle.plain_transfers.specs.Serial.{debited}
use Rattle.plain_transfers.proofs.Paying.{over-place, over-credit, supply-paid, credit_fits, AreBalances-paid, has_enough, after_debit}
use Rattle.plain_transfers.proofs.changes.pay.Goals as goal

pub overflow_sub-has : goal.overflow_sub-has
overflow_sub-has c =
    let m = c.args.state.now.balances in
    has_enough m c.args.changes.now.entries c.put.new.changes.entries c.args.source c.args.dest c.args.amount c.balance_in-before.result c.balance_in-has.result
    c.requires.lawful.lawful c.requires.enough c.balance_in-before.ensures (c.in_ok-put.ensures.written m) c.balance_in-has.ensures

in_any_case : {T E : Type 0} {P : Type 0} (r : Result T E) → P → OnErr r P
in_any_case (Ok x) p = tt
in_any_case (Err e) p = p

pub returns-in_err-put-2-clause-unchanged : goal.returns-in_err-put-2-clause-unchanged
returns-in_err-put-2-clause-unchanged c =
    let m = c.args.state.now.balances in
    in_any_case _ (ap (over m) c.in_err-put-2.ensures.unchanged ∙ over-place m c.args.changes.now.entries c.put.new.changes.entries c.args.dest c.balance_in-before.result c.requires.lawful.lawful c.balance_in-before.ensures (c.in_ok-put.ensures.written m))

pub returns-in_err-put-2-clause-lawful : goal.returns-in_err-put-2-clause-lawful
returns-in_err-put-2-clause-lawful c =
    let m = c.args.state.now.balances in
    record {
      ascend = c.in_err-put-2.ensures.ascend;
      accounts = c.in_err-put-2.ensures.accounts c.requires.source (c.in_ok-put.ensures.accounts c.requires.dest c.requires.lawful.accounts);
      lawful = subst AreBalances (sym (ap (over m) c.in_err-put-2.ensures.unchanged ∙ over-place m c.args.changes.now.entries c.put.new.changes.entries c.args.dest c.balance_in-before.result c.requires.lawful.lawful c.balance_in-before.ensures (c.in_ok-put.ensures.written m))) c.requires.lawful.lawful;
    }

pub returns-in_err-put-2-clause-supply : goal.returns-in_err-put-2-clause-supply
returns-in_err-put-2-clause-supply c =
    let m = c.args.state.now.balances in
    ap supply (ap (over m) c.in_err-put-2.ensures.unchanged ∙ over-place m c.args.changes.now.entries c.put.new.changes.entries c.args.dest c.balance_in-before.result c.requires.lawful.lawful c.balance_in-before.ensures (c.in_ok-put.ensures.written m))

pub overflow_add-had : goal.overflow_add-had
overflow_add-had c =
    let m = c.args.state.now.balances in
    let debit : over m c.put-2.new.changes.entries ≡ debited (over m c.args.changes.now.entries) c.args.source c.args.amount = after_debit m c.args.changes.now.entries c.put.new.changes.entries c.put-2.new.changes.entries c.args.source c.args.dest c.args.amount c.balance_in-before.result c.balance_in-has.result
    c.requires.lawful.lawful c.balance_in-before.ensures (c.in_ok-put.ensures.written m) c.balance_in-has.ensures (c.in_ok-put-2.ensures.written m) in
    omega (arith, ap (λ b. balance b c.args.dest) debit, c.balance_in-had.ensures, credit_fits (over m c.args.changes.now.entries) c.args.source c.args.dest c.args.amount c.requires.lawful.lawful c.requires.enough)

pub returns-clause-paid : goal.returns-clause-paid
returns-clause-paid c =
    let m = c.args.state.now.balances in
    let debit : over m c.put-2.new.changes.entries ≡ debited (over m c.args.changes.now.entries) c.args.source c.args.amount = after_debit m c.args.changes.now.entries c.put.new.changes.entries c.put-2.new.changes.entries c.args.source c.args.dest c.args.amount c.balance_in-before.result c.balance_in-has.result
    c.requires.lawful.lawful c.balance_in-before.ensures (c.in_ok-put.ensures.written m) c.balance_in-has.ensures (c.in_ok-put-2.ensures.written m) in
    over-credit m (debited (over m c.args.changes.now.entries) c.args.source c.args.amount) c.put-2.new.changes.entries c.put-3.new.changes.entries c.args.dest c.args.amount c.balance_in-had.result
    debit c.balance_in-had.ensures (c.in_ok-put-3.ensures.written m)

pub returns-clause-lawful : goal.returns-clause-lawful
returns-clause-lawful c =
    let m = c.args.state.now.balances in
    let debit : over m c.put-2.new.changes.entries ≡ debited (over m c.args.changes.now.entries) c.args.source c.args.amount = after_debit m c.args.changes.now.entries c.put.new.changes.entries c.put-2.new.changes.entries c.args.source c.args.dest c.args.amount c.balance_in-before.result c.balance_in-has.result
    c.requires.lawful.lawful c.balance_in-before.ensures (c.in_ok-put.ensures.written m) c.balance_in-has.ensures (c.in_ok-put-2.ensures.written m) in
    let paid = over-credit m (debited (over m c.args.changes.now.entries) c.args.source c.args.amount) c.put-2.new.changes.entries c.put-3.new.changes.entries c.args.dest c.args.amount c.balance_in-had.result
    debit c.balance_in-had.ensures (c.in_ok-put-3.ensures.written m) in
    record {
      ascend = c.in_ok-put-3.ensures.ascend;
      accounts = c.in_ok-put-3.ensures.accounts c.requires.dest (c.in_ok-put-2.ensures.accounts c.requires.source (c.in_ok-put.ensures.accounts c.requires.dest c.requires.lawful.accounts));
      lawful = subst AreBalances (sym paid) (AreBalances-paid (over m c.args.changes.now.entries) c.args.source c.args.dest c.args.amount c.requires.source c.requires.dest c.requires.lawful.lawful c.requires.enough);
    }

pub returns-clause-supply : goal.returns-clause-supply
returns-clause-supply c =
    let m = c.args.state.now.balances in
    let debit : over m c.put-2.new.changes.entries ≡ debited (over m c.args.changes.now.entries) c.args.source c.args.amount = after_debit m c.args.changes.now.entries c.put.new.changes.entries c.put-2.new.changes.entries c.args.source c.args.dest c.args.amount c.balance_in-before.result c.balance_in-has.result
    c.requires.lawful.lawful c.balance_in-before.ensures (c.in_ok-put.ensures.written m) c.balance_in-has.ensures (c.in_ok-put-2.ensures.written m) in
    let paid = over-credit m (debited (over m c.args.changes.now.entries) c.args.source c.args.amount) c.put-2.new.changes.entries c.put-3.new.changes.entries c.args.dest c.args.amount c.balance_in-had.result
    debit c.balance_in-had.ensures (c.in_ok-put-3.ensures.written m) in
    ap supply paid ∙ supply-paid (over m c.args.changes.now.entries) c.args.source c.args.dest c.args.amount c.requires.enough
