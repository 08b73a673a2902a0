-- One more change.
use Rattle.std.proofs.Common.{rules, sym, subst, List, ℕ}
use Rattle.std.specs.Ordering.{nat_cmp}
use Rattle.std.specs.Cmp.Lexicographic.{slice_cmp}
use Rattle.std.specs.Prelude.{All, map, IsSome, Option, Some, Bool, true, false, cond}
use Rattle.std.proofs.lemmas.Map.Views.{All-keys-insert_entry}
use Rattle.cell_names.specs.Accounts.{IsImplicit}
use Rattle.plain_ledger.specs.Ledger.{BalanceEntry}
use Rattle.plain_transfers.proofs.Over.{over-written}
use Rattle.plain_transfers.proofs.changes.put.Goals as goal

pub returns-clause-written : goal.returns-clause-written
returns-clause-written c = λ m. over-written m c.args.changes.now.entries c.insert.new.self.entries c.args.address c.args.amount c.in_ok-insert.ensures.updates.0

pub returns-clause-accounts : goal.returns-clause-accounts
returns-clause-accounts c = λ account all.
    let P : List BalanceEntry → Type 0 = λ es. All IsImplicit (map (λ e. e.0) es) in
    subst P (sym c.in_ok-insert.ensures.entries) (All-keys-insert_entry (slice_cmp nat_cmp) c.args.address c.args.amount IsImplicit c.args.changes.now.entries all account)

still_some : (b : Bool) (n : ℕ) (o : Option ℕ) → IsSome o → IsSome (cond b (Some n) o)
still_some true n o some = search rules
still_some false n o some = some

pub returns-clause-kept : goal.returns-clause-kept
returns-clause-kept c = λ q some. subst IsSome (sym (c.in_ok-insert.ensures.updates.0 q)) (still_some _ c.args.amount _ some)
