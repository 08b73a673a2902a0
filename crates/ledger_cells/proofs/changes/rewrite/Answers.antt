-- The entry has what was written through it.
use Rattle.std.proofs.Common.{rules, subst}
use Rattle.std.specs.Prelude.{Option}
use Rattle.value_core.specs.declared.val.Val.{Val}
use Rattle.ledger_cells.specs.Overlay.{IsWritten}
use Rattle.ledger_cells.proofs.Over.{is_written}
use Rattle.ledger_cells.proofs.changes.rewrite.Goals as goal

pub returns-in-Some-clause-written : goal.returns-in-Some-clause-written
returns-in-Some-clause-written c =
    let new = c.get_mut.follows.lender c.replace.new.dest in
    subst (λ (o : Option Val). IsWritten c.args.changes.now.entries c.args.c.now o new.entries) c.replace.ensures.after
    (is_written c.args.changes.now.entries new.entries c.args.c.now c.replace.new.dest ((c.get_mut.follows.holds c.replace.new.dest).3 (search rules)).0)
