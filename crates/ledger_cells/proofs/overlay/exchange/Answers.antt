-- What a change said, or else what is held.
use Rattle.std.proofs.Common.{sym, ◌∙◌}
use Rattle.ledger_cells.proofs.Over.{changed_there, held_there, no_change}
use Rattle.ledger_cells.proofs.overlay.exchange.Goals as goal

pub returns-then-contains_key-clause-old : goal.returns-then-contains_key-clause-old
returns-then-contains_key-clause-old c = sym (changed_there c.args.held.now c.args.changes.now.entries c.args.c.now c.rewrite.result c.rewrite.ensures.old)

pub returns-clause-old : goal.returns-clause-old
returns-clause-old c =
    c.in_ok-old.ensures ∙ c.get.ensures
    ∙ sym (held_there c.args.held.now c.args.changes.now.entries c.args.c.now (no_change c.args.changes.now.entries c.args.c.now c.contains_key.result c.contains_key.ensures c.if-contains_key.false))
