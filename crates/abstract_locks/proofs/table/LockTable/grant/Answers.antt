-- The place that was reserved gets the mode, and was listed.
use Rattle.std.proofs.Common.{Some, sym, ap, subst, ◌∙◌}
use Rattle.abstract_locks.specs.Holders.{asked}
use Rattle.abstract_locks.specs.Tables.{Table, held, HasRoom, locked}
use Rattle.abstract_locks.proofs.TableLemmas.{granted}
use Rattle.abstract_locks.proofs.ListLemmas.{placed_listed}
use Rattle.abstract_locks.proofs.table.LockTable.grant.Goals as goal

pub invariant_of-self : goal.invariant_of-self
invariant_of-self c =
    placed_listed c.self.inside.rows.entries c.hold.new.rows.entries c.self.inside.lists.entries c.args.c.now c.args.ticket
    (Some (Some (asked (held c.self.inside.rows.entries c.args.c.now) c.args.ticket c.args.m))) c.self.invariant
    (c.self.invariant c.args.c.now c.args.ticket (subst (λ (table : Table). HasRoom table c.args.c.now c.args.ticket) (sym c.self.view_is) c.requires.room))
    c.hold.ensures

pub returns : goal.returns
returns c =
    granted c.self.inside.rows.entries c.hold.new.rows.entries c.args.c.now c.args.ticket c.args.m c.hold.ensures
    ∙ ap (λ (table : Table). locked (held table) c.args.c.now c.args.ticket c.args.m) c.self.view_is
