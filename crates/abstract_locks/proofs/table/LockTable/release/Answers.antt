-- All places of the ticket are listed under it.
use Rattle.std.proofs.Common.{◌∙◌, ap}
use Rattle.abstract_locks.specs.Lists.{cells_of}
use Rattle.abstract_locks.proofs.ListLemmas.{left_listed}
use Rattle.abstract_locks.proofs.table.LockTable.release.Goals as goal

pub invariant_of-self : goal.invariant_of-self
invariant_of-self c =
    left_listed c.self.inside.rows.entries c.leave_all.new.rows.entries c.self.inside.lists.entries c.remove.new.self.entries c.args.ticket c.as_slice.result.now c.self.invariant
    (c.as_slice.ensures.value ∙ ap cells_of c.in-Some.ensures.value) c.leave_all.ensures (c.remove.ensures.updates.0)
