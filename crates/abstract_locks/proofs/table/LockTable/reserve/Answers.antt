-- A place with no mode holds nothing.
use Rattle.std.proofs.Common.{◌∙◌, Some, None, ap}
use Rattle.abstract_locks.specs.Tables.{held}
use Rattle.abstract_locks.proofs.TableLemmas.{no_place, reserved, room_made}
use Rattle.abstract_locks.proofs.ListLemmas.{kept_listed, placed_listed}
use Rattle.abstract_locks.proofs.table.LockTable.reserve.Goals as goal

pub invariant_of-self-2 : goal.invariant_of-self-2
invariant_of-self-2 c =
    placed_listed c.self.inside.rows.entries c.add.new.rows.entries c.list.new.lists.entries c.args.c.now c.args.ticket (Some None)
    (kept_listed c.self.inside.rows.entries c.self.inside.lists.entries c.list.new.lists.entries c.self.invariant c.list.ensures.kept) c.in_ok-list.ensures.listed c.in_ok-add.ensures.added

pub returns-clause-room : goal.returns-clause-room
returns-clause-room c = room_made c.self.inside.rows.entries c.add.new.rows.entries c.args.c.now c.args.ticket None c.in_ok-add.ensures.added

pub returns-clause-unchanged : goal.returns-clause-unchanged
returns-clause-unchanged c =
    reserved c.self.inside.rows.entries c.add.new.rows.entries c.args.c.now c.args.ticket (no_place c.has_place.result _ c.if-has_place.false c.has_place.ensures) c.in_ok-add.ensures.added
    ∙ ap held c.self.view_is
