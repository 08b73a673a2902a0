use Rattle.edge_io.proofs.SlotMaps.{puts_pushed}
use Rattle.edge_io.proofs.slots.add.Goals as goal

pub returns-clause-added : goal.returns-clause-added
returns-clause-added c = rw c.in_ok-push.ensures.items (puts_pushed c.args.slots.now.items c.args.slot c.requires)
