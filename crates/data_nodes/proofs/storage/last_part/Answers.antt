-- A value at a big map is a map, and one at any other type stays as it is.
use Rattle.data_nodes.proofs.Partings.{no_other_map, other_part}
use Rattle.data_nodes.proofs.storage.last_part.Goals as goal

pub unreachable-requires : goal.unreachable-requires
unreachable-requires c = no_other_map c.args.t.now c.in-BigMap.field-0 c.in-BigMap.field-1 c.args.v c.in-BigMap.is c.requires.typed c.in-Err.ensures.unmapped

pub returns-in_default : goal.returns-in_default
returns-in_default c = other_part c.args.t.now c.args.v c.args.first c.args.entries.now.items c.requires.unpaired c.in_default.not-BigMap
