-- The entries of the place, in the order of their keys.
use Rattle.op_rules.proofs.MapCells.{get-map_at}
use Rattle.op_rules.proofs.laws.a_big_map_has_what_its_cells_have.Goals as goal

pub returns : goal.returns
returns c = get-map_at
