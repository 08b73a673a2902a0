-- By what stands at one level.
use Rattle.value_core.proofs.TypeEquations.{has_type-left, has_type-list, has_type-map, has_type-pair, has_type-right, has_type-set, has_type-some}
use Rattle.value_core.proofs.laws.types_go_by_parts.Goals as goal

pub returns : goal.returns
returns c = record { some = has_type-some; left = has_type-left; right = has_type-right; pair = has_type-pair; list = has_type-list; set = has_type-set; map = has_type-map }
