-- By what stands at one level.
use Rattle.value_core.proofs.SizeLaws.{size_of-≥1}
use Rattle.value_core.proofs.SizeParts.{list_counts, map_counts, parts_are_within, set_counts}
use Rattle.value_core.proofs.laws.sizes_count_what_is_there.Goals as goal

pub returns : goal.returns
returns c = record { one = size_of-≥1; list = list_counts; set = set_counts; map = map_counts; parts = parts_are_within }
