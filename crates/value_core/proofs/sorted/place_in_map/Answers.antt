-- A binary search among entries whose keys ascend finds the place or the gap.
use Rattle.std.proofs.Common.{rules}
use Rattle.std.proofs.lemmas.Fn.{always_returns_same}
use Rattle.value_core.specs.Order.{order}
use Rattle.value_core.proofs.SortedPlaces.{map_stands}
use Rattle.value_core.proofs.sorted.place_in_map.Goals as goal

pub returns-clause-place : goal.returns-clause-place
returns-clause-place c up = map_stands c.args.entries.now c.args.key.now c.binary_search_by.result up c.binary_search_by.ensures.bound
    (c.binary_search_by.ensures.position (λ e. order e.0 c.args.key.now) (always_returns_same _ _ _ (λ a r f' k. search rules)))
