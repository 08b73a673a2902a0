-- A binary search among ascending items finds the place or the gap.
use Rattle.std.proofs.Common.{rules}
use Rattle.std.proofs.lemmas.Fn.{always_returns_same}
use Rattle.value_core.specs.Order.{order}
use Rattle.value_core.proofs.SortedPlaces.{set_stands}
use Rattle.value_core.proofs.sorted.place_in_set.Goals as goal

pub returns-clause-place : goal.returns-clause-place
returns-clause-place c up = set_stands c.args.items.now c.args.key.now c.binary_search_by.result up c.binary_search_by.ensures.bound
    (c.binary_search_by.ensures.position (λ v. order v c.args.key.now) (always_returns_same _ _ _ (λ a r f' k. search rules)))
