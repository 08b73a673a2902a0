-- A key is there exactly where it has a place.
use Rattle.std.proofs.Common.{◌∙◌}
use Rattle.value_core.proofs.SortedPlaces.{set_told}
use Rattle.value_core.proofs.sorted.set_has.Goals as goal

pub returns : goal.returns
returns c = c.is_ok.ensures.value ∙ set_told c.args.items.now c.args.key.now c.place_in_set.result (c.place_in_set.ensures.place c.requires)
