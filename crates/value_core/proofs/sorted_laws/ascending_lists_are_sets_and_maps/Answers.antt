-- By std's laws of entries in order, of which keys are those without values.
use Rattle.std.specs.FinMap.Entries.{same_entries}
use Rattle.value_core.specs.Order.{order}
use Rattle.value_core.proofs.SortedKeys.{same_keys}
use Rattle.value_core.proofs.SortedValues.{ascends-keys, ascends_is_strict, map_order, set_order, ties, total}
use Rattle.value_core.proofs.sorted_laws.ascending_lists_are_sets_and_maps.Goals as goal

pub returns : goal.returns
returns c = record {
  items = ascends_is_strict;
  entries = ascends-keys;
  same_sets = λ vs ws up ups alike. same_keys total ties vs ws (set_order vs up) (set_order ws ups) alike;
  same_maps = λ es fs up ups alike. same_entries order total ties es fs (map_order es up) (map_order fs ups) alike;
}
