-- By the laws of entries in order.
use Rattle.std.specs.FinMap.Entries.{length_without}
use Rattle.value_core.specs.Order.{order}
use Rattle.value_core.proofs.SortedEntries.{find-without_itself, find-without_other, without_absent}
use Rattle.value_core.proofs.SortedValues.{ascends-without, map_order, size-without, sound-without, ties, total, typed-without}
use Rattle.value_core.proofs.sorted_laws.a_map_lacks_what_is_removed.Goals as goal

pub returns : goal.returns
returns c = record {
  gone = λ es k. find-without_itself total k es;
  others = λ es k q other. find-without_other total ties k q es other;
  absent = λ es k none. without_absent order k es none;
  ascends = λ es k up. ascends-without k es up;
  length = λ es k up. length_without order total k es (map_order es up);
  size = λ es k v up found. size-without k v es up found;
  sound = λ es k all. sound-without k es all;
  typed = λ s t es k all. typed-without s t k es all;
}
