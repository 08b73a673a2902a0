-- By the laws of entries in order.
use Rattle.std.specs.FinMap.Entries.{length-put}
use Rattle.value_core.specs.Order.{order}
use Rattle.value_core.proofs.SortedEntries.{find-put_itself, find-put_other}
use Rattle.value_core.proofs.SortedValues.{ascends-put, map_order, size-put_new, size-put_old, sound-put, ties, total, typed-put}
use Rattle.value_core.proofs.sorted_laws.a_map_has_what_is_put.Goals as goal

pub returns : goal.returns
returns c = record {
  there = λ es k v. find-put_itself total k v es;
  others = λ es k v q other. find-put_other total ties k q v es other;
  ascends = λ es k v up. ascends-put k v es up;
  length = λ es k v up. length-put order total k v es (map_order es up);
  new_size = λ es k v none. size-put_new k v es none;
  changed_size = λ es k v w up found. size-put_old k v w es up found;
  sound = λ es k v all key value few. sound-put k v es all key value few;
  typed = λ s t es k v all key value few. typed-put s t k v es all key value few;
}
