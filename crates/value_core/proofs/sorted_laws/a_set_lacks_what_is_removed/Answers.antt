-- By the laws of entries without values.
use Rattle.value_core.proofs.SortedKeys.{has-without_itself, has-without_other, length-without_key}
use Rattle.value_core.proofs.SortedValues.{ascends-without_key, set_order, size-without_key, sound-without_key, ties, total, typed-without_key}
use Rattle.value_core.proofs.sorted_laws.a_set_lacks_what_is_removed.Goals as goal

pub returns : goal.returns
returns c = record {
  gone = λ vs k. has-without_itself total k vs;
  others = λ vs k q other. has-without_other total ties k q vs other;
  ascends = λ vs k up. ascends-without_key k vs up;
  length = λ vs k up. length-without_key total k vs (set_order vs up);
  size = λ vs k up. size-without_key k vs up;
  sound = λ vs k set. sound-without_key k vs set;
  typed = λ t vs k set. typed-without_key t k vs set;
}
