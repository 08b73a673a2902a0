-- By the laws of entries without values.
use Rattle.value_core.proofs.SortedKeys.{has-with_itself, has-with_other, length-with}
use Rattle.value_core.proofs.SortedValues.{ascends-with, set_order, size-with, sound-with, ties, total, typed-with}
use Rattle.value_core.proofs.sorted_laws.a_set_has_what_is_inserted.Goals as goal

pub returns : goal.returns
returns c = record {
  there = λ vs k. has-with_itself total k vs;
  others = λ vs k q other. has-with_other total ties k q vs other;
  ascends = λ vs k up. ascends-with k vs up;
  length = λ vs k up. length-with total k vs (set_order vs up);
  size = λ vs k up. size-with k vs up;
  sound = λ vs k set key few. sound-with k vs set key few;
  typed = λ t vs k set key few. typed-with t k vs set key few;
}
