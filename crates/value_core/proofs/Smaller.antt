-- The second part of a pair is less deep than the pair.
use Rattle.std.proofs.Common.{◌≡◌, ◌<◌, rules}
use Rattle.value_core.specs.declared.val.Val.{Val, size-Val}
use Rattle.value_core.specs.declared.val.Val.TheVariants as value
use Rattle.value_core.specs.declared.val.Val.TheViews.{the_lemmas}

pub smaller_pair : (v a b : Val) → v ≡ value.Pair a b → size-Val b < size-Val v
smaller_pair v a b is = search (rules, the_lemmas)
