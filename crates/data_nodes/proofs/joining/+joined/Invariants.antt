-- The whole is a comb of what its first parts were joined to and what the rest is joined to.
use Rattle.std.proofs.Common.{◌≡◌, ◌≤◌}
use Rattle.value_core.specs.declared.val.Val.{size-Val}
use Rattle.value_core.specs.declared.val.Val.TheVariants as value
use Rattle.value_core.specs.Combs.{comb}
use Rattle.data_nodes.specs.Storage.{with_entries}
use Rattle.data_nodes.proofs.joining.+joined.Given as goal

abbrev pub invariant-loop-rest : goal.invariant-loop-rest
invariant-loop-rest l = record {
  same : with_entries l.entries l.fn.storage ≡ comb value.Pair l.firsts (with_entries l.entries l.rest);
  no_deeper : size-Val l.rest ≤ size-Val l.fn.storage;
}
