-- What is written for the type is a comb of what was written for its first parts and what is written for the rest.
use Rattle.std.proofs.Common.{◌≡◌, ◌≤◌}
use Rattle.value_core.specs.declared.ty.Ty.{size-Ty}
use Rattle.value_core.specs.declared.ty.Ty.TheVariants as kind
use Rattle.value_core.specs.Combs.{comb}
use Rattle.data_nodes.specs.Storage.{with_maps}
use Rattle.data_nodes.proofs.storage.+with_maps.Given as goal

abbrev pub invariant-loop-rest : goal.invariant-loop-rest
invariant-loop-rest l = record {
  same : with_maps l.fn.t ≡ comb kind.Pair l.firsts (with_maps l.rest);
  no_deeper : size-Ty l.rest ≤ size-Ty l.fn.t;
}
