-- What is left decides on the place behind it.
use Rattle.std.proofs.Common.{◌≡◌, ◌≤◌}
use Rattle.value_core.specs.declared.val.Val.{size-Val}
use Rattle.value_core.specs.BigMaps.{place_behind, placing}
use Rattle.value_core.proofs.big_maps.+place_behind.Given as goal

abbrev pub invariant-loop-kind : goal.invariant-loop-kind
invariant-loop-kind l = record {
  same : place_behind (placing l.fn.t) l.fn.first l.fn.v ≡ place_behind (placing l.kind) l.next l.rest;
  no_deeper : size-Val l.rest ≤ size-Val l.fn.v;
}
