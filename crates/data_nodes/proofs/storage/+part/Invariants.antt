-- What becomes of the rest tells what becomes of the whole.
use Rattle.std.proofs.Common.{◌≤◌, ◌+◌, length}
use Rattle.std.specs.Prelude.{IsTrue}
use Rattle.value_core.specs.declared.ty.Ty.{size-Ty}
use Rattle.value_core.specs.BigMaps.{big_maps_of}
use Rattle.value_core.specs.Typed.{has_type}
use Rattle.data_nodes.specs.Storage.{with_maps}
use Rattle.data_nodes.proofs.Partings.{Tells}
use Rattle.data_nodes.proofs.storage.+part.Given as goal

abbrev pub invariant-loop-kind : goal.invariant-loop-kind
invariant-loop-kind l = record {
  tells : Tells l.fn.t l.fn.v l.fn.first l.fn.entries.items l.firsts l.kind l.rest l.next l.entries.items;
  typed : IsTrue (has_type l.rest (with_maps l.kind));
  few : l.next + length (big_maps_of l.kind) ≤ 16;
  no_deeper : size-Ty l.kind ≤ size-Ty l.fn.t;
}

abbrev pub decreases-part : goal.decreases-part
decreases-part l = size-Ty l.t.now
