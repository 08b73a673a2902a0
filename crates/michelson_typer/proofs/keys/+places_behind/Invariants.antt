-- The big maps of what is left of the type take what is left of the places.
use Rattle.std.proofs.Common.{◌≡◌, ◌≤◌, length}
use Rattle.value_core.specs.declared.ty.Ty.{size-Ty}
use Rattle.value_core.specs.BigMaps.{big_maps_of}
use Rattle.value_core.specs.Counting.{room_behind}
use Rattle.michelson_typer.proofs.keys.+places_behind.Given as goal

abbrev pub invariant-loop-rest : goal.invariant-loop-rest
invariant-loop-rest l = record {
  same : room_behind (length (big_maps_of l.fn.t)) l.fn.places ≡ room_behind (length (big_maps_of l.rest)) l.left;
  no_deeper : size-Ty l.rest ≤ size-Ty l.fn.t;
}
