-- The number so far and what is left give the number.
use Rattle.std.proofs.Common.{◌≡◌, ◌<◌, ◌≤◌, ◌+◌, ◌-◌, ◌^◌, length, min}
use Rattle.value_core.specs.declared.ty.Ty.{size-Ty}
use Rattle.value_core.specs.BigMaps.{big_maps_of}
use Rattle.value_core.proofs.big_maps.+count_big_maps.Given as goal

abbrev pub invariant-loop-rest : goal.invariant-loop-rest
invariant-loop-rest l = record {
  same : min (length (big_maps_of l.fn.t)) (2 ^ 64 - 1) ≡ min (l.count + length (big_maps_of l.rest)) (2 ^ 64 - 1);
  fits : l.count < 2 ^ 64;
  no_deeper : size-Ty l.rest ≤ size-Ty l.fn.t;
}
