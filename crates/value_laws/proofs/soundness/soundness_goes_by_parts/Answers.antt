-- By what stands at one level.
use Rattle.value_core.proofs.SoundLemmas.{sound-list, sound-map, sound-pair, sound-set}
use Rattle.value_laws.proofs.SoundnessEquations.{sound-addr, sound-big_map, sound-bool, sound-bytes, sound-contract, sound-int, sound-left, sound-mutez, sound-nat, sound-nothing, sound-operation, sound-right, sound-some, sound-text, sound-time, sound-unit}
use Rattle.value_laws.proofs.soundness.soundness_goes_by_parts.Goals as goal

pub returns : goal.returns
returns c = record {
  nat = sound-nat;
  mutez = sound-mutez;
  big_map = sound-big_map;
  some = sound-some;
  left = sound-left;
  right = sound-right;
  pair = sound-pair;
  list = sound-list;
  set = sound-set;
  map = sound-map;
  operation = sound-operation;
  unit = sound-unit;
  bool = sound-bool;
  int = sound-int;
  time = sound-time;
  text = sound-text;
  bytes = sound-bytes;
  addr = sound-addr;
  nothing = sound-nothing;
  contract = sound-contract;
}
