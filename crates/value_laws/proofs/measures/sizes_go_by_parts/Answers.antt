-- By what stands at one level.
use Rattle.value_core.proofs.SizeLaws.{size-pair}
use Rattle.value_core.proofs.Sizes.{size-list, size-map, size-set}
use Rattle.value_laws.proofs.SizeEquations.{size-addr, size-big_map, size-bool, size-bytes, size-contract, size-int, size-left, size-mutez, size-nat, size-nothing, size-operation, size-right, size-some, size-text, size-time, size-unit}
use Rattle.value_laws.proofs.measures.sizes_go_by_parts.Goals as goal

pub returns : goal.returns
returns c = record {
  some = size-some;
  left = size-left;
  right = size-right;
  pair = size-pair;
  list = size-list;
  set = size-set;
  map = size-map;
  operation = size-operation;
  text = size-text;
  bytes = size-bytes;
  unit = size-unit;
  bool = size-bool;
  int = size-int;
  nat = size-nat;
  mutez = size-mutez;
  time = size-time;
  addr = size-addr;
  nothing = size-nothing;
  big_map = size-big_map;
  contract = size-contract;
}
