-- By what stands at one level.
use Rattle.value_core.proofs.Depths.{depth_list, depth_map, depth_set}
use Rattle.value_laws.proofs.DepthEquations.{depth-addr, depth-big_map, depth-bool, depth-bytes, depth-contract, depth-int, depth-left, depth-mutez, depth-nat, depth-nothing, depth-operation, depth-pair, depth-right, depth-some, depth-text, depth-time, depth-unit}
use Rattle.value_laws.proofs.measures.depth_goes_by_parts.Goals as goal

pub returns : goal.returns
returns c = record {
  some = depth-some;
  left = depth-left;
  right = depth-right;
  pair = depth-pair;
  list = depth_list;
  set = depth_set;
  map = depth_map;
  operation = depth-operation;
  unit = depth-unit;
  bool = depth-bool;
  int = depth-int;
  nat = depth-nat;
  mutez = depth-mutez;
  time = depth-time;
  text = depth-text;
  bytes = depth-bytes;
  addr = depth-addr;
  nothing = depth-nothing;
  big_map = depth-big_map;
  contract = depth-contract;
}
