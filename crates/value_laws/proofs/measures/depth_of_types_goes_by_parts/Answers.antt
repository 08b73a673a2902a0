-- By what stands at one level.
use Rattle.value_laws.proofs.TypeDepthEquations.{type_depth-addr, type_depth-big_map, type_depth-bool, type_depth-bytes, type_depth-contract, type_depth-int, type_depth-list, type_depth-map, type_depth-mutez, type_depth-nat, type_depth-operation, type_depth-option, type_depth-or, type_depth-pair, type_depth-set, type_depth-text, type_depth-time, type_depth-unit}
use Rattle.value_laws.proofs.measures.depth_of_types_goes_by_parts.Goals as goal

pub returns : goal.returns
returns c = record {
  option = type_depth-option;
  or = type_depth-or;
  pair = type_depth-pair;
  list = type_depth-list;
  set = type_depth-set;
  map = type_depth-map;
  big_map = type_depth-big_map;
  contract = type_depth-contract;
  unit = type_depth-unit;
  bool = type_depth-bool;
  int = type_depth-int;
  nat = type_depth-nat;
  mutez = type_depth-mutez;
  time = type_depth-time;
  text = type_depth-text;
  bytes = type_depth-bytes;
  addr = type_depth-addr;
  operation = type_depth-operation;
}
