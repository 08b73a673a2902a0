-- By what stands at one level.
use Rattle.value_laws.proofs.TagEquations.{tag-addr, tag-big_map, tag-bool, tag-bytes, tag-contract, tag-int, tag-left, tag-list, tag-map, tag-mutez, tag-nat, tag-nothing, tag-operation, tag-pair, tag-right, tag-set, tag-some, tag-text, tag-time, tag-unit}
use Rattle.value_laws.proofs.order.tags_go_by_kind.Goals as goal

pub returns : goal.returns
returns c = record {
  unit = tag-unit;
  bool = tag-bool;
  int = tag-int;
  nat = tag-nat;
  mutez = tag-mutez;
  time = tag-time;
  text = tag-text;
  bytes = tag-bytes;
  addr = tag-addr;
  nothing = tag-nothing;
  some = tag-some;
  left = tag-left;
  right = tag-right;
  pair = tag-pair;
  list = tag-list;
  set = tag-set;
  map = tag-map;
  big_map = tag-big_map;
  contract = tag-contract;
  operation = tag-operation;
}
