-- By what stands at one level.
use Rattle.value_core.proofs.OrderLemmas.{order_lists, order_maps, order_operations, order_sets}
use Rattle.value_laws.proofs.OrderEquations.{order-addr, order-big_map, order-bool, order-bytes, order-contract, order-int, order-left, order-mutez, order-nat, order-nothing, order-pair, order-right, order-some, order-tags, order-text, order-time, order-unit}
use Rattle.value_laws.proofs.order.order_goes_by_tag_and_parts.Goals as goal

pub returns : goal.returns
returns c = record {
  tags = order-tags;
  unit = order-unit;
  bool = order-bool;
  int = order-int;
  nat = order-nat;
  mutez = order-mutez;
  time = order-time;
  text = order-text;
  bytes = order-bytes;
  addr = order-addr;
  nothing = order-nothing;
  big_map = order-big_map;
  contract = order-contract;
  some = order-some;
  left = order-left;
  right = order-right;
  pair = order-pair;
  list = order_lists;
  set = order_sets;
  map = order_maps;
  operation = order_operations;
}
