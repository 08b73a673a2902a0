-- By what stands at one level.
use Rattle.value_laws.proofs.KindLaws.{kind-addr, kind-big_map, kind-bool, kind-bytes, kind-contract, kind-int, kind-left, kind-list, kind-map, kind-mutez, kind-nat, kind-nothing, kind-operation, kind-pair, kind-right, kind-set, kind-some, kind-text, kind-time, kind-unit}
use Rattle.value_laws.proofs.kinds.a_value_has_types_of_its_kind_alone.Goals as goal

pub returns : goal.returns
returns c = record {
  unit = kind-unit;
  bool = kind-bool;
  int = kind-int;
  nat = kind-nat;
  mutez = kind-mutez;
  time = kind-time;
  text = kind-text;
  bytes = kind-bytes;
  addr = kind-addr;
  operation = kind-operation;
  nothing = kind-nothing;
  big_map = kind-big_map;
  contract = kind-contract;
  some = kind-some;
  left = kind-left;
  right = kind-right;
  pair = kind-pair;
  list = kind-list;
  set = kind-set;
  map = kind-map;
}
