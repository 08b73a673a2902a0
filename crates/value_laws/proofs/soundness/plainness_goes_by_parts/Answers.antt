-- By what stands at one level.
use Rattle.value_laws.proofs.PlainnessEquations.{plain-addr, plain-big_map, plain-bool, plain-bytes, plain-contract, plain-int, plain-left, plain-list, plain-map, plain-mutez, plain-nat, plain-nothing, plain-operation, plain-pair, plain-right, plain-set, plain-some, plain-text, plain-time, plain-unit}
use Rattle.value_laws.proofs.soundness.plainness_goes_by_parts.Goals as goal

pub returns : goal.returns
returns c = record {
  nat = plain-nat;
  mutez = plain-mutez;
  big_map = plain-big_map;
  some = plain-some;
  left = plain-left;
  right = plain-right;
  pair = plain-pair;
  list = plain-list;
  set = plain-set;
  map = plain-map;
  contract = plain-contract;
  operation = plain-operation;
  unit = plain-unit;
  bool = plain-bool;
  int = plain-int;
  time = plain-time;
  text = plain-text;
  bytes = plain-bytes;
  addr = plain-addr;
  nothing = plain-nothing;
}
