-- By what stands at one level.
use Rattle.value_core.proofs.TypeEquations.{has_type-addr, has_type-big_map, has_type-bool, has_type-bytes, has_type-contract, has_type-int, has_type-mutez, has_type-nat, has_type-nothing, has_type-operation, has_type-text, has_type-time, has_type-unit}
use Rattle.value_laws.proofs.types.types_go_by_kind.Goals as goal

pub returns : goal.returns
returns c = record {
  unit = has_type-unit;
  bool = has_type-bool;
  int = has_type-int;
  nat = has_type-nat;
  mutez = has_type-mutez;
  time = has_type-time;
  text = has_type-text;
  bytes = has_type-bytes;
  addr = has_type-addr;
  nothing = has_type-nothing;
  big_map = has_type-big_map;
  contract = has_type-contract;
  operation = has_type-operation;
}
