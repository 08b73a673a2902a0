-- By what stands at one level.
use Rattle.value_laws.proofs.UseEquations.{passable-addr, passable-big_map, passable-bool, passable-bytes, passable-contract, passable-int, passable-list, passable-map, passable-mutez, passable-nat, passable-operation, passable-option, passable-or, passable-pair, passable-set, passable-text, passable-time, passable-unit}
use Rattle.value_laws.proofs.uses.passing_goes_by_parts.Goals as goal

pub returns : goal.returns
returns c = record {
  option = passable-option;
  or = passable-or;
  pair = passable-pair;
  list = passable-list;
  set = passable-set;
  map = passable-map;
  big_map = passable-big_map;
  contract = passable-contract;
  unit = passable-unit;
  bool = passable-bool;
  int = passable-int;
  nat = passable-nat;
  mutez = passable-mutez;
  time = passable-time;
  text = passable-text;
  bytes = passable-bytes;
  addr = passable-addr;
  operation = passable-operation;
}
