-- By what stands at one level.
use Rattle.value_laws.proofs.UseEquations.{comparable-addr, comparable-big_map, comparable-bool, comparable-bytes, comparable-contract, comparable-int, comparable-list, comparable-map, comparable-mutez, comparable-nat, comparable-operation, comparable-option, comparable-or, comparable-pair, comparable-set, comparable-text, comparable-time, comparable-unit}
use Rattle.value_laws.proofs.uses.comparing_goes_by_parts.Goals as goal

pub returns : goal.returns
returns c = record {
  option = comparable-option;
  or = comparable-or;
  pair = comparable-pair;
  list = comparable-list;
  set = comparable-set;
  map = comparable-map;
  big_map = comparable-big_map;
  contract = comparable-contract;
  unit = comparable-unit;
  bool = comparable-bool;
  int = comparable-int;
  nat = comparable-nat;
  mutez = comparable-mutez;
  time = comparable-time;
  text = comparable-text;
  bytes = comparable-bytes;
  addr = comparable-addr;
  operation = comparable-operation;
}
