use Rattle.std.proofs.Common.{◌≡◌, ◌+◌, ◌-◌, ◌≤◌, ◌++◌, drop, length, suc, take, vec_capacity, vec_len}
use Rattle.std.specs.Option.{option_map}
use Rattle.michelson_rules.specs.Plain.{parts_of_comb}
use Rattle.michelson_data.proofs.pairs.spread.Given as goal

abbrev pub invariant-loop : goal.invariant-loop
invariant-loop l = record {
  told : parts_of_comb l.n l.fn.v ≡ option_map (λ more. drop l.below l.stack.items ++ more) (parts_of_comb (suc (l.n - l.counter)) l.rest);
  under : l.fn.stack.items ≡ take l.below l.stack.items;
  high : l.below ≤ length l.stack.items;
  height : l.below + l.counter ≡ suc (vec_len l.stack);
  room : vec_len l.stack + suc (l.n - l.counter) ≤ vec_capacity l.stack;
}
