use Rattle.std.proofs.Common.{◌≡◌, ◌-◌, ◌≤◌, suc}
use Rattle.std.specs.Prelude.{is_some}
use Rattle.michelson_rules.specs.Plain.{parts_of_comb}
use Rattle.michelson_data.proofs.pairs.has_parts.Given as goal

abbrev pub invariant-loop : goal.invariant-loop
invariant-loop l = 1 ≤ l.n → is_some (parts_of_comb (suc (l.n - l.counter)) l.rest) ≡ is_some (parts_of_comb l.n l.v)
