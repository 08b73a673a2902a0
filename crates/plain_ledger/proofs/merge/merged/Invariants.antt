use Rattle.std.proofs.Common.{◌≡◌, ◌++◌, drop}
use Rattle.std.specs.Prelude.{map}
use Rattle.plain_ledger.specs.Ledger.{Ascends, pair}
use Rattle.plain_ledger.proofs.Changing.{set_all}
use Rattle.plain_ledger.proofs.merge.merged.Given as goal

abbrev pub invariant-loop-change : goal.invariant-loop-change
invariant-loop-change l = record {
  ascend : Ascends l.rest;
  so_far : map pair l.out.items ++ set_all (map pair l.rest) (map pair (drop l.change-index l.changes)) ≡ set_all (map pair l.holdings) (map pair l.changes);
}
