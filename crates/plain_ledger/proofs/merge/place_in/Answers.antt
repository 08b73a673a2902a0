use Rattle.std.proofs.Common.{rules}
use Rattle.std.proofs.lemmas.List.Sorted.{IsPartitionPoint-from_clause}
use Rattle.plain_ledger.specs.Holdings.{is_below}
use Rattle.plain_ledger.proofs.HoldingLemmas.{below_is_partitioned, below_in_front, none_behind}
use Rattle.plain_ledger.proofs.merge.place_in.Goals as goal

pub returns-clause-below : goal.returns-clause-below
returns-clause-below c =
    let point = IsPartitionPoint-from_clause (is_below c.args.address.now) _ _ c.partition_point.ensures.partitioned (below_is_partitioned c.args.address.now c.args.holdings.now c.requires) (λ a r q k. search rules) in
    below_in_front c.args.address.now c.args.holdings.now c.partition_point.result c.partition_point.ensures.bound point

pub returns-clause-others : goal.returns-clause-others
returns-clause-others c =
    let point = IsPartitionPoint-from_clause (is_below c.args.address.now) _ _ c.partition_point.ensures.partitioned (below_is_partitioned c.args.address.now c.args.holdings.now c.requires) (λ a r q k. search rules) in
    none_behind c.args.address.now c.args.holdings.now c.partition_point.result c.partition_point.ensures.bound point
