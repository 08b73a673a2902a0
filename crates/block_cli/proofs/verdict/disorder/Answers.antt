use Rattle.std.proofs.Common.{◌≡◌, ℕ, List, ap, subst}
use Rattle.join_schedule.specs.Joins.{AreJoins}
use Rattle.transfer_blocks.specs.Block.{BlockView}
use Rattle.block_cli.proofs.Disorder.{by_conflict}
use Rattle.block_cli.proofs.verdict.disorder.Goals as goal

pub conflict_in-requires-clause-joins : goal.conflict_in-requires-clause-joins
conflict_in-requires-clause-joins c =
    let same : c.block.inside.joins ≡ c.args.block.now.joins = ap (λ (b : BlockView). b.joins) c.block.view_is in
    subst (λ (joins : List (List ℕ)). AreJoins joins) same c.in-None.ensures.none

pub returns-in-None : goal.returns-in-None
returns-in-None c =
    let same : c.block.inside.joins ≡ c.args.block.now.joins = ap (λ (b : BlockView). b.joins) c.block.view_is in
    let joins = subst (λ (joins : List (List ℕ)). AreJoins joins) same c.in-None.ensures.none in
    by_conflict c.args.state.now c.args.block.now (c.in_ok-is_on.ensures.0 c.if-not-branch.false) joins c.conflict_in.result c.conflict_in.ensures
