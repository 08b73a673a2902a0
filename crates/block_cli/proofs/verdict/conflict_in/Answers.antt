use Rattle.std.proofs.Common.{◌≡◌, ℕ, List, ap, sym, subst}
use Rattle.join_schedule.specs.Joins.{AreJoins}
use Rattle.transfer_blocks.specs.Block.{BlockView}
use Rattle.block_cli.proofs.verdict.conflict_in.Goals as goal

pub first_unordered-requires-clause-joins : goal.first_unordered-requires-clause-joins
first_unordered-requires-clause-joins c =
    let same : c.block.inside.joins ≡ c.args.block.now.joins = ap (λ (b : BlockView). b.joins) c.block.view_is in
    subst (λ (joins : List (List ℕ)). AreJoins joins) (sym same) c.requires.joins
