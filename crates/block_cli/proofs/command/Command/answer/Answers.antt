use Rattle.std.proofs.Common.{◌≤◌, ℕ, List, [], length, subst, arith}
use Rattle.std.specs.List.{All}
use Rattle.edge_io.specs.Outside.{most_bytes}
use Rattle.block_cli.proofs.command.Command.answer.Goals as goal

pub validate-requires : goal.validate-requires
validate-requires c =
    let short = subst (λ (l : List (List ℕ)). All (λ bytes. length bytes ≤ most_bytes) l) c.both-spelt.ensures c.requires.short in
    short 0 [] (omega arith)
