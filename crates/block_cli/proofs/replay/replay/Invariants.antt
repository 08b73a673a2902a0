use Rattle.block_cli.proofs.Replaying.{TellsAfter}
use Rattle.block_cli.proofs.replay.replay.Given as goal

abbrev pub invariant-loop-i : goal.invariant-loop-i
invariant-loop-i l = TellsAfter l.fn.state l.block l.i l.balances
