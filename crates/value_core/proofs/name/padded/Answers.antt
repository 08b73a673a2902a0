-- The bytes are written over zeros, of which the last ones stay.
use Rattle.std.proofs.Common.{rules}
use Rattle.value_core.proofs.Padded.{zeros_after}
use Rattle.value_core.proofs.name.padded.Goals as goal

pub returns : goal.returns
returns c = search (rules, zeros_after c.args.b.now)
