-- What every turn keeps, all of them keep.
use Rattle.op_run.proofs.serial.finish.Goals as goal

pub turn-requires-clause-along : goal.turn-requires-clause-along
turn-requires-clause-along g c = (c.requires.along.0, c.turns.invariant.goes.on c.requires.along.0 c.requires.along.1)
