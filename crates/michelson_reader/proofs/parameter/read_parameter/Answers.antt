-- The parameter is the part at the root.
use Rattle.michelson_reader.proofs.Ways.{whole}
use Rattle.michelson_reader.proofs.parameter.read_parameter.Goals as goal

pub returns : goal.returns
returns c = whole c.args.n.now c.in_ok-ty.ty c.part.new.place.names (rw (c.new.ensures, c.new-2.ensures) at c.in_ok-ty.ensures.read)
