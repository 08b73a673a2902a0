use Rattle.michelson_typer.proofs.MappingLaws.{remakes_list, remakes_map}
use Rattle.michelson_typer.proofs.closing.remade.Goals as goal

pub returns-in-Map : goal.returns-in-Map
returns-in-Map c = remakes_map c.args.types.now c.args.top c.args.made c.in-Map.k c.in-Map.field-1 c.requires.made c.in-Map.ensures.is c.in-Map.ensures.parts

pub returns-in_default : goal.returns-in_default
returns-in_default c = remakes_list c.args.types.now c.args.top c.args.made c.level.result c.requires.made c.level.ensures.is c.in_default.not-Map
