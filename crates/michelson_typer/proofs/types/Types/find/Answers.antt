-- A level is found exactly where its type is there.
use Rattle.michelson_typer.proofs.FoundRows.{row_found}
use Rattle.michelson_typer.proofs.KeyLaws.{id_equal, id_passes}
use Rattle.michelson_typer.proofs.types.Types.find.Goals as goal

pub returns : goal.returns
returns c =
    row_found c.self.inside.rows.entries c.args.self.now c.self.invariant c.self.view_is c.args.level c.requires _
    id_equal id_passes c.get_index_of.result c.get_index_of.ensures.index
