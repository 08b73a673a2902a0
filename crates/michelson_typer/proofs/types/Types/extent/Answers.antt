-- The extent of a row is that of its type.
use Rattle.std.proofs.Common.{sym}
use Rattle.michelson_typer.proofs.RowLaws.{read_extent}
use Rattle.michelson_typer.proofs.types.Types.extent.Goals as goal

pub returns : goal.returns
returns c =
    read_extent c.self.inside.rows.entries c.args.self.now c.self.invariant c.self.view_is c.args.id
    (c.in-Some.field-0-0.now, c.in-Some.extent.now) c.requires (sym c.in-Some.ensures.entry)
