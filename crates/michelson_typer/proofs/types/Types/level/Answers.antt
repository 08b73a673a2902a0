-- The level of a row is that of its type.
use Rattle.std.proofs.Common.{sym}
use Rattle.michelson_typer.proofs.RowLaws.{read_level, read_parts}
use Rattle.michelson_typer.proofs.types.Types.level.Goals as goal

pub returns-clause-parts : goal.returns-clause-parts
returns-clause-parts c =
    read_parts c.self.inside.rows.entries c.args.self.now c.self.invariant c.self.view_is c.args.id
    (c.in-Some.level.now, c.in-Some.field-0-1.now) c.requires (sym c.in-Some.ensures.entry)

pub returns-clause-is : goal.returns-clause-is
returns-clause-is c =
    read_level c.self.inside.rows.entries c.args.self.now c.self.invariant c.self.view_is c.args.id
    (c.in-Some.level.now, c.in-Some.field-0-1.now) c.requires (sym c.in-Some.ensures.entry)
