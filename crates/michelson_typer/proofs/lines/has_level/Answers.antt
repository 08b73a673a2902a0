-- Levels of one type are one.
use Rattle.michelson_typer.proofs.MatchLaws.{level_tested}
use Rattle.michelson_typer.proofs.lines.has_level.Goals as goal

pub returns : goal.returns
returns c =
    level_tested c.args.types.now c.are_distinct.ensures c.args.id c.level.result c.args.level c.level.ensures.parts c.requires.parts
    c.level.ensures.is c.eq.result c.eq.ensures
