-- An option of a level stands where the level stands below an option.
use Rattle.michelson_typer.proofs.MatchLaws.{one_option_of}
use Rattle.michelson_typer.proofs.lines.slot_stands.Goals as goal

pub returns-in-Option-clause-answer : goal.returns-in-Option-clause-answer
returns-in-Option-clause-answer c =
    one_option_of c.args.types.now c.args.written c.args.letters c.level_stands-in-Option.result c.args.slot c.in-OptionOf.level c.args.id c.in-Option.t
    c.level-in-Option.result c.in-OptionOf.is c.in-Option.ensures.is c.level-in-Option.ensures.is c.level_stands-in-Option.ensures.answer
