use Rattle.std.proofs.Common.{ap}
use Rattle.michelson_typer.specs.Closed.{closed, end_of, ends_of}
use Rattle.michelson_typer.proofs.EndingLaws.{ending_none, ending_two}
use Rattle.michelson_typer.proofs.closing.outcome.Goals as goal

pub returns-in-None-clause-closes : goal.returns-in-None-clause-closes
returns-in-None-clause-closes c =
    ending_none c.args.types.now c.args.instr.now c.args.stack.now c.requires.begun c.requires.stack c.are_distinct.ensures (ends_of c.args.ends) (ap ends_of c.in-None.is) c.requires.many

pub returns-in-Two-clause-closes : goal.returns-in-Two-clause-closes
returns-in-Two-clause-closes c =
    ending_two c.args.types.now c.args.instr.now c.args.stack.now c.requires.begun c.requires.stack c.are_distinct.ensures (ends_of c.args.ends) (end_of c.in-Two.first) (end_of c.in-Two.second) (closed c.after_branches.result) (ap ends_of c.in-Two.is) c.requires.many c.requires.ends
    c.after_branches.ensures
