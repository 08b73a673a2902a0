-- The names so far are seen, and stand apart.
use Rattle.michelson_typer.proofs.NameLaws.{AreSeen}
use Rattle.michelson_typer.proofs.whole.are_named_apart.Given as goal

abbrev pub invariant-loop-entry : goal.invariant-loop-entry
invariant-loop-entry l = AreSeen l.names l.entry-index l.seen.keys
