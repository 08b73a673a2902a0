-- A type that isn't there yet goes behind the others.
use Rattle.michelson_typer.proofs.FoundRows.{Added, rows_added}
use Rattle.michelson_typer.proofs.KeyLaws.{id_equal, id_passes, same_ids}
use Rattle.michelson_typer.proofs.types.Types.add.Goals as goal

added : (c : goal.In_ok-insert) → Added c.self.inside.rows.entries c.args.self.now c.self.invariant c.self.view_is c.args.level c.requires.parts same_ids id_equal id_passes c.insert.new.self.entries
added c =
    rows_added c.self.inside.rows.entries c.args.self.now c.self.invariant c.self.view_is c.args.level c.requires.parts same_ids
    id_equal id_passes c.level_extent-extent.result c.requires.absent c.level_extent-extent.ensures c.insert.new.self.entries c.in_ok-insert.ensures.entries

pub invariant_of-self-2 : goal.invariant_of-self-2
invariant_of-self-2 c = (added c).are_rows

pub returns-clause-ok : goal.returns-clause-ok
returns-clause-ok c = (added c).types
