-- The type so far, under the levels that still wait, is the whole.
use Rattle.std.proofs.Common.{◌<◌, length, vec_len}
use Rattle.michelson_typer.specs.Tables.{type_at}
use Rattle.michelson_typer.specs.Writing.{over_all}
use Rattle.michelson_typer.proofs.WritingLaws.{IsUnder}
use Rattle.michelson_typer.proofs.written.close_all.Given as goal

abbrev pub invariant-loop-waiting : goal.invariant-loop-waiting
invariant-loop-waiting l =
    (l.id < length l.types)
    × IsUnder l.initial.types (over_all l.initial.types l.initial.above.items (type_at l.initial.types l.initial.id)) l.types l.above.items (type_at l.types l.id)

abbrev pub decreases-loop-waiting : goal.decreases-loop-waiting
decreases-loop-waiting l = vec_len l.above
