-- What is left of the type has fewer nodes; under the levels that wait it is the type.
use Rattle.std.proofs.Common.{◌+◌, ◌*◌, ◌≤◌}
use Rattle.value_core.specs.Nodes.{nodes_of}
use Rattle.michelson_typer.proofs.WritingLaws.{IsUnder}
use Rattle.michelson_typer.proofs.written.+writing.Given as goal

abbrev pub invariant-intern_type-loop-above : goal.invariant-intern_type-loop-above
invariant-intern_type-loop-above l = (nodes_of l.rest ≤ nodes_of l.t) × IsUnder l.initial.types l.t l.types l.above.items l.rest

abbrev pub decreases-intern_type-loop-above : goal.decreases-intern_type-loop-above
decreases-intern_type-loop-above l = nodes_of l.rest

abbrev pub decreases-intern_type : goal.decreases-intern_type
decreases-intern_type l = 2 * nodes_of l.t.now + 1

abbrev pub decreases-open_type : goal.decreases-open_type
decreases-open_type l = 2 * nodes_of l.t.now
