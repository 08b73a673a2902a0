-- The cells of a state are writable.
use Rattle.std.proofs.Common.{ap, ◌∙◌}
use Rattle.std.specs.FinMap.{entries}
use Rattle.state_digest.proofs.Writable.{first_and_rest}
use Rattle.state_digest.proofs.rows.Rows.of.Goals as goal

pub invariant_of-result : goal.invariant_of-result
invariant_of-result c =
    first_and_rest c.args.s.now c.walk-walk.result c.next-next.new.self c.next-next.result c.cells.ensures.lawful
    (c.walk-walk.ensures ∙ ap entries c.cells.ensures.cells.cells) c.next-next.ensures
