-- A type that is written is asked itself.
use Rattle.std.proofs.Common.{refl, sym, ◌∙◌}
use Rattle.value_core.proofs.Bools.{and_true}
use Rattle.michelson_typer.proofs.operands.is_written.Goals as goal

pub returns-in-Type : goal.returns-in-Type
returns-in-Type g c = λ p tells.
    rw c.in-Type.is
    (tells c.in-Type.t.now c.test.result (record { shown = c.in-Type.t; shows = refl; says = record { met = c.test.ensures } })
    ∙ sym (and_true (p c.in-Type.t.now)))
