-- By the lines of its operands, and by the type on top of the stack.
use Rattle.std.proofs.Common.{inl, inr}
use Rattle.std.specs.Prelude.{List, ◌⊎◌}
use Rattle.value_core.specs.declared.ty.Ty.{Ty}
use Rattle.michelson_code.specs.declared.instr.Instr.{Instr}
use Rattle.michelson_code.specs.declared.instr.Instr.TheViews.{out-Instr}
use Rattle.michelson_code.specs.Typing.{MayBegin}
use Rattle.michelson_code.proofs.DecidedBodies.{opened_decided}
use Rattle.michelson_code.proofs.DecidedLines.{applies_decided}
use Rattle.michelson_code.proofs.typing_laws.operands_are_found_or_not.Goals as goal

begins_or_not : (i : Instr) (b : List Ty) → MayBegin i b ⊎ (MayBegin i b → ⊥)
begins_or_not i b =
    elim (opened_decided (out-Instr i) b) [
      | inl o ↦ inl (o.starts, (o.ends, (o.outcome, o.line)))
      | inr none ↦ inr (λ m. none (record { starts = m.0; ends = m.1.0; outcome = m.1.1.0; line = m.1.1.1 }))
    ]

pub returns : goal.returns
returns c = record { lines = λ s i b. applies_decided s (out-Instr i) b; bodies = begins_or_not }
