-- The brackets of an instruction are those of what stands behind its word.
use Rattle.std.proofs.Common.{◌≤◌, ℕ, sym, subst, arith}
use Rattle.michelson_code.specs.Shown.{shown}
use Rattle.michelson_code.specs.Inside.{one_count}
use Rattle.michelson_code.proofs.Folded.{one_brackets}
use Rattle.michelson_code.proofs.brackets.+code_bracketing.Goals as goal

pub instr_within-operands_within-requires : goal.instr_within-operands_within-requires
instr_within-operands_within-requires t c =
    (omega (arith, c.decreases, one_count c.args.instr.now (shown c.form_of.result) c.form_of.ensures), tt)

pub instr_within-returns : goal.instr_within-returns
instr_within-returns t c =
    let is = one_brackets c.args.instr.now (shown c.form_of.result) c.form_of.ensures in (
      (λ within. subst (λ (n : ℕ). n ≤ c.args.most) (sym is) (c.operands_within.ensures.0 within)),
      (λ fits. c.operands_within.ensures.1 (subst (λ (n : ℕ). n ≤ c.args.most) is fits)),
    )
