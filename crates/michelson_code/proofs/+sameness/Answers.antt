-- Two instructions of one word and one entry's name are equal exactly where their operands are.
use Rattle.std.proofs.Common.{arith}
use Rattle.michelson_code.specs.Shown.{shown}
use Rattle.michelson_code.proofs.Determined.{same_by_operands}
use Rattle.michelson_code.specs.Inside.{one_count}
use Rattle.michelson_code.proofs.+sameness.Goals as goal

pub instr::Instr::same-same_operands-requires : goal.instr::Instr::same-same_operands-requires
instr::Instr::same-same_operands-requires t c =
    (omega (arith, c.decreases, one_count c.args.self.now (shown c.form_of-a.result) c.form_of-a.ensures), tt)

pub instr::Instr::same-returns-then-have_same_word : goal.instr::Instr::same-returns-then-have_same_word
instr::Instr::same-returns-then-have_same_word t c =
    let same = same_by_operands c.args.self.now c.args.other.now (shown c.form_of-a.result) (shown c.form_of-b.result) c.form_of-a.ensures c.form_of-b.ensures
    (c.have_same_word.ensures.0 c.if-have_same_word.true) in
    ((λ operands. same.0 (c.same_operands.ensures.0 operands)), (λ equal. c.same_operands.ensures.1 (same.1 equal)))
