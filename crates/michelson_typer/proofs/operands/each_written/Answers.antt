-- Of two operands each is asked.
use Rattle.std.proofs.Common.{◌≡◌, [], ◌∷◌, ap, sym, ◌∙◌}
use Rattle.michelson_code.specs.Forms.{form_of}
use Rattle.michelson_code.specs.Shown.{operand_shown, operands_shown}
use Rattle.michelson_typer.proofs.OperandLaws.{first_decides, second_decides}
use Rattle.michelson_typer.proofs.operands.each_written.Goals as goal
use Rattle.michelson_typer.proofs.operands.each_written.Goals.{then-is_written, else-is_written}

pub returns : goal.returns
returns g c = λ p tells.
    let two : (form_of c.args.instr.now).operands ≡ operand_shown c.in-Two.x ∷ operand_shown c.in-Two.y ∷ [] =
    sym (ap (λ f. f.operands) c.form_of.ensures) ∙ ap operands_shown c.in-Two.is in
    let asked = c.is_written-in-Two.ensures p tells in
    elim c.if-is_written.branch [
      | then-is_written w ↦
          w.result-is ∙ second_decides p _ _ _ two _ asked _ (w.is_written-then-is_written.ensures p tells) w.if-is_written.true
      | else-is_written w ↦ w.result-is ∙ first_decides p _ _ _ two _ asked w.if-is_written.false
    ]
