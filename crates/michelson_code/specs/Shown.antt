-- What is lent of an instruction, without the loans.
use Rattle.std.specs.Prelude.{◌≡◌, List, [], ◌∷◌}
use Rattle.michelson_code.specs.declared.instr.Instr.{Instr}
use Rattle.michelson_code.specs.declared.table.Form as lent_form
use Rattle.michelson_code.specs.declared.table.Operand as lent_operand
use Rattle.michelson_code.specs.declared.table.Operand.TheVariants as operand
use Rattle.michelson_code.specs.declared.table.Operands as lent_operands
use Rattle.michelson_code.specs.declared.table.Operands.TheVariants as operands
use Rattle.michelson_code.specs.Forms.{Form, Operand, ANumber, AType, SomeData, ACode}

-- what is lent as an operand
abbrev pub operand_shown : lent_operand.Operand → Operand Instr
operand_shown (operand.Number least number) = ANumber least number
operand_shown (operand.Type t) = AType t.now
operand_shown (operand.Data t v) = SomeData t.now v.now
operand_shown (operand.Code c) = ACode c.now

-- the operands, from the left
abbrev pub operands_shown : lent_operands.Operands → List (Operand Instr)
operands_shown operands.None = []
operands_shown (operands.One x) = operand_shown x ∷ []
operands_shown (operands.Two x y) = operand_shown x ∷ operand_shown y ∷ []

-- the form that is lent
abbrev pub shown : lent_form.Form → Form Instr
shown f = record { word = f.word.now; cost = f.cost; entry = f.entry; operands = operands_shown f.operands }

-- the forms have one word, and the same name of an entry or none
abbrev pub HaveSameWord : Form Instr → Form Instr → Type 0
HaveSameWord f g = (f.word ≡ g.word) × (f.entry ≡ g.entry)
