-- How much gas a code costs once through, and how many instructions it has.
use Rattle.std.specs.Prelude.{ℕ, ◌+◌, List, sum, sum_by}
use Rattle.michelson_code.specs.declared.instr.Instr.{Instr}
use Rattle.michelson_code.specs.declared.instr.Instr.TheOpen.{Instr-F}
use Rattle.michelson_code.specs.declared.instr.Instr.TheFolds.{fold-Instr}
use Rattle.michelson_code.specs.Forms.{bodies, form_at}

-- one level of an instruction, with the weight of each instruction of a body in its place
abbrev pub weight_at : Instr-F ℕ → ℕ
weight_at x = (form_at x).cost + sum_by sum (bodies (form_at x).operands)

-- the cost of an instruction and of all in its bodies, each once
abbrev pub weight_of : Instr → ℕ
weight_of = fold-Instr ℕ weight_at

-- the costs of all instructions of a code, both branches and each body once
abbrev pub code_weight : List Instr → ℕ
code_weight = sum_by weight_of

-- one level of an instruction, with the count of each instruction of a body in its place
abbrev pub count_at : Instr-F ℕ → ℕ
count_at x = 1 + sum_by sum (bodies (form_at x).operands)

-- an instruction and all in its bodies
abbrev pub count_of : Instr → ℕ
count_of = fold-Instr ℕ count_at

-- the instructions of a code, those in bodies included
abbrev pub code_count : List Instr → ℕ
code_count = sum_by count_of
