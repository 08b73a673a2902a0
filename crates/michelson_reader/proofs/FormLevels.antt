-- Which nodes an instruction is written as, one level at a time.
use Rattle.std.proofs.Common.{◌≡◌, ap, ◌∙◌}
use Rattle.micheline_text.specs.declared.node.Node.{Node}
use Rattle.micheline_text.specs.declared.node.Body.TheViews.{out-Body}
use Rattle.michelson_code.specs.declared.instr.Instr.{Instr}
use Rattle.michelson_code.specs.declared.instr.Instr.TheViews.{out-Instr}
use Rattle.michelson_code.specs.declared.instr.Instr.TheFolds.{fold_out-Instr}
use Rattle.data_nodes.specs.Nodes.{Test}
use Rattle.michelson_code.specs.Forms.{Form, form_of}
use Rattle.michelson_code.specs.Levels.{form_at-map, form_map}
use Rattle.michelson_reader.specs.Code.{code_level, is_form_body, is_instruction}

-- which nodes an instruction is written as
pub is_instruction-level : (i : Instr) (n : Node) → is_instruction i n ≡ is_form_body (form_map is_instruction (form_of i)) (out-Body n.body)
is_instruction-level i n =
    ap (λ (test : Test). test n) (fold_out-Instr Test code_level i) ∙ ap (λ (f : Form Test). is_form_body f (out-Body n.body)) (form_at-map is_instruction (out-Instr i))
