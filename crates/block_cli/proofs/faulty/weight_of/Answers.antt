-- The script that is typed is the one that is weighed.
use Rattle.std.proofs.Common.{◌-◌, ◌^◌, List, min, ap, ◌∙◌}
use Rattle.michelson_code.specs.declared.instr.Instr.{Instr}
use Rattle.michelson_code.specs.declared.script.Script.{Script}
use Rattle.michelson_code.specs.Weight.{code_weight}
use Rattle.block_cli.proofs.Weights.{whole_weight}
use Rattle.block_cli.proofs.faulty.weight_of.Goals as goal

pub returns : goal.returns
returns c =
    c.weight.ensures
    ∙ ap (λ (code : List Instr). min (code_weight code) (2 ^ 64 - 1)) c.as_slice.ensures
    ∙ whole_weight c.script.result.now c.script.ensures.typed c.a_typed_script_is_short.ensures c.a_code_weighs_at_most_ten_times_its_count.ensures
    ∙ ap (λ (s : Script). code_weight s.code) c.script.ensures.script
