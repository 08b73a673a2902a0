-- The script that is typed is the one that is counted.
use Rattle.std.proofs.Common.{◌-◌, ◌^◌, List, min, ap, ◌∙◌}
use Rattle.michelson_code.specs.declared.instr.Instr.{Instr}
use Rattle.michelson_code.specs.declared.script.Script.{Script}
use Rattle.michelson_code.specs.Weight.{code_count}
use Rattle.block_cli.proofs.Weights.{whole_count}
use Rattle.block_cli.proofs.faulty.count_of.Goals as goal

pub returns : goal.returns
returns c =
    c.count.ensures
    ∙ ap (λ (code : List Instr). min (code_count code) (2 ^ 64 - 1)) c.as_slice.ensures
    ∙ whole_count c.script.result.now c.script.ensures.typed c.a_typed_script_is_short.ensures
    ∙ ap (λ (s : Script). code_count s.code) c.script.ensures.script
