-- A fault of the text is told; want of memory went another way.
use Rattle.std.proofs.Common.{◌≡◌, true, false, sym, ◌∙◌}
use Rattle.block_cli.proofs.Checked.{answer_no_script}
use Rattle.block_cli.proofs.check.refused.Goals as goal

pub returns : goal.returns
returns c =
    answer_no_script c.args.code.now c.args.bytes.now c.args.fault.now _ c.requires
    (λ memory. let both : true ≡ false = sym (c.is_want_of_memory.ensures.1 memory) ∙ c.if-is_want_of_memory.false in absurd cc)
    c.in_ok-no_script.ensures
