-- By the line that was ASCII.
use Rattle.std.proofs.Common.{◌≡◌, true, ◌∙◌}
use Rattle.std.specs.Char.{is_ascii}
use Rattle.std.specs.List.{list_all}
use Rattle.chain_text.proofs.HeadLemmas.{ascii_is, one_passes}
use Rattle.chain_text.proofs.heads.all_ascii.Goals as goal

pub loop-line-preserved : goal.loop-line-preserved
loop-line-preserved c =
    let ascii : list_all is_ascii c.in-Some.line.bytes.now ≡ true = ascii_is c.is_ascii.result c.in-Some.line.bytes.now c.is_ascii.ensures.cases ∙ c.if-not-is_ascii.false in
    one_passes _ _ c.in-Some.line.bytes.now _ _ c.in-Some.ensures.next c.in-Some.ensures.next_number ascii ∙ c.loop-line.invariant
