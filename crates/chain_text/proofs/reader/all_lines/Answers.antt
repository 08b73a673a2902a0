-- By the line in front of the others.
use Rattle.std.proofs.Common.{ap}
use Rattle.chain_text.specs.Standing.{Standing, nothing}
use Rattle.chain_text.specs.Inside.{left_groups}
use Rattle.chain_text.specs.Reading.{all_lines}
use Rattle.chain_text.proofs.ReaderLemmas.{fewer, one_line}
use Rattle.chain_text.proofs.reader.all_lines.Goals as goal

pub loop-group-init : goal.loop-group-init
loop-group-init c = ap (λ (s : Standing). all_lines s (left_groups c.args.lines.now)) c.new-standing.ensures

pub loop-group-smaller : goal.loop-group-smaller
loop-group-smaller c = fewer c.in-Some.group (left_groups c.loop-group.lines) (left_groups c.next_group.new.lines) c.in-Some.ensures.next

pub loop-group-preserved : goal.loop-group-preserved
loop-group-preserved c =
    one_line c.loop-group.standing c.add.new.self c.in-Some.group (left_groups c.loop-group.lines) (left_groups c.next_group.new.lines) (all_lines nothing (left_groups c.args.lines.now))
    c.in-Some.ensures.next c.in_default-add.ensures c.loop-group.invariant
