-- The same groups are left; and fewer bytes.
use Rattle.std.proofs.Common.{◌≡◌, length}
use Rattle.chain_text.specs.Inside.{behind, left_groups}
use Rattle.chain_text.proofs.groups.next_group.Given as goal

abbrev pub invariant-loop-line : goal.invariant-loop-line
invariant-loop-line l = (left_groups l.fn.lines ≡ left_groups l.lines) × (behind l.lines ≡ behind l.fn.lines)

abbrev pub decreases-loop-line : goal.decreases-loop-line
decreases-loop-line l = length l.lines.rest
