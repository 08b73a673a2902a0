-- The lines that are left say the same; and fewer bytes are left.
use Rattle.std.proofs.Common.{◌≡◌, length}
use Rattle.chain_text.specs.Heads.{all_ascii}
use Rattle.chain_text.specs.Inside.{left_lines}
use Rattle.chain_text.specs.Lines.{lines_of}
use Rattle.chain_text.proofs.heads.all_ascii.Given as goal

abbrev pub invariant-loop-line : goal.invariant-loop-line
invariant-loop-line l = all_ascii l.lines.number (left_lines l.lines) ≡ all_ascii 1 (lines_of l.fn.text)

abbrev pub decreases-loop-line : goal.decreases-loop-line
decreases-loop-line l = length l.lines.rest
