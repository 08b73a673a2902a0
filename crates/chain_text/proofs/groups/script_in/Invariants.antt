-- What is taken of the script so far; and fewer bytes are left.
use Rattle.std.proofs.Common.{length}
use Rattle.chain_text.proofs.Scripts.{IsInside}
use Rattle.chain_text.proofs.groups.script_in.Given as goal

abbrev pub invariant-loop-line : goal.invariant-loop-line
invariant-loop-line l = IsInside l.fn.lines l.text l.length l.lines

abbrev pub decreases-loop-line : goal.decreases-loop-line
decreases-loop-line l = length l.lines.rest
