-- What is open, and the tokens that are left.
use Rattle.std.proofs.Common.{◌≡◌, ◌≤◌, ◌-◌, drop, length}
use Rattle.micheline_text.specs.Lexing.{tokens_of}
use Rattle.micheline_text.specs.Reading.{run, reading}
use Rattle.micheline_text.proofs.reader.read.Given as goal

abbrev pub decreases-loop-state : goal.decreases-loop-state
decreases-loop-state l = length l.b - l.at

abbrev pub invariant-loop-state : goal.invariant-loop-state
invariant-loop-state l = (run (length l.b) (l.state.level, l.state.opens) (tokens_of l.at (drop l.at l.b)) ≡ reading l.b) × (l.at ≤ length l.b)
