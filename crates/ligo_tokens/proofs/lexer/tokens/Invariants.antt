-- The tokens so far, and those that are left.
use Rattle.std.proofs.Common.{◌≡◌, ◌≤◌, ◌-◌, ◌++◌, drop, length}
use Rattle.ligo_tokens.specs.Lexing.{tokens_of}
use Rattle.ligo_tokens.proofs.lexer.tokens.Given as goal

abbrev pub decreases-loop-found : goal.decreases-loop-found
decreases-loop-found l = length l.b - l.at

abbrev pub invariant-loop-found : goal.invariant-loop-found
invariant-loop-found l = (l.found ++ tokens_of l.at (drop l.at l.b) ≡ tokens_of 0 l.b) × (l.at ≤ length l.b)
