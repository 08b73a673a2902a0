-- What is written so far, and the dots and numbers that are left.
use Rattle.std.proofs.Common.{◌≡◌, ◌++◌, drop}
use Rattle.block_cli.specs.Faulty.{dotted}
use Rattle.block_cli.proofs.faulty.put_dotted.Given as goal

abbrev pub invariant-loop-number : goal.invariant-loop-number
invariant-loop-number l = l.text.items ++ dotted (drop l.number-index l.path) ≡ l.initial.text.items ++ dotted l.path
