-- The first of the run went by.
use Rattle.std.proofs.Common.{◌≡◌, List, ◌++◌, drop}
use Rattle.state_digest.specs.Shelving.{Held, numbers_of}
use Rattle.state_digest.proofs.Passing.{ArePassing}
use Rattle.state_digest.proofs.shelves.pass.Given as goal

abbrev pub invariant-loop-number : goal.invariant-loop-number
invariant-loop-number l =
    (run rest : List Held) → l.initial.rows ≡ run ++ rest → numbers_of run ≡ l.numbers
    → ArePassing run rest l.initial.rows l.rows l.initial.buckets l.buckets (drop l.number-index l.numbers)
