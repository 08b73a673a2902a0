-- What is said so far, and what is left.
use Rattle.std.proofs.Common.{◌≡◌, ◌+◌, ◌++◌, drop, false}
use Rattle.micheline_text.specs.Literals.{quoted}
use Rattle.micheline_text.proofs.text.quoted.Given as goal

abbrev pub invariant-loop-i : goal.invariant-loop-i
invariant-loop-i l =
    let rest = quoted l.escaped (drop l.i l.bytes) in
    (l.text.items ++ rest.0, l.i + rest.1, rest.2) ≡ quoted false l.bytes
