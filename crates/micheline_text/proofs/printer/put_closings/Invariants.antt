-- What is printed so far.
use Rattle.std.proofs.Common.{◌≡◌, ◌++◌}
use Rattle.micheline_text.specs.Printing.{closings}
use Rattle.micheline_text.proofs.printer.put_closings.Given as goal

abbrev pub invariant-loop-i : goal.invariant-loop-i
invariant-loop-i l = l.out.items ≡ l.fn.out.items ++ closings l.i
