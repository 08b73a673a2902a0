-- What is printed so far.
use Rattle.std.proofs.Common.{◌≡◌, ◌++◌, take}
use Rattle.std.specs.List.{flat_map}
use Rattle.micheline_text.specs.Printed.{escaped}
use Rattle.micheline_text.proofs.printer.put_all_escaped.Given as goal

abbrev pub invariant-loop-b : goal.invariant-loop-b
invariant-loop-b l = l.out.items ≡ l.fn.out.items ++ flat_map escaped (take l.b-index l.text)
