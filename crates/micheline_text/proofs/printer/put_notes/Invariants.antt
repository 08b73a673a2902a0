-- What is printed so far.
use Rattle.std.proofs.Common.{◌≡◌, ◌++◌, take}
use Rattle.std.specs.List.{flat_map}
use Rattle.micheline_text.specs.Printed.{annotation}
use Rattle.micheline_text.proofs.printer.put_notes.Given as goal

abbrev pub invariant-loop-note : goal.invariant-loop-note
invariant-loop-note l = l.out.items ≡ l.fn.out.items ++ flat_map annotation (take l.note-index l.notes)
