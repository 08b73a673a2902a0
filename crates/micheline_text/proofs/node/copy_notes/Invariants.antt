-- The copies so far.
use Rattle.std.proofs.Common.{◌≡◌, take}
use Rattle.micheline_text.proofs.node.copy_notes.Given as goal

abbrev pub invariant-loop-note : goal.invariant-loop-note
invariant-loop-note l = l.made ≡ take l.note-index l.notes
