use Rattle.edge_io.proofs.SlotMaps.{IsPassed}
use Rattle.edge_io.proofs.slots.place_of.Given as goal

abbrev pub invariant-loop-i : goal.invariant-loop-i
invariant-loop-i l = IsPassed l.slots l.name l.i
