-- What was read and what is left are the whole, and each round gave a byte, unless a read ended in an error.
use Rattle.std.proofs.Common.{◌≤◌, ◌⊎◌, length}
use Rattle.std.specs.Io.KnownBytes.{Consumes}
use Rattle.edge_io.specs.Outside.{Rose, most_bytes}
use Rattle.edge_io.proofs.disk.read_all.Given as goal

abbrev pub invariant-loop : goal.invariant-loop
invariant-loop g l = record {
  parts : Consumes (g.P.Pieces.left l.fn.pieces) (g.P.Pieces.left l.pieces) l.bytes.items;
  short : length l.bytes.items ≤ most_bytes;
  later : g.P.Pieces.errors l.fn.pieces ≤ g.P.Pieces.errors l.pieces;
  rounds : (l.counter ≤ length l.bytes.items) ⊎ Rose (g.P.Pieces.errors l.fn.pieces) (g.P.Pieces.errors l.pieces);
}
