-- The files so far are read whole.
use Rattle.std.proofs.Common.{◌≡◌, take, map}
use Rattle.edge_io.specs.Outside.{GoesOn}
use Rattle.block_cli.specs.Inputs.{AreRead}
use Rattle.block_cli.specs.Inside.{bytes_in}
use Rattle.block_cli.proofs.input.read_all.Given as goal

abbrev pub invariant-loop-name : goal.invariant-loop-name
invariant-loop-name g l = record {
  goes : GoesOn (g.F.Files.seen l.initial.files) (g.F.Files.seen l.files);
  same : (g.F.Files.seen l.files).told ≡ (g.F.Files.seen l.initial.files).told;
  read : AreRead (take l.name-index (map (λ name. name.now) l.names)) (bytes_in l.contents.items) (g.F.Files.seen l.initial.files);
}
