-- There is room for the files so far.
use Rattle.std.proofs.Common.{◌≡◌, take}
use Rattle.edge_io.specs.Outside.{GoesOn}
use Rattle.block_cli.specs.Inside.{files_in, HaveRoom}
use Rattle.block_cli.proofs.output.make_room.Given as goal

abbrev pub invariant-loop-file : goal.invariant-loop-file
invariant-loop-file g l = record {
  goes : GoesOn (g.F.Files.seen l.initial.files) (g.F.Files.seen l.files);
  same : (g.F.Files.seen l.files).told ≡ (g.F.Files.seen l.initial.files).told;
  room : HaveRoom (take l.file-index (files_in l.written)) (g.F.Files.seen l.files);
}
