-- The files so far are written.
use Rattle.std.proofs.Common.{take}
use Rattle.edge_io.specs.Outside.{GoesOn}
use Rattle.block_cli.specs.Seen.{AreWritten}
use Rattle.block_cli.specs.Inside.{files_in}
use Rattle.block_cli.proofs.output.write_all.Given as goal

abbrev pub invariant-loop-file : goal.invariant-loop-file
invariant-loop-file g l = record {
  goes : GoesOn (g.F.Files.seen l.initial.files) (g.F.Files.seen l.files);
  written : AreWritten (take l.file-index (files_in l.written)) (g.F.Files.seen l.initial.files) (g.F.Files.seen l.files);
}
