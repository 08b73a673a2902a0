-- One turn of the loop over the files.
use Rattle.std.proofs.Common.{sym, ◌∙◌}
use Rattle.block_cli.proofs.FileLists.{goes_further, has_room, stop_step, write_step}
use Rattle.block_cli.proofs.output.write_all.Goals as goal

pub write-requires : goal.write-requires
write-requires g c =
    let seen = g.F.Files.seen in
    has_room c.args.written.now c.loop-file.file-index c.file-item.result c.loop-file-test.true c.file-item.is c.deref.result.now c.deref.ensures.value (seen c.args.files.now) (seen c.loop-file.files) c.requires c.loop-file.invariant.goes

pub returns-then-is_err-clause-writes : goal.returns-then-is_err-clause-writes
returns-then-is_err-clause-writes g c =
    let seen = g.F.Files.seen in
    stop_step c.args.written.now c.loop-file.file-index c.file-item.result c.loop-file-test.true c.file-item.is c.deref.result.now c.deref.ensures.value (seen c.args.files.now) (seen c.loop-file.files) (seen c.write.new.self)
    c.loop-file.invariant.goes c.loop-file.invariant.written c.write.result (sym c.is_err.ensures.value ∙ c.if-is_err.true) c.write.ensures

pub loop-file-preserved : goal.loop-file-preserved
loop-file-preserved g c =
    let seen = g.F.Files.seen in
    let so_far = c.loop-file.invariant in
    record {
      goes = goes_further (seen c.args.files.now) (seen c.loop-file.files) (seen c.write.new.self) so_far.goes c.write.ensures.goes;
      written = write_step c.args.written.now c.loop-file.file-index c.file-item.result c.loop-file-test.true c.file-item.is c.deref.result.now c.deref.ensures.value (seen c.args.files.now) (seen c.loop-file.files) (seen c.write.new.self)
          so_far.goes so_far.written c.write.result (sym c.is_err.ensures.value ∙ c.if-is_err.false) c.write.ensures;
    }
