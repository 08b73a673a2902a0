-- One turn of the loop over the files.
use Rattle.std.proofs.Common.{◌<◌, ◌≤◌, length, sym, ap, arith}
use Rattle.std.specs.Option.{option_map}
use Rattle.edge_io.specs.Outside.{most_bytes}
use Rattle.block_cli.specs.Answer.{File}
use Rattle.block_cli.proofs.FileLists.{fits_next, is_too_long}
use Rattle.block_cli.proofs.output.first_too_long.Goals as goal

pub loop-file-preserved : goal.loop-file-preserved
loop-file-preserved c =
    let short : length c.file-item.result.bytes.items ≤ most_bytes = omega (arith, c.file-item.result.bytes.ok) in
    fits_next c.args.written.now c.loop-file.file-index c.file-item.result c.loop-file-test.true c.file-item.is c.loop-file.invariant short

pub returns-then-len-gt-MOST_BYTES : goal.returns-then-len-gt-MOST_BYTES
returns-then-len-gt-MOST_BYTES c =
    let long : most_bytes < length c.file-item.result.bytes.items = omega (arith, c.file-item.result.bytes.ok) in
    ap (option_map (λ (file : File). file.0)) (sym (is_too_long c.args.written.now c.loop-file.file-index c.file-item.result c.loop-file-test.true c.file-item.is c.loop-file.invariant long))
