-- One turn of the loop over the names.
use Rattle.std.proofs.Common.{[], ◌∙◌}
use Rattle.block_cli.proofs.FileLists.{goes_further, read_step, fault_step, long_step}
use Rattle.block_cli.proofs.input.read_all.Goals as goal

pub loop-name-preserved : goal.loop-name-preserved
loop-name-preserved g c =
    let seen = g.F.Files.seen in
    let so_far = c.loop-name.invariant in
    record {
      goes = goes_further (seen c.args.files.now) (seen c.loop-name.files) (seen c.read.new.self) so_far.goes c.read.ensures.goes;
      same = c.read.ensures.same ∙ so_far.same;
      read = read_step c.args.names.now (λ name. name.now) c.loop-name.name-index (record { ref_ptr = (0, 0); now = [] }) c.loop-name-test.true c.loop-name.contents.items
          (seen c.args.files.now) (seen c.loop-name.files) (seen c.read.new.self) so_far.goes so_far.same so_far.read c.in-Ok.bytes c.push.new.self.items c.in_ok-push-in-Ok.ensures.items c.in-Ok.ensures;
    }

pub returns-in-Err-Failed-clause-read : goal.returns-in-Err-Failed-clause-read
returns-in-Err-Failed-clause-read g c =
    let seen = g.F.Files.seen in
    let so_far = c.loop-name.invariant in
    fault_step c.args.names.now (λ name. name.now) c.loop-name.name-index (record { ref_ptr = (0, 0); now = [] }) c.loop-name-test.true c.loop-name.contents.items
    (seen c.args.files.now) (seen c.loop-name.files) (seen c.read.new.self) so_far.goes so_far.same so_far.read c.in-Err-Failed.field-0 c.in-Err-Failed.field-0-is c.in-Err-Failed.ensures

pub returns-in-Err-TooLong-clause-read : goal.returns-in-Err-TooLong-clause-read
returns-in-Err-TooLong-clause-read g c =
    let seen = g.F.Files.seen in
    let so_far = c.loop-name.invariant in
    long_step c.args.names.now (λ name. name.now) c.loop-name.name-index (record { ref_ptr = (0, 0); now = [] }) c.loop-name-test.true c.loop-name.contents.items
    (seen c.args.files.now) (seen c.loop-name.files) (seen c.read.new.self) so_far.goes so_far.same so_far.read c.in-Err-TooLong.field-0 c.in-Err-TooLong.field-0-is c.in-Err-TooLong.ensures
