-- One more cell in its bucket.
use Rattle.std.proofs.Common.{arith}
use Rattle.std.proofs.lemmas.Result.{on_ok_weaker}
use Rattle.state_digest.proofs.Gathering.{one_more}
use Rattle.state_digest.proofs.buckets.put_row.Goals as goal

pub returns : goal.returns
returns c = on_ok_weaker c.put.result
    (λ written marks passed its old. one_more marks passed c.args.row.now c.args.buckets.now c.args.number c.put.new.self _ its (omega arith) c.put.ensures.marked written old)
    c.put.ensures.text
