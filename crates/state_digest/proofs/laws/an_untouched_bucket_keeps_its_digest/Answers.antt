-- Its cells are the same, and so is its text.
use Rattle.state_digest.proofs.Kept.{untouched_bucket}
use Rattle.state_digest.proofs.laws.an_untouched_bucket_keeps_its_digest.Goals as goal

pub returns : goal.returns
returns c = untouched_bucket
