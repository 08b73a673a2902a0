-- Both are the digests of its book and its buckets.
use Rattle.std.proofs.Common.{sym, ◌∙◌}
use Rattle.state_digest.proofs.Kept.{same_buckets}
use Rattle.state_digest.proofs.laws.digests_of_one_state_agree.Goals as goal

pub returns-clause-book : goal.returns-clause-book
returns-clause-book c = λ s d e are others. are.book ∙ sym others.book

pub returns-clause-buckets : goal.returns-clause-buckets
returns-clause-buckets c = same_buckets
