-- Each update finds the digests of the state before.
use Rattle.state_digest.proofs.Kept.{last_digests}
use Rattle.state_digest.proofs.laws.updates_end_with_the_last_state.Goals as goal

pub returns : goal.returns
returns c = last_digests
