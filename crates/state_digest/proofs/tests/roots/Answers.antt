-- The digests after the first update are those of the same state.
use Rattle.std.proofs.Common.{refl}
use Rattle.state_digest.proofs.tests.roots.Goals as goal

pub update-requires-2 : goal.update-requires-2
update-requires-2 g c = λ kept. record { before = c.args.s.now; digests = c.in_ok-update.ensures.digests; book = refl; cells = λ x apart. refl }
