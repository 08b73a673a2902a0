-- The ledger of the steps is that of the blank.
use Rattle.state_digest.proofs.digests.digest.Given as goal

abbrev pub ghosts-digest_by : goal.ghosts-digest_by
ghosts-digest_by a = record { name = a.blank.name; parts = a.blank.parts }
