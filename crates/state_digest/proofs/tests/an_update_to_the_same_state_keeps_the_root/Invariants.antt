-- The ledger of the steps is that of the blank.
use Rattle.state_digest.proofs.tests.an_update_to_the_same_state_keeps_the_root.Given as goal

abbrev pub ghosts-roots : goal.ghosts-roots
ghosts-roots g a = record { name = a.blank.name; parts = a.blank.parts }
