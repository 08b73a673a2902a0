-- The ledger of the steps is that of the blank.
use Rattle.state_digest.proofs.tests.a_thousand_accounts_stand_on_shelves.Given as goal

abbrev pub ghosts-roots : goal.ghosts-roots
ghosts-roots g a = record { name = a.blank.name; parts = a.blank.parts }
