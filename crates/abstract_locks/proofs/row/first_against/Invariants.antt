use Rattle.std.proofs.Common.{◌≡◌, drop}
use Rattle.abstract_locks.specs.Rows.{answer_in}
use Rattle.abstract_locks.proofs.row.first_against.Given as goal

abbrev pub invariant-loop-place : goal.invariant-loop-place
invariant-loop-place l = answer_in l.places l.ticket l.m ≡ answer_in (drop l.place-index l.places) l.ticket l.m
