-- What was free before the reservation is free.
use Rattle.std.proofs.Common.{sym, subst}
use Rattle.cell_names.specs.declared.cell.Cell.{Cell}
use Rattle.cell_names.specs.declared.mode.Mode.TheVariants.{Own}
use Rattle.abstract_locks.specs.Holders.{Holders, IsFree}
use Rattle.abstract_locks.proofs.tests.a_reserved_place_holds_nothing_until_it_is_granted.Goals as goal

pub grant-requires-clause-free : goal.grant-requires-clause-free
grant-requires-clause-free g c = subst (λ (h : Cell → Holders). IsFree (h c.in_ok-c.c) 1 Own) (sym c.reserve.ensures.unchanged) c.in-Granted.ensures.answer
