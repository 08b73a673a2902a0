-- What orders a block: it stands on the state, its lists are lists of joins, and these cover the conflicts.
use Rattle.std.proofs.Common.{Option, Some, None, Result, Ok, Err}
use Rattle.std.specs.Prelude.{IfOk}
use Rattle.join_schedule.specs.Joins.{AreJoins}
use Rattle.plain_ledger.specs.Ledger.{Ledger}
use Rattle.transfer_blocks.specs.Block.{BlockView}
use Rattle.block_cli.specs.Verdict.{StandsOn}
use Rattle.block_cli.specs.Judging.{ConflictOr, OrdersOr}
use Rattle.block_cli.specs.declared.refusal.Refusal.{Refusal}
use Rattle.block_cli.specs.declared.refusal.Refusal.TheVariants as refusals

ordered_or : (s : Ledger) (b : BlockView) → StandsOn s b → AreJoins b.joins → (o : Option Refusal) → ConflictOr b o → OrdersOr s b o
ordered_or s b stands joins None covered = record { stands = stands; joins = joins; covered = covered }
ordered_or s b stands joins (Some (refusals.Unordered i j c)) first = (stands, joins, first)
ordered_or s b stands joins (Some (refusals.Malformed p)) h = absurd h
ordered_or s b stands joins (Some (refusals.NotYet p)) h = absurd h
ordered_or s b stands joins (Some refusals.WrongParent) h = absurd h
ordered_or s b stands joins (Some (refusals.BadJoin j)) h = absurd h
ordered_or s b stands joins (Some (refusals.FootprintDiffers i)) h = absurd h
ordered_or s b stands joins (Some (refusals.ReceiptDiffers i)) h = absurd h
ordered_or s b stands joins (Some refusals.StateDiffers) h = absurd h

-- on a block that stands on the state and has lists of joins, the first conflict decides
pub by_conflict : {E : Type 0} (s : Ledger) (b : BlockView) → StandsOn s b → AreJoins b.joins → (r : Result (Option Refusal) E) → IfOk r (ConflictOr b) → IfOk r (OrdersOr s b)
by_conflict s b stands joins (Ok o) h = ordered_or s b stands joins o h
by_conflict s b stands joins (Err e) h = tt
