-- What functions inside promise each other of a block: why it is refused, or the state that it leaves.
use Rattle.std.specs.Prelude.{◌≡◌, ◌+◌, ◌≤◌, length, Option, Some, None, Result, Ok, Err}
use Rattle.std.specs.FinMap.{len}
use Rattle.plain_ledger.specs.Ledger.{Ledger}
use Rattle.transfer_blocks.specs.Block.{BlockView}
use Rattle.join_schedule.specs.Cover.{Cover, IsFirstUnordered}
use Rattle.block_cli.specs.Verdict.{IsOrdered, TellsFirst, state_after, IsRefusedOn, Verdict, Refused, Accepted}
use Rattle.block_cli.specs.declared.refusal.Refusal.{Refusal}
use Rattle.block_cli.specs.declared.refusal.Refusal.TheVariants as refusals
use Rattle.block_cli.specs.declared.verdict.Verdict.{Verdict as Told}
use Rattle.block_cli.specs.declared.verdict.Verdict.TheVariants as told

-- a verdict, without that state's digest
abbrev pub verdict_in : Told → Verdict
verdict_in (told.Refused why) = Refused why
verdict_in (told.Accepted next) = Accepted next.state

-- a state that is left has at most 1,024 balances more, two for each operation
abbrev pub AddsFew : Ledger → Verdict → Type 0
AddsFew s (Refused why) = Unit {0}
AddsFew s (Accepted after) = len after.balances ≤ len s.balances + 1024

-- the joins cover the conflicts, or this is the first that has no order
abbrev pub ConflictOr : BlockView → Option Refusal → Type 0
ConflictOr b None = Cover b.joins b.footprints
ConflictOr b (Some (refusals.Unordered i j c)) = IsFirstUnordered b.joins b.footprints i j c
ConflictOr b (Some _) = ⊥

-- the block is ordered, or this is why it isn't
abbrev pub OrdersOr : Ledger → BlockView → Option Refusal → Type 0
OrdersOr s b None = IsOrdered s b
OrdersOr s b (Some why) = IsRefusedOn s b why

-- of an ordered block all is published as it is run, which leaves this state; or this is the first difference
abbrev pub Replays : Ledger → BlockView → Result Ledger Refusal → Type 0
Replays s b (Ok after) = TellsFirst (length b.ops) s b × (after ≡ state_after s b)
Replays s b (Err why) = IsOrdered s b → IsRefusedOn s b why
