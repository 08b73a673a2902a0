-- The verdict on a block, by the state that it stands on: the first line of the table that holds.
use Rattle.std.specs.Prelude.{◌≡◌, ◌≢◌, ◌↔◌, ℕ, ◌+◌, ◌<◌, ◌≤◌, List, length, Result, Ok, Err, slice_get}
use Rattle.byte_fields.specs.Stops.{Stop}
use Rattle.byte_fields.specs.Stops as stops
use Rattle.byte_fields.specs.Laws.{IsBytes}
use Rattle.edge_io.specs.Outside.{most_bytes}
use Rattle.plain_ledger.specs.Ledger.{Ledger, supply}
use Rattle.plain_ledger.specs.Reading.{ledger_of}
use Rattle.plain_ledger.specs.Spelling.{IsLedger}
use Rattle.plain_ledger.specs.Spelling.{spelling as spelt}
use Rattle.transfer_blocks.specs.Block.{BlockView, IsBlock}
use Rattle.transfer_blocks.specs.Spelling.{spelling}
use Rattle.transfer_blocks.specs.Reading.{block_of}
use Rattle.join_schedule.specs.Joins.{AreJoins, IsFirstBad}
use Rattle.join_schedule.specs.Cover.{Cover, IsFirstUnordered}
use Rattle.plain_digest.specs.Digest.{digest_of}
use Rattle.plain_transfers.specs.Run.{Run, run_all}
use Rattle.block_cli.specs.declared.refusal.Refusal.{Refusal}
use Rattle.block_cli.specs.declared.refusal.Refusal.TheVariants.{Malformed, NotYet, WrongParent, BadJoin, Unordered, FootprintDiffers, ReceiptDiffers, StateDiffers}

-- what a block is worth on a state: it is refused, or it is true and leaves this state
pub data Verdict : Type 0 where
  Refused : Refusal → Verdict
  Accepted : Ledger → Verdict

-- its parent is the state's digest, its level the next one, its `now` not before the state's
pub record StandsOn (s : Ledger) (b : BlockView) : Type 0 where
  pub parent : b.parent ≡ digest_of s
  pub level : b.level ≡ s.level + 1
  pub now : s.now ≤ b.now

-- it stands on the state, no join list is bad, and the joins cover the conflicts
pub record IsOrdered (s : Ledger) (b : BlockView) : Type 0 where
  pub stands : StandsOn s b
  pub joins : AreJoins b.joins
  pub covered : Cover b.joins b.footprints

-- what its operations leave, run one by one
abbrev pub serial_run : Ledger → BlockView → Run
serial_run s b = run_all s b.ops

-- of operation i the footprint, or the receipt, that is published is the serial run's
abbrev pub SameFootprint : Ledger → BlockView → ℕ → Type 0
SameFootprint s b i = slice_get b.footprints i ≡ slice_get (serial_run s b).footprints i

abbrev pub SameReceipt : Ledger → BlockView → ℕ → Type 0
SameReceipt s b i = slice_get b.receipts i ≡ slice_get (serial_run s b).receipts i

-- both are, of each of the first n operations
abbrev pub TellsFirst : ℕ → Ledger → BlockView → Type 0
TellsFirst n s b = (i : ℕ) → i < n → SameFootprint s b i × SameReceipt s b i

-- the serial state, with the block's head
abbrev pub state_after : Ledger → BlockView → Ledger
state_after s b = record { level = b.level; now = b.now; balances = (serial_run s b).balances }

-- the lines of the table by which bytes that are a block are refused
abbrev pub IsRefusedOn : Ledger → BlockView → Refusal → Type 0
IsRefusedOn s b (Malformed p) = ⊥
IsRefusedOn s b (NotYet p) = ⊥
IsRefusedOn s b WrongParent = ¬ StandsOn s b
IsRefusedOn s b (BadJoin j) = StandsOn s b × IsFirstBad b.joins j
IsRefusedOn s b (Unordered i j c) = StandsOn s b × AreJoins b.joins × IsFirstUnordered b.joins b.footprints i j c
IsRefusedOn s b (FootprintDiffers i) = IsOrdered s b × (i < length b.ops) × TellsFirst i s b × (¬ SameFootprint s b i)
IsRefusedOn s b (ReceiptDiffers i) = IsOrdered s b × (i < length b.ops) × TellsFirst i s b × SameFootprint s b i × (¬ SameReceipt s b i)
IsRefusedOn s b StateDiffers = IsOrdered s b × TellsFirst (length b.ops) s b × (b.state ≢ digest_of (state_after s b))

-- the last line: all that is published is so
abbrev pub IsTrueOn : Ledger → BlockView → Type 0
IsTrueOn s b = IsOrdered s b × TellsFirst (length b.ops) s b × (b.state ≡ digest_of (state_after s b))

-- the verdict on bytes that are a block
abbrev pub IsVerdictOn : Ledger → BlockView → Verdict → Type 0
IsVerdictOn s b (Refused why) = IsRefusedOn s b why
IsVerdictOn s b (Accepted after) = IsTrueOn s b × (after ≡ state_after s b)

-- the verdict on bytes that are read so
abbrev pub IsVerdictOf : Ledger → Result BlockView Stop → Verdict → Type 0
IsVerdictOf s (Ok b) v = IsVerdictOn s b v
IsVerdictOf s (Err (stops.Stopped stops.Faulty p)) v = v ≡ Refused (Malformed p)
IsVerdictOf s (Err (stops.Stopped stops.NotYet p)) v = v ≡ Refused (NotYet p)

-- the verdict on the bytes of a block
abbrev pub IsVerdict : Ledger → List ℕ → Verdict → Type 0
IsVerdict s bytes v = IsVerdictOf s (block_of bytes) v

-- a state and bytes have one verdict
abbrev pub HaveOneVerdict : Type 0
HaveOneVerdict = (s : Ledger) (bytes : List ℕ) (v w : Verdict) → IsVerdict s bytes v → IsVerdict s bytes w → v ≡ w

-- ---- what the table says of blocks as a whole

-- all that a block publishes is so: its place, an order of all conflicts, the footprints and receipts of the run, and the state that the run leaves
pub record IsTrueBlock (s : Ledger) (b : BlockView) : Type 0 where
  pub stands : StandsOn s b
  pub joins : AreJoins b.joins
  pub covered : Cover b.joins b.footprints
  pub footprints : b.footprints ≡ (serial_run s b).footprints
  pub receipts : b.receipts ≡ (serial_run s b).receipts
  pub state : b.state ≡ digest_of (state_after s b)

-- bytes are accepted exactly where they spell a true block, and the state after it is left
abbrev pub AcceptedBytesAreTrueBlocks : Type 0
AcceptedBytesAreTrueBlocks =
    (s after : Ledger) (bytes : List ℕ) → IsBytes bytes →
    IsVerdict s bytes (Accepted after)
    ↔ ((b : BlockView) × IsBlock b × (bytes ≡ spelling b) × IsTrueBlock s b × (after ≡ state_after s b))

-- an accepted block leaves a ledger with the old supply, which is read again from its file
pub record LeavesLedger (s after : Ledger) : Type 0 where
  pub lawful : IsLedger after
  pub supply : supply after.balances ≡ supply s.balances
  pub again : ledger_of (spelt after) ≡ Ok after

-- where the file isn't longer than 64 MiB
abbrev pub AcceptedBlocksLeaveLedgers : Type 0
AcceptedBlocksLeaveLedgers =
    (s after : Ledger) (bytes : List ℕ) → IsBytes bytes → IsLedger s → IsVerdict s bytes (Accepted after) →
    length (spelt after) ≤ most_bytes → LeavesLedger s after

-- a state and bytes have a verdict
abbrev pub HaveAVerdict : Type 0
HaveAVerdict = (s : Ledger) (bytes : List ℕ) → IsBytes bytes → (v : Verdict) × IsVerdict s bytes v
