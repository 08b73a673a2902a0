-- Accepted bytes are blocks that are published as they are run, and leave ledgers.
use Rattle.std.proofs.Common.{◌≡◌, ℕ, zero, suc, ◌<◌, ◌≤◌, List, [], ◌∷◌, length, Some, Result, Ok, Err, refl, sym, ap, subst, ◌∙◌, arith}
use Rattle.std.specs.Prelude.{slice_get}
use Rattle.std.specs.List.{AllByRecursion}
use Rattle.byte_fields.specs.Stops.{Stop}
use Rattle.byte_fields.specs.Stops as stops
use Rattle.edge_io.specs.Outside.{most_bytes}
use Rattle.plain_ledger.specs.Ledger.{Ledger, Balances, AreBalances, supply}
use Rattle.plain_ledger.specs.Reading.{ledger_of}
use Rattle.plain_ledger.specs.Spelling.{IsLedger}
use Rattle.plain_ledger.specs.Spelling.{spelling as spelt}
use Rattle.transfer_blocks.specs.Block.{BlockView, IsBlock, IsTransfer}
use Rattle.transfer_blocks.specs.Spelling.{spelling}
use Rattle.transfer_blocks.specs.Reading.{block_of}
use Rattle.transfer_blocks.specs.declared.transfer.Transfer.{Transfer}
use Rattle.plain_transfers.specs.Serial.{serial}
use Rattle.plain_transfers.specs.Run.{IsPlain, run_all, run_on}
use Rattle.block_cli.specs.Verdict.{Accepted, serial_run, state_after, IsTrueOn, IsVerdictOf, IsTrueBlock, LeavesLedger, AcceptedBytesAreTrueBlocks, AcceptedBlocksLeaveLedgers}
use Rattle.block_cli.proofs.Sizes.{len-spelling}
use Rattle.block_cli.proofs.EveryVerdict.{BlocksAreSpelt}

-- ---- lists that are alike at every place

alike : {A : Type 0} (n : ℕ) (xs ys : List A) → length xs ≡ n → length ys ≡ n → ((i : ℕ) → i < n → slice_get xs i ≡ slice_get ys i) → xs ≡ ys
alike n [] [] p q same = refl
alike n [] (y ∷ ys) p q same = absurd (omega arith)
alike n (x ∷ xs) [] p q same = absurd (omega arith)
alike zero (x ∷ xs) (y ∷ ys) p q same = absurd (omega arith)
alike {A} (suc n) (x ∷ xs) (y ∷ ys) p q same =
    let here : Some x ≡ Some y = same 0 (omega arith) in
    let head : x ≡ y = cc in
    ap (λ (z : A). z ∷ xs) head ∙ ap (λ (zs : List A). y ∷ zs) (alike n xs ys (omega arith) (omega arith) (λ i lt. same (suc i) (omega arith)))

length-footprints : (m : Balances) (ops : List Transfer) → length (run_on m ops).footprints ≡ length ops
length-footprints m [] = refl
length-footprints m (t ∷ ts) = omega (arith, length-footprints (serial m t).balances ts)

length-receipts : (m : Balances) (ops : List Transfer) → length (run_on m ops).receipts ≡ length ops
length-receipts m [] = refl
length-receipts m (t ∷ ts) = omega (arith, length-receipts (serial m t).balances ts)

-- ---- by places, and as a whole

whole : (s : Ledger) (b : BlockView) → IsBlock b → IsTrueOn s b → IsTrueBlock s b
whole s b lawful t = record {
  stands = t.0.stands;
  joins = t.0.joins;
  covered = t.0.covered;
  footprints = alike (length b.ops) b.footprints (serial_run s b).footprints lawful.touched (length-footprints s.balances b.ops) (λ i lt. (t.1 i lt).0);
  receipts = alike (length b.ops) b.receipts (serial_run s b).receipts lawful.ended (length-receipts s.balances b.ops) (λ i lt. (t.1 i lt).1);
  state = t.2;
}

by_places : (s : Ledger) (b : BlockView) → IsTrueBlock s b → IsTrueOn s b
by_places s b t = (record { stands = t.stands; joins = t.joins; covered = t.covered }, (λ i lt. (ap (λ fs. slice_get fs i) t.footprints, ap (λ rs. slice_get rs i) t.receipts)), t.state)

-- ---- bytes

-- the spelling of a block is read as it
abbrev SpeltBlocksAreRead : Type 0
SpeltBlocksAreRead = (b : BlockView) → IsBlock b → block_of (spelling b) ≡ Ok b

-- what accepted bytes are read as
record AcceptedBlock (s after : Ledger) (bytes : List ℕ) : Type 0 where
  block : BlockView
  read : block_of bytes ≡ Ok block
  true_on : IsTrueOn s block
  is : after ≡ state_after s block

accepted_as : (s after : Ledger) (bytes : List ℕ) (r : Result BlockView Stop) → block_of bytes ≡ r → IsVerdictOf s r (Accepted after) → AcceptedBlock s after bytes
accepted_as s after bytes (Ok b) read v = record { block = b; read = read; true_on = v.0; is = v.1 }
accepted_as s after bytes (Err (stops.Stopped stops.Faulty p)) read v = absurd cc
accepted_as s after bytes (Err (stops.Stopped stops.NotYet p)) read v = absurd cc

pub accepted_are_true : BlocksAreSpelt → SpeltBlocksAreRead → AcceptedBytesAreTrueBlocks
accepted_are_true reads again s after bytes fits = (
  (λ v.
      let a = accepted_as s after bytes (block_of bytes) refl v in
      let found = reads bytes a.block fits a.read in
      (a.block, found.0, found.1, whole s a.block found.0 a.true_on, a.is)),
  (λ (b, lawful, is, holds, after-is).
      let read : block_of bytes ≡ Ok b = ap block_of is ∙ again b lawful in
      subst (λ (r : Result BlockView Stop). IsVerdictOf s r (Accepted after)) (sym read) (by_places s b holds, after-is)),
)

-- ---- what is left

plain : (ops : List Transfer) → AllByRecursion IsTransfer ops → AllByRecursion IsPlain ops
plain [] all = tt
plain (t ∷ ts) all = (record { source = all.0.source; dest = all.0.dest }, plain ts all.1)

module _ (reads : BlocksAreSpelt) (ledger_again : (s : Ledger) → IsLedger s → ledger_of (spelt s) ≡ Ok s)
    (kept : (s : Ledger) (ops : List Transfer) → AreBalances s.balances → AllByRecursion IsPlain ops → supply (run_all s ops).balances ≡ supply s.balances)
    (stay : (s : Ledger) (ops : List Transfer) → AreBalances s.balances → AllByRecursion IsPlain ops → AreBalances (run_all s ops).balances) where
  left_by : (s : Ledger) (b : BlockView) → IsLedger s → IsBlock b → length (spelt (state_after s b)) ≤ most_bytes → LeavesLedger s (state_after s b)
  left_by s b ledger lawful short =
      let few = len-spelling (state_after s b) in
      let is : IsLedger (state_after s b) = record { level = lawful.level; now = lawful.now; few = omega (arith, few, short); balances = stay s b.ops ledger.balances (plain b.ops lawful.ops) } in
      record { lawful = is; supply = kept s b.ops ledger.balances (plain b.ops lawful.ops); again = ledger_again (state_after s b) is }

  pub accepted_leave : AcceptedBlocksLeaveLedgers
  accepted_leave s after bytes fits ledger v short =
      let a = accepted_as s after bytes (block_of bytes) refl v in
      let found = reads bytes a.block fits a.read in
      subst (LeavesLedger s) (sym a.is) (left_by s a.block ledger found.0 (subst (λ (x : Ledger). length (spelt x) ≤ most_bytes) a.is short))
