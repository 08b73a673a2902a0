-- What a serial run leaves after its first operations, and what it tells of the next one.
use Rattle.std.proofs.Common.{Err, ◌≡◌, ℕ, zero, suc, ◌+◌, ◌<◌, List, [], ◌∷◌, length, take, get_or, Some, refl, sym, ap, subst, ◌∙◌, arith, inl, inr}
use Rattle.std.specs.List.{slice_get, AllByRecursion}
use Rattle.std.proofs.lemmas.Option.{slice_get_read}
use Rattle.std.proofs.lemmas.Bool.{cases_lt}
use Rattle.cell_names.specs.declared.cell.Cell.{Cell}
use Rattle.cell_names.specs.declared.mode.Mode.{Mode}
use Rattle.plain_ledger.specs.Ledger.{Ledger, Balances}
use Rattle.transfer_blocks.specs.declared.transfer.Transfer.{Transfer}
use Rattle.transfer_blocks.specs.declared.transfer.Receipt.{Receipt}
use Rattle.transfer_blocks.specs.Block.{BlockView, IsBlock}
use Rattle.plain_transfers.specs.Serial.{serial}
use Rattle.plain_transfers.specs.Run.{run_on}
use Rattle.block_cli.specs.Verdict.{serial_run, SameFootprint, SameReceipt, TellsFirst}
use Rattle.block_cli.specs.Judging.{Replays}
use Rattle.block_cli.specs.declared.refusal.Refusal.TheVariants as refusals

-- what holds of each element holds at a place
all_at : {X : Type 0} (P : X → Type 0) (xs : List X) (i : ℕ) (x : X) → AllByRecursion P xs → i < length xs → x ≡ get_or xs i x → P x
all_at P [] i x all lt e = absurd (omega arith)
all_at P (y ∷ xs) zero x all lt e = subst P (sym e) all.0
all_at P (y ∷ xs) (suc i) x all lt e = all_at P xs i x all.1 (omega arith) e

-- the balances after the first i operations
abbrev pub left : Balances → List Transfer → ℕ → Balances
left m ops i = (run_on m (take i ops)).balances

left-next : (m : Balances) (ops : List Transfer) (i : ℕ) (t : Transfer) → i < length ops → t ≡ get_or ops i t → left m ops (suc i) ≡ (serial (left m ops i) t).balances
left-next m [] i t lt e = absurd (omega arith)
left-next m (x ∷ ops) zero t lt e = ap (λ (y : Transfer). (serial m y).balances) (sym e)
left-next m (x ∷ ops) (suc i) t lt e = left-next (serial m x).balances ops i t (omega arith) e

left-all : (m : Balances) (ops : List Transfer) → left m ops (length ops) ≡ (run_on m ops).balances
left-all m [] = refl
left-all m (x ∷ ops) = left-all (serial m x).balances ops

footprint_at : (m : Balances) (ops : List Transfer) (i : ℕ) (t : Transfer) → i < length ops → t ≡ get_or ops i t → slice_get (run_on m ops).footprints i ≡ Some (serial (left m ops i) t).footprint
footprint_at m [] i t lt e = absurd (omega arith)
footprint_at m (x ∷ ops) zero t lt e = ap (λ (y : Transfer). Some (serial m y).footprint) (sym e)
footprint_at m (x ∷ ops) (suc i) t lt e = footprint_at (serial m x).balances ops i t (omega arith) e

receipt_at : (m : Balances) (ops : List Transfer) (i : ℕ) (t : Transfer) → i < length ops → t ≡ get_or ops i t → slice_get (run_on m ops).receipts i ≡ Some (serial (left m ops i) t).receipt
receipt_at m [] i t lt e = absurd (omega arith)
receipt_at m (x ∷ ops) zero t lt e = ap (λ (y : Transfer). Some (serial m y).receipt) (sym e)
receipt_at m (x ∷ ops) (suc i) t lt e = receipt_at (serial m x).balances ops i t (omega arith) e

same_at : {X : Type 0} (published ran : List X) (i : ℕ) (x y : X) → i < length published → y ≡ get_or published i y → slice_get ran i ≡ Some x → x ≡ y → slice_get published i ≡ slice_get ran i
same_at published ran i x y lt at is same = slice_get_read published (length published) i y refl lt at ∙ ap Some (sym same) ∙ sym is

other_at : {X : Type 0} (published ran : List X) (i : ℕ) (x y : X) → i < length published → y ≡ get_or published i y → slice_get ran i ≡ Some x → (x ≡ y → ⊥) → slice_get published i ≡ slice_get ran i → ⊥
other_at published ran i x y lt at is other same =
    let both : Some y ≡ Some x = sym (slice_get_read published (length published) i y refl lt at) ∙ same ∙ is in other cc

-- what is told of the operations before i and of i is told of the first i + 1
tells_next : (s : Ledger) (b : BlockView) (i : ℕ) → TellsFirst i s b → SameFootprint s b i → SameReceipt s b i → TellsFirst (i + 1) s b
tells_next s b i before footprint receipt k lt =
    elim (cases_lt k i) [ inl low ↦ before k low | inr high ↦ let e : i ≡ k = omega arith in subst (λ (n : ℕ). SameFootprint s b n × SameReceipt s b n) e (footprint, receipt) ]

-- the first i operations are published as they are run, and leave these balances
pub record TellsAfter (s : Ledger) (b : BlockView) (i : ℕ) (m : Balances) : Type 0 where
  pub left : m ≡ left s.balances b.ops i
  pub tells : TellsFirst i s b

-- one turn of the loop over the operations of b, which are read from v: operation i is run where those before it leave it
pub record Turn (s : Ledger) (b v : BlockView) (i : ℕ) (op : Transfer) (here : Balances) : Type 0 where
  pub same : v ≡ b
  pub lawful : IsBlock b
  pub within : i < length v.ops
  pub op-is : op ≡ get_or v.ops i op
  pub here-is : here ≡ left s.balances b.ops i
  pub tells : TellsFirst i s b

module _ (s : Ledger) (b v : BlockView) (i : ℕ) (op : Transfer) (here : Balances) (turn : Turn s b v i op here) where
  within : i < length b.ops
  within = subst (λ (x : BlockView). i < length x.ops) turn.same turn.within

  op-is : op ≡ get_or b.ops i op
  op-is = subst (λ (x : BlockView). op ≡ get_or x.ops i op) turn.same turn.op-is

  next_left : (after : Balances) → after ≡ (serial here op).balances → after ≡ left s.balances b.ops (i + 1)
  next_left after is =
      let e : i + 1 ≡ suc i = omega arith in
      is ∙ ap (λ (m : Balances). (serial m op).balances) turn.here-is ∙ sym (left-next s.balances b.ops i op within op-is) ∙ ap (left s.balances b.ops) (sym e)

  footprint_here : (f : List (Cell × Mode)) → f ≡ (serial here op).footprint → slice_get (serial_run s b).footprints i ≡ Some f
  footprint_here f is = footprint_at s.balances b.ops i op within op-is ∙ ap (λ (m : Balances). Some (serial m op).footprint) (sym turn.here-is) ∙ ap Some (sym is)

  receipt_here : (r : Receipt) → r ≡ (serial here op).receipt → slice_get (serial_run s b).receipts i ≡ Some r
  receipt_here r is = receipt_at s.balances b.ops i op within op-is ∙ ap (λ (m : Balances). Some (serial m op).receipt) (sym turn.here-is) ∙ ap Some (sym is)

  -- f is what the operation touches, and g what is published
  module _ (f g : List (Cell × Mode)) (f-is : f ≡ (serial here op).footprint) (g-at : g ≡ get_or v.footprints i g) where
    g-is : g ≡ get_or b.footprints i g
    g-is = subst (λ (x : BlockView). g ≡ get_or x.footprints i g) turn.same g-at

    there : i < length b.footprints
    there = let touched = turn.lawful.touched in omega (arith, within)

    same_footprint : f ≡ g → SameFootprint s b i
    same_footprint same = same_at b.footprints (serial_run s b).footprints i f g there g-is (footprint_here f f-is) same

    pub footprint_differs : (f ≡ g → ⊥) → Replays s b (Err (refusals.FootprintDiffers i))
    footprint_differs other ordered = (ordered, within, turn.tells, other_at b.footprints (serial_run s b).footprints i f g there g-is (footprint_here f f-is) other)

    -- r is how the operation ends, and q what is published
    module _ (r q : Receipt) (r-is : r ≡ (serial here op).receipt) (q-at : q ≡ get_or v.receipts i q) (same : f ≡ g) where
      q-is : q ≡ get_or b.receipts i q
      q-is = subst (λ (x : BlockView). q ≡ get_or x.receipts i q) turn.same q-at

      there_too : i < length b.receipts
      there_too = let ended = turn.lawful.ended in omega (arith, within)

      same_receipt : r ≡ q → SameReceipt s b i
      same_receipt alike = same_at b.receipts (serial_run s b).receipts i r q there_too q-is (receipt_here r r-is) alike

      pub receipt_differs : (r ≡ q → ⊥) → Replays s b (Err (refusals.ReceiptDiffers i))
      receipt_differs other ordered = (ordered, within, turn.tells, same_footprint same, other_at b.receipts (serial_run s b).receipts i r q there_too q-is (receipt_here r r-is) other)

      -- the loop goes on
      pub tells_on : (after : Balances) → after ≡ (serial here op).balances → r ≡ q → TellsAfter s b (i + 1) after
      tells_on after is alike = record { left = next_left after is; tells = tells_next s b i turn.tells (same_footprint same) (same_receipt alike) }
