-- A state and bytes have one verdict: the lines of the table exclude each other.
use Rattle.std.proofs.Common.{◌≡◌, ◌≢◌, ℕ, ◌<◌, true, false, List, length, Result, Ok, Err, refl, sym, ap, ◌∙◌, inl, inr}
use Rattle.std.specs.Prelude.{◌⊎◌}
use Rattle.std.specs.declared.cmp.Ordering.{Ordering}
use Rattle.std.specs.declared.cmp.Ordering.TheVariants.{Less, Equal, Greater}
use Rattle.std.specs.Ordering.{is_gt, ordering_reverse}
use Rattle.std.proofs.lemmas.Bool.{cases_order}
use Rattle.cell_names.specs.declared.cell.Cell.{Cell}
use Rattle.cell_names.specs.declared.mode.Mode.{Mode}
use Rattle.byte_fields.specs.Stops.{Stop}
use Rattle.byte_fields.specs.Stops as stops
use Rattle.cell_names.specs.Cells.{cell_cmp}
use Rattle.cell_names.specs.CellOrder.{cell_cmp-total, cell_cmp-ties}
use Rattle.join_schedule.specs.Joins.{AreJoins, IsFirstBad}
use Rattle.join_schedule.specs.Cover.{Cover, IsFirstUnordered}
use Rattle.plain_ledger.specs.Ledger.{Ledger}
use Rattle.transfer_blocks.specs.Block.{BlockView}
use Rattle.transfer_blocks.specs.Reading.{block_of}
use Rattle.plain_digest.specs.Digest.{digest_of}
use Rattle.block_cli.specs.declared.refusal.Refusal.TheVariants.{Malformed, NotYet, WrongParent, BadJoin, Unordered, FootprintDiffers, ReceiptDiffers, StateDiffers}
use Rattle.block_cli.specs.Verdict.{Verdict, Refused, Accepted, StandsOn, IsOrdered, SameFootprint, SameReceipt, TellsFirst, state_after, IsVerdictOn, IsVerdictOf, IsVerdict}

-- ---- one first bad list, one first conflict

one_bad : (joins : List (List ℕ)) (j k : ℕ) → IsFirstBad joins j → IsFirstBad joins k → j ≡ k
one_bad joins j k p q =
    elim (cases_order j k) [
      | inl e ↦ e
      | inr o ↦ elim o [ inl lt ↦ absurd (p.bad (q.least j lt)) | inr lt ↦ absurd (q.bad (p.least k lt)) ]
    ]

turned : (c d : Cell) (o : Ordering) → cell_cmp c d ≡ o → is_gt (cell_cmp d c) ≡ is_gt (ordering_reverse o)
turned c d o e = ap is_gt (cell_cmp-total.antisymm d c ∙ ap ordering_reverse e)

one_cell : (c d : Cell) → is_gt (cell_cmp c d) ≡ false → is_gt (cell_cmp d c) ≡ false → c ≡ d
one_cell c d low high = by_order (cell_cmp c d) refl
  where
    by_order : (o : Ordering) → cell_cmp c d ≡ o → c ≡ d
    by_order Equal e = cell_cmp-ties c d e
    by_order Less e = let up : true ≡ false = sym (turned c d Less e) ∙ high in absurd cc
    by_order Greater e = let up : true ≡ false = ap is_gt (sym e) ∙ low in absurd cc

module _ (joins : List (List ℕ)) (footprints : List (List (Cell × Mode))) where
  one_later : (i j h k : ℕ) (c d : Cell) → IsFirstUnordered joins footprints i j c → IsFirstUnordered joins footprints h k d → j < k → ⊥
  one_later i j h k c d p q lt = p.apart (q.least_later i j p.order lt c p.conflict)

  one_earlier : (i h j : ℕ) (c d : Cell) → IsFirstUnordered joins footprints i j c → IsFirstUnordered joins footprints h j d → i < h → ⊥
  one_earlier i h j c d p q lt = p.apart (q.least_earlier i lt c p.conflict)

  later_is : (i j h k : ℕ) (c d : Cell) → IsFirstUnordered joins footprints i j c → IsFirstUnordered joins footprints h k d → j ≡ k
  later_is i j h k c d p q =
      elim (cases_order j k) [
        | inl e ↦ e
        | inr o ↦ elim o [ inl lt ↦ absurd (one_later i j h k c d p q lt) | inr lt ↦ absurd (one_later h k i j d c q p lt) ]
      ]

  earlier_is : (i h j : ℕ) (c d : Cell) → IsFirstUnordered joins footprints i j c → IsFirstUnordered joins footprints h j d → i ≡ h
  earlier_is i h j c d p q =
      elim (cases_order i h) [
        | inl e ↦ e
        | inr o ↦ elim o [ inl lt ↦ absurd (one_earlier i h j c d p q lt) | inr lt ↦ absurd (one_earlier h i j d c q p lt) ]
      ]

  cell_is : (i j : ℕ) (c d : Cell) → IsFirstUnordered joins footprints i j c → IsFirstUnordered joins footprints i j d → c ≡ d
  cell_is i j c d p q = one_cell c d (p.least_cell d q.conflict) (q.least_cell c p.conflict)

  one_conflict : (i j h k : ℕ) (c d : Cell) → IsFirstUnordered joins footprints i j c → IsFirstUnordered joins footprints h k d → Refused (Unordered i j c) ≡ Refused (Unordered h k d)
  one_conflict i j h k c d p q = by_later (later_is i j h k c d p q) q
    where
      by_cell : (e : c ≡ d) → Refused (Unordered i j c) ≡ Refused (Unordered i j d)
      by_cell e = ap (λ (x : Cell). Refused (Unordered i j x)) e

      by_earlier : (x : ℕ) → i ≡ x → IsFirstUnordered joins footprints x j d → Refused (Unordered i j c) ≡ Refused (Unordered x j d)
      by_earlier x e r = rw (← e) (by_cell (cell_is i j c d p (rw e r)))

      by_later : j ≡ k → IsFirstUnordered joins footprints h k d → Refused (Unordered i j c) ≡ Refused (Unordered h k d)
      by_later e r = rw (← e) (let r' : IsFirstUnordered joins footprints h j d = rw e r in by_earlier h (earlier_is i h j c d p r') r')

-- ---- the table, line by line: either this line holds, or a later one

-- one line is told where it holds, one of the later ones where they do, and never both
one_of : (Here Later : Verdict → Type 0) → ((v w : Verdict) → Here v → Here w → v ≡ w) → ((v w : Verdict) → Here v → Later w → ⊥) → ((v w : Verdict) → Later v → Later w → v ≡ w) → (v w : Verdict) → Here v ⊎ Later v → Here w ⊎ Later w → v ≡ w
one_of Here Later here never later v w (inl p) (inl q) = here v w p q
one_of Here Later here never later v w (inl p) (inr q) = absurd (never v w p q)
one_of Here Later here never later v w (inr p) (inl q) = absurd (never w v q p)
one_of Here Later here never later v w (inr p) (inr q) = later v w p q

module _ (s : Ledger) (b : BlockView) where
  -- the published state differs, or all is accepted
  abbrev StateLine : Verdict → Type 0
  StateLine v = (b.state ≢ digest_of (state_after s b)) × (v ≡ Refused StateDiffers)

  abbrev LastLine : Verdict → Type 0
  LastLine v = (b.state ≡ digest_of (state_after s b)) × (v ≡ Accepted (state_after s b))

  last_line : (v w : Verdict) → StateLine v ⊎ LastLine v → StateLine w ⊎ LastLine w → v ≡ w
  last_line = one_of StateLine LastLine (λ v w p q. p.1 ∙ sym q.1) (λ v w p q. p.0 q.0) (λ v w p q. p.1 ∙ sym q.1)

  -- something else is published of operation i: its footprint, or its receipt alone
  abbrev FootprintLine : ℕ → Verdict → Type 0
  FootprintLine i v = (¬ SameFootprint s b i) × (v ≡ Refused (FootprintDiffers i))

  abbrev ReceiptLine : ℕ → Verdict → Type 0
  ReceiptLine i v = SameFootprint s b i × (¬ SameReceipt s b i) × (v ≡ Refused (ReceiptDiffers i))

  abbrev OpLine : ℕ → Verdict → Type 0
  OpLine i v = FootprintLine i v ⊎ ReceiptLine i v

  op_line : (i : ℕ) (v w : Verdict) → OpLine i v → OpLine i w → v ≡ w
  op_line i = one_of (FootprintLine i) (ReceiptLine i) (λ v w p q. p.1 ∙ sym q.1) (λ v w p q. p.0 q.0) (λ v w p q. p.2 ∙ sym q.2)

  is_told : (i : ℕ) (v : Verdict) → OpLine i v → SameFootprint s b i × SameReceipt s b i → ⊥
  is_told i v (inl p) same = p.0 same.0
  is_told i v (inr p) same = p.1 same.1

  -- of the first operation of which something else is published
  record RunLine (v : Verdict) : Type 0 where
    op : ℕ
    within : op < length b.ops
    before : TellsFirst op s b
    here : OpLine op v

  record EndLine (v : Verdict) : Type 0 where
    all : TellsFirst (length b.ops) s b
    here : StateLine v ⊎ LastLine v

  run_line : (v w : Verdict) → RunLine v → RunLine w → v ≡ w
  run_line v w p q =
      elim (cases_order p.op q.op) [
        | inl e ↦ let here : OpLine p.op w = rw e q.here in op_line p.op v w p.here here
        | inr o ↦ elim o [ inl lt ↦ absurd (is_told p.op v p.here (q.before p.op lt)) | inr lt ↦ absurd (is_told q.op w q.here (p.before q.op lt)) ]
      ]

  end_line : (v w : Verdict) → RunLine v ⊎ EndLine v → RunLine w ⊎ EndLine w → v ≡ w
  end_line = one_of RunLine EndLine run_line (λ v w p q. is_told p.op v p.here (q.all p.op p.within)) (λ v w p q. last_line v w p.here q.here)

  -- of operations that conflict without an order
  record ConflictLine (v : Verdict) : Type 0 where
    earlier : ℕ
    later : ℕ
    cell : Cell
    first : IsFirstUnordered b.joins b.footprints earlier later cell
    is : v ≡ Refused (Unordered earlier later cell)

  record CoverLine (v : Verdict) : Type 0 where
    cover : Cover b.joins b.footprints
    here : RunLine v ⊎ EndLine v

  conflict_line : (v w : Verdict) → ConflictLine v → ConflictLine w → v ≡ w
  conflict_line v w p q = p.is ∙ one_conflict b.joins b.footprints p.earlier p.later q.earlier q.later p.cell q.cell p.first q.first ∙ sym q.is

  is_covered : (v w : Verdict) → ConflictLine v → CoverLine w → ⊥
  is_covered v w p q = p.first.apart (q.cover p.earlier p.later p.first.order p.first.within p.cell p.first.conflict)

  cover_line : (v w : Verdict) → ConflictLine v ⊎ CoverLine v → ConflictLine w ⊎ CoverLine w → v ≡ w
  cover_line = one_of ConflictLine CoverLine conflict_line is_covered (λ v w p q. end_line v w p.here q.here)

  -- of bad lists of joins
  record BadLine (v : Verdict) : Type 0 where
    op : ℕ
    first : IsFirstBad b.joins op
    is : v ≡ Refused (BadJoin op)

  record JoinLine (v : Verdict) : Type 0 where
    joins : AreJoins b.joins
    here : ConflictLine v ⊎ CoverLine v

  bad_line : (v w : Verdict) → BadLine v → BadLine w → v ≡ w
  bad_line v w p q = p.is ∙ ap (λ (j : ℕ). Refused (BadJoin j)) (one_bad b.joins p.op q.op p.first q.first) ∙ sym q.is

  join_line : (v w : Verdict) → BadLine v ⊎ JoinLine v → BadLine w ⊎ JoinLine w → v ≡ w
  join_line = one_of BadLine JoinLine bad_line (λ v w p q. p.first.bad (q.joins p.op p.first.within)) (λ v w p q. cover_line v w p.here q.here)

  -- of where the block stands
  abbrev ParentLine : Verdict → Type 0
  ParentLine v = (¬ StandsOn s b) × (v ≡ Refused WrongParent)

  abbrev StandLine : Verdict → Type 0
  StandLine v = StandsOn s b × (BadLine v ⊎ JoinLine v)

  stand_line : (v w : Verdict) → ParentLine v ⊎ StandLine v → ParentLine w ⊎ StandLine w → v ≡ w
  stand_line = one_of ParentLine StandLine (λ v w p q. p.1 ∙ sym q.1) (λ v w p q. p.0 q.0) (λ v w p q. join_line v w p.1 q.1)

  -- ---- each line of the table as one of these

  ordered : (v : Verdict) → IsOrdered s b → RunLine v ⊎ EndLine v → ParentLine v ⊎ StandLine v
  ordered v o here = inr (o.stands, inr (record { joins = o.joins; here = inr (record { cover = o.covered; here = here }) }))

  lined : (v : Verdict) → IsVerdictOn s b v → ParentLine v ⊎ StandLine v
  lined (Refused (Malformed p)) h = absurd h
  lined (Refused (NotYet p)) h = absurd h
  lined (Refused WrongParent) h = inl (h, refl)
  lined (Refused (BadJoin j)) h = inr (h.0, inl (record { op = j; first = h.1; is = refl }))
  lined (Refused (Unordered i j c)) h = inr (h.0, inr (record { joins = h.1; here = inl (record { earlier = i; later = j; cell = c; first = h.2; is = refl }) }))
  lined (Refused (FootprintDiffers i)) h = ordered (Refused (FootprintDiffers i)) h.0 (inl (record { op = i; within = h.1; before = h.2; here = inl (h.3, refl) }))
  lined (Refused (ReceiptDiffers i)) h = ordered (Refused (ReceiptDiffers i)) h.0 (inl (record { op = i; within = h.1; before = h.2; here = inr (h.3, h.4, refl) }))
  lined (Refused StateDiffers) h = ordered (Refused StateDiffers) h.0 (inr (record { all = h.1; here = inl (h.2, refl) }))
  lined (Accepted after) h = ordered (Accepted after) h.0.0 (inr (record { all = h.0.1; here = inr (h.0.2, ap Accepted h.1) }))

  on_block : (v w : Verdict) → IsVerdictOn s b v → IsVerdictOn s b w → v ≡ w
  on_block v w p q = stand_line v w (lined v p) (lined w q)

of_read : (s : Ledger) (read : Result BlockView Stop) (v w : Verdict) → IsVerdictOf s read v → IsVerdictOf s read w → v ≡ w
of_read s (Ok b) v w p q = on_block s b v w p q
of_read s (Err (stops.Stopped stops.Faulty place)) v w p q = p ∙ sym q
of_read s (Err (stops.Stopped stops.NotYet place)) v w p q = p ∙ sym q

pub one_verdict : (s : Ledger) (bytes : List ℕ) (v w : Verdict) → IsVerdict s bytes v → IsVerdict s bytes w → v ≡ w
one_verdict s bytes v w p q = of_read s (block_of bytes) v w p q
