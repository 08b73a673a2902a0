-- A state and bytes have a verdict, since each line of the table holds or it doesn't; and so contents have an answer.
use Rattle.std.proofs.Common.{◌≡◌, ℕ, zero, suc, ◌+◌, ◌<◌, Bool, true, false, List, [], ◌∷◌, length, Option, Some, None, Result, Ok, Err, refl, sym, ap, ◌∙◌, arith, inl, inr, ◌⊎◌}
use Rattle.std.specs.Prelude.{IsTrue, slice_get}
use Rattle.std.specs.List.{AllByRecursion}
use Rattle.std.proofs.lemmas.Bool.{cases_lt}
use Rattle.std.proofs.lemmas.Slice.Eq.{bytes_eq-Decides}
use Rattle.std.specs.Str.{bytes_eq}
use Rattle.cell_names.specs.declared.cell.Cell.{Cell}
use Rattle.cell_names.proofs.Puts.{is_one, one_from, is_one-self}
use Rattle.cell_names.specs.declared.mode.Mode.{Mode}
use Rattle.cell_names.specs.declared.mode.Mode.TheVariants.{Read, Credit, Own}
use Rattle.cell_names.specs.Footprints.{ascends}
use Rattle.cell_names.specs.Spelling.{IsFootprint}
use Rattle.join_schedule.specs.Joins.{AreJoins, IsFirstBad}
use Rattle.join_schedule.specs.Cover.{footprint_of, Cover, IsFirstUnordered}
use Rattle.join_schedule.proofs.Deciding.{Either, Exception, every_below, either_equal, joins_or_bad, cover_or_first}
use Rattle.byte_fields.specs.Laws.{IsBytes}
use Rattle.byte_fields.specs.Stops.{Stop}
use Rattle.byte_fields.specs.Stops as stops
use Rattle.plain_ledger.specs.Ledger.{Ledger}
use Rattle.plain_ledger.specs.Reading.{ledger_of}
use Rattle.transfer_blocks.specs.Spelling.{spelling}
use Rattle.transfer_blocks.specs.Reading.{block_of}
use Rattle.block_cli.specs.Commands.{FileName, Check, Genesis, Show, Validate}
use Rattle.block_cli.specs.Report.{malformed, not_yet}
use Rattle.block_cli.specs.Answer.{Answer, bad_input}
use Rattle.block_cli.specs.Validating.{answer_to, ValidatesOn}
use Rattle.block_cli.specs.Checking.{HaveAFinding, answer_of}
use Rattle.block_cli.specs.Genesis.{genesis_answer}
use Rattle.block_cli.specs.Showing.{show_answer}
use Rattle.block_cli.specs.Meaning.{ContentsHaveAnAnswer}
use Rattle.transfer_blocks.specs.Block.{BlockView, IsBlock}
use Rattle.transfer_blocks.specs.declared.transfer.Receipt.{Receipt}
use Rattle.plain_digest.specs.Digest.{digest_of}
use Rattle.block_cli.specs.declared.refusal.Refusal.TheVariants.{Malformed, NotYet, WrongParent, BadJoin, Unordered, FootprintDiffers, ReceiptDiffers, StateDiffers}
use Rattle.block_cli.specs.Verdict.{Verdict, Refused, Accepted, StandsOn, IsOrdered, serial_run, SameFootprint, SameReceipt, TellsFirst, state_after, IsVerdictOn, IsVerdictOf, HaveAVerdict}

-- ---- equality of what a block publishes

either_bytes : (xs ys : List ℕ) → Either (xs ≡ ys)
either_bytes xs ys = by (bytes_eq xs ys) refl
  where
    by : (b : Bool) → bytes_eq xs ys ≡ b → Either (xs ≡ ys)
    by true e = inl ((bytes_eq-Decides xs ys).0 e)
    by false e = inr (λ same. let both : true ≡ false = sym ((bytes_eq-Decides xs ys).1 same) ∙ e in absurd cc)

either_cell : (c d : Cell) → Either (c ≡ d)
either_cell c d = by (is_one c d) refl
  where
    by : (b : Bool) → is_one c d ≡ b → Either (c ≡ d)
    by true e = inl (one_from c d e)
    by false e = inr (λ same. let both : true ≡ false = sym (is_one-self c) ∙ ap (is_one c) same ∙ e in absurd cc)

either_mode : (m n : Mode) → Either (m ≡ n)
either_mode Read Read = inl refl
either_mode Read Credit = inr (λ e. absurd cc)
either_mode Read Own = inr (λ e. absurd cc)
either_mode Credit Read = inr (λ e. absurd cc)
either_mode Credit Credit = inl refl
either_mode Credit Own = inr (λ e. absurd cc)
either_mode Own Read = inr (λ e. absurd cc)
either_mode Own Credit = inr (λ e. absurd cc)
either_mode Own Own = inl refl

either_pair : {A B : Type 0} → ((x y : A) → Either (x ≡ y)) → ((x y : B) → Either (x ≡ y)) → (p q : A × B) → Either (p ≡ q)
either_pair first second p q =
    elim (first p.0 q.0) [
      | inr fails ↦ inr (λ e. fails (ap (λ r. r.0) e))
      | inl same ↦ elim (second p.1 q.1) [
        | inr fails ↦ inr (λ e. fails (ap (λ r. r.1) e))
        | inl alike ↦ inl (ap (λ x. (x, p.1)) same ∙ ap (λ y. (q.0, y)) alike)
      ]
    ]

either_list : {A : Type 0} → ((x y : A) → Either (x ≡ y)) → (xs ys : List A) → Either (xs ≡ ys)
either_list one [] [] = inl refl
either_list one [] (y ∷ ys) = inr (λ e. absurd cc)
either_list one (x ∷ xs) [] = inr (λ e. absurd cc)
either_list {A} one (x ∷ xs) (y ∷ ys) =
    elim (one x y) [
      | inr fails ↦ inr (λ e. let head : x ≡ y = cc in fails head)
      | inl same ↦ elim (either_list one xs ys) [
        | inr fails ↦ inr (λ e. let tail : xs ≡ ys = cc in fails tail)
        | inl alike ↦ inl (ap (λ (z : A). z ∷ xs) same ∙ ap (λ (zs : List A). y ∷ zs) alike)
      ]
    ]

either_option : {A : Type 0} → ((x y : A) → Either (x ≡ y)) → (o p : Option A) → Either (o ≡ p)
either_option one None None = inl refl
either_option one None (Some y) = inr (λ e. absurd cc)
either_option one (Some x) None = inr (λ e. absurd cc)
either_option {A} one (Some x) (Some y) = elim (one x y) [ inl same ↦ inl (ap (λ (z : A). Some z) same) | inr fails ↦ inr (λ e. let inside : x ≡ y = cc in fails inside) ]

either_bool : (a b : Bool) → Either (a ≡ b)
either_bool true true = inl refl
either_bool true false = inr (λ e. absurd cc)
either_bool false true = inr (λ e. absurd cc)
either_bool false false = inl refl

either_receipt : (r q : Receipt) → Either (r ≡ q)
either_receipt r q =
    elim (either_bool r.applied q.applied) [
      | inr fails ↦ inr (λ e. fails (ap (λ (x : Receipt). x.applied) e))
      | inl same ↦ elim (either_equal r.gas q.gas) [
        | inr fails ↦ inr (λ e. fails (ap (λ (x : Receipt). x.gas) e))
        | inl alike ↦ inl (λ i. record { applied = same i; gas = alike i })
      ]
    ]

-- ---- the lines of the table

either_stands : (s : Ledger) (b : BlockView) → Either (StandsOn s b)
either_stands s b =
    elim (either_bytes b.parent (digest_of s)) [
      | inr fails ↦ inr (λ on. fails on.parent)
      | inl parent ↦ elim (either_equal b.level (s.level + 1)) [
        | inr fails ↦ inr (λ on. fails on.level)
        | inl level ↦ elim (cases_lt b.now s.now) [
          | inl early ↦ inr (λ on. let le = on.now in omega arith)
          | inr now ↦ inl (record { parent = parent; level = level; now = now })
        ]
      ]
    ]

-- each footprint of a block ascends
up_at : (fs : List (List (Cell × Mode))) (j : ℕ) → AllByRecursion IsFootprint fs → j < length fs → IsTrue (ascends (footprint_of fs j))
up_at [] j all lt = absurd (omega arith)
up_at (f ∷ fs) zero all lt = all.0.touches.ascending
up_at (f ∷ fs) (suc j) all lt = up_at fs j all.1 (omega arith)

module _ (s : Ledger) (b : BlockView) (lawful : IsBlock b) where
  Told : Type 0
  Told = (v : Verdict) × IsVerdictOn s b v

  published : (i : ℕ) → Either (SameFootprint s b i × SameReceipt s b i)
  published i =
      elim (either_option (either_list (either_pair either_cell either_mode)) (slice_get b.footprints i) (slice_get (serial_run s b).footprints i)) [
        | inr fails ↦ inr (λ p. fails p.0)
        | inl footprint ↦ elim (either_option either_receipt (slice_get b.receipts i) (slice_get (serial_run s b).receipts i)) [
          | inr fails ↦ inr (λ p. fails p.1)
          | inl receipt ↦ inl (footprint, receipt)
        ]
      ]

  by_state : IsOrdered s b → TellsFirst (length b.ops) s b → Told
  unfolding Told
  by_state ordered all =
      elim (either_bytes b.state (digest_of (state_after s b))) [
        | inl is ↦ (Accepted (state_after s b), ((ordered, all, is), refl))
        | inr fails ↦ (Refused StateDiffers, (ordered, all, fails))
      ]

  by_op : IsOrdered s b → Exception (λ i. SameFootprint s b i × SameReceipt s b i) (length b.ops) → Told
  unfolding Told
  by_op ordered x =
      elim (either_option (either_list (either_pair either_cell either_mode)) (slice_get b.footprints x.place) (slice_get (serial_run s b).footprints x.place)) [
        | inr fails ↦ (Refused (FootprintDiffers x.place), (ordered, x.within, x.before, fails))
        | inl footprint ↦ (Refused (ReceiptDiffers x.place), (ordered, x.within, x.before, footprint, λ receipt. x.not (footprint, receipt)))
      ]

  by_run : IsOrdered s b → ((i : ℕ) → i < length b.ops → SameFootprint s b i × SameReceipt s b i) ⊎ Exception (λ i. SameFootprint s b i × SameReceipt s b i) (length b.ops) → Told
  by_run ordered (inl all) = by_state ordered all
  by_run ordered (inr x) = by_op ordered x

  by_cover : StandsOn s b → AreJoins b.joins → Cover b.joins b.footprints ⊎ ((i : ℕ) × (j : ℕ) × (c : Cell) × IsFirstUnordered b.joins b.footprints i j c) → Told
  unfolding Told
  by_cover stands joins (inl covered) = by_run (record { stands = stands; joins = joins; covered = covered }) (every_below (λ i. SameFootprint s b i × SameReceipt s b i) (length b.ops) (λ i lt. published i))
  by_cover stands joins (inr (i, j, c, first)) = (Refused (Unordered i j c), (stands, joins, first))

  by_joins : StandsOn s b → AreJoins b.joins ⊎ ((j : ℕ) × IsFirstBad b.joins j) → Told
  unfolding Told
  by_joins stands (inl joins) = by_cover stands joins (cover_or_first b.joins joins b.footprints (lawful.joined ∙ sym lawful.touched) (λ j lt. up_at b.footprints j lawful.footprints lt))
  by_joins stands (inr (j, bad)) = (Refused (BadJoin j), (stands, bad))

  pub has_verdict : (v : Verdict) × IsVerdictOn s b v
  unfolding Told
  has_verdict = elim (either_stands s b) [ inl stands ↦ by_joins stands (joins_or_bad b.joins) | inr fails ↦ (Refused WrongParent, fails) ]

-- ---- bytes, and the contents of files

-- what is read as a block is one, by its spelling
abbrev pub BlocksAreSpelt : Type 0
BlocksAreSpelt = (bytes : List ℕ) (b : BlockView) → IsBytes bytes → block_of bytes ≡ Ok b → IsBlock b × (bytes ≡ spelling b)

verdict_of_read : BlocksAreSpelt → (s : Ledger) (bytes : List ℕ) → IsBytes bytes → (r : Result BlockView Stop) → block_of bytes ≡ r → (v : Verdict) × IsVerdictOf s r v
verdict_of_read reads_block s bytes fits (Ok b) read = has_verdict s b (reads_block bytes b fits read).0
verdict_of_read reads_block s bytes fits (Err (stops.Stopped stops.Faulty p)) read = (Refused (Malformed p), refl)
verdict_of_read reads_block s bytes fits (Err (stops.Stopped stops.NotYet p)) read = (Refused (NotYet p), refl)

pub verdict_there : BlocksAreSpelt → HaveAVerdict
verdict_there reads_block s bytes fits = verdict_of_read reads_block s bytes fits (block_of bytes) refl

by_ledger : BlocksAreSpelt → (state next : FileName) (bytes : List ℕ) → IsBytes bytes → (r : Result Ledger Stop) → (answer : Answer) × ValidatesOn state next r bytes answer
by_ledger reads_block state next bytes fits (Ok s) = let v = verdict_there reads_block s bytes fits in (answer_to next v.0, (v.0, v.1, refl))
by_ledger reads_block state next bytes fits (Err (stops.Stopped stops.Faulty p)) = (bad_input state (malformed p), refl)
by_ledger reads_block state next bytes fits (Err (stops.Stopped stops.NotYet p)) = (bad_input state (not_yet p), refl)

pub answer_there : BlocksAreSpelt → HaveAFinding → ContentsHaveAnAnswer
answer_there reads_block finding (Validate state block next workers) (spelt ∷ bytes ∷ []) all fits = by_ledger reads_block state next bytes fits.1.0 (ledger_of spelt)
answer_there reads_block finding (Validate state block next workers) [] all fits = absurd (omega arith)
answer_there reads_block finding (Validate state block next workers) (x ∷ []) all fits = absurd (omega arith)
answer_there reads_block finding (Validate state block next workers) (x ∷ y ∷ z ∷ zs) all fits = absurd (omega arith)
answer_there reads_block finding (Check code) (bytes ∷ []) all fits = let found = finding bytes in (answer_of code found.0, (found.0, found.1, refl))
answer_there reads_block finding (Check code) [] all fits = absurd (omega arith)
answer_there reads_block finding (Check code) (x ∷ y ∷ zs) all fits = absurd (omega arith)
answer_there reads_block finding (Genesis text state) (bytes ∷ []) all fits = (genesis_answer text state bytes, refl)
answer_there reads_block finding (Genesis text state) [] all fits = absurd (omega arith)
answer_there reads_block finding (Genesis text state) (x ∷ y ∷ zs) all fits = absurd (omega arith)
answer_there reads_block finding (Show state) (bytes ∷ []) all fits = (show_answer state bytes, refl)
answer_there reads_block finding (Show state) [] all fits = absurd (omega arith)
answer_there reads_block finding (Show state) (x ∷ y ∷ zs) all fits = absurd (omega arith)
