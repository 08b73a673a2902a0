-- The law of cells with their values: what is read fits its cells and is spelt so.
use Rattle.std.proofs.Common.{◌≡◌, ℕ, ◌+◌, ◌<◌, ◌^◌, true, List, [], ◌∷◌, ◌++◌, length, Option, Some, None, refl, sym, ap, subst, ◌∙◌, arith}
use Rattle.std.specs.Prelude.{IsTrue, map, sum}
use Rattle.std.specs.List.{flat_map, AllByRecursion}
use Rattle.std.specs.Int.{w32, to_be_bytes}
use Rattle.std.specs.FinMap.{get, len, entries, entries_sorted, entries-from_sorted, from_sorted, is_sorted, len-entries, same_entries_map}
use Rattle.std.proofs.lemmas.Bool.{ltb-true, lt-ltb}
use Rattle.std.proofs.lemmas.List.Sums.{sum_by-cons}
use Rattle.byte_fields.specs.Readers.{made, checked}
use Rattle.byte_fields.specs.Laws.{AllAlong, Reads}
use Rattle.byte_fields.proofs.Digits.{wide32}
use Rattle.byte_fields.proofs.Joined.{checked_reads, made_reads, with_reads}
use Rattle.byte_fields.proofs.Lists.{GoodItems, chained_reads}
use Rattle.byte_fields.proofs.Numbers.{number_reads}
use Rattle.value_core.proofs.Bools.{T_of, both_true, first_true, second_true}
use Rattle.value_core.specs.declared.val.Val.{Val}
use Rattle.value_codec.specs.Reading.{value}
use Rattle.value_codec.specs.Spelling.{spell, IsSpelt}
use Rattle.value_codec.proofs.ValueLaws.{spelt_reads}
use Rattle.cell_names.specs.declared.cell.Cell.{Cell}
use Rattle.cell_names.specs.Cells.{cell_cmp}
use Rattle.cell_names.specs.CellOrder.{cell_cmp-total, cell_cmp-ties}
use Rattle.cell_names.specs.Contents.{Contents}
use Rattle.cell_names.specs.Reading.{is_above}
use Rattle.cell_names.specs.Spelling.{IsCell}
use Rattle.cell_names.specs.Supply.{money_of, supply}
use Rattle.cell_names.proofs.Grammar.{cell_reads}
use Rattle.code_book.specs.Books.{Contracts}
use Rattle.code_book.specs.Fits.{fits}
use Rattle.ledger_state.specs.Spelling.{AreSpelt, spell_cells, spell_held}
use Rattle.ledger_state.specs.Reading.{Before, held, may_stand, next, rows, start}
use Rattle.ledger_state.proofs.Entries.{is_over, are_over, are_over-nil, are_over-cons, first_over, each_held, held_each, sorted}

-- a cell with its value
abbrev pub Held : Type 0
Held = Cell × Val

-- all the money of these cells
abbrev pub money : List Held → ℕ
money es = sum (map money_of es)

pub money-cons : (e : Held) (es : List Held) → money (e ∷ es) ≡ money_of e + money es
money-cons e es = sum_by-cons (λ n. n) (money_of e) (map money_of es)

module _ (book : Contracts) where
  -- ---- one cell

  value_reads : (d : ℕ) (supply : ℕ) (c : Cell) →
      Reads (made (λ v. let e : Held = (c, v) in e) (checked (may_stand book supply c) (value 18 d))) (λ e. spell e.1) (λ e. (e.0 ≡ c) × (IsSpelt 18 d e.1 × IsTrue (may_stand book supply c e.1)))
  value_reads d supply c =
      made_reads (λ v. let e : Held = (c, v) in e) (λ e. e.1) (λ e. spell e.1) (λ e. (e.0 ≡ c) × (IsSpelt 18 d e.1 × IsTrue (may_stand book supply c e.1)))
      (λ v good. (refl, (refl, good))) (λ e good. (good.1, (λ i. (sym good.0 i, e.1))))
      (checked_reads (may_stand book supply c) (spelt_reads 18 d))

  -- a cell above the last one, with a value that fits it
  abbrev pub IsNext : Before → Held → Type 0
  IsNext before e = (IsCell e.0 × IsTrue (is_above before.last e.0)) × ((e.0 ≡ e.0) × (IsSpelt 18 128 e.1 × IsTrue (may_stand book before.supply e.0 e.1)))

  held_reads : (before : Before) → Reads (held book before) spell_held (IsNext before)
  held_reads before = with_reads (checked_reads (is_above before.last) cell_reads) (λ c. value_reads 128 before.supply c) (λ (e : Held). e.0) (λ c e good. good.0)

  over_is : (last : Option Cell) (c : Cell) → is_above last c ≡ is_over cell_cmp last c
  over_is None c = refl
  over_is (Some last) c = refl

  -- ---- cells in a row

  -- a cell with a value that fits it, each of which has a spelling
  pub record IsFit (e : Held) : Type 0 where
    pub cell : IsCell e.0
    pub value : IsSpelt 18 128 e.1
    pub fit : fits book e.0 e.1 ≡ true

  -- cells that follow each other
  record Together (before : Before) (es : List Held) : Type 0 where
    ascend : is_sorted cell_cmp es ≡ true
    over : are_over cell_cmp before.last es ≡ true
    fit : AllByRecursion IsFit es
    within : before.supply < 2 ^ 63 → before.supply + money es < 2 ^ 63

  together : (before : Before) (es : List Held) → AllAlong IsNext next before es → Together before es
  together before [] h = record { ascend = refl; over = are_over-nil Val cell_cmp before.last; fit = tt; within = λ lt. omega arith }
  together before (e ∷ es) h =
      let t = together (next before e) es h.1 in
      let above : is_over cell_cmp before.last e.0 ≡ true = sym (over_is before.last e.0) ∙ h.0.0.1 in
      let stands = h.0.1.1.1 in
      let within : before.supply + money_of e < 2 ^ 63 = ltb-true (before.supply + money_of e) (2 ^ 63) (second_true (fits book e.0 e.1) _ stands) in
      record {
        ascend = both_true _ _ t.over t.ascend;
        over = are_over-cons cell_cmp-total before.last e es above t.over;
        fit = (record { cell = h.0.0.0; value = h.0.1.1.0; fit = first_true (fits book e.0 e.1) _ stands }, t.fit);
        within = λ lt. omega (arith, t.within within, money-cons e es);
      }

  along : (before : Before) (es : List Held) → is_sorted cell_cmp es ≡ true → are_over cell_cmp before.last es ≡ true → AllByRecursion IsFit es → before.supply + money es < 2 ^ 63 → AllAlong IsNext next before es
  along before [] up over fit lt = tt
  along before (e ∷ es) up over fit lt =
      let sum_is : money (e ∷ es) ≡ money_of e + money es = money-cons e es in
      let within : before.supply + money_of e < 2 ^ 63 = omega arith in
      let above : is_above before.last e.0 ≡ true = over_is before.last e.0 ∙ first_over cell_cmp-total before.last e es over in (
        ((fit.0.cell, above), (refl, (fit.0.value, both_true _ _ fit.0.fit (lt-ltb (before.supply + money_of e) (2 ^ 63) within)))),
        along (next before e) es (second_true _ _ up) (first_true _ _ up) fit.1 (omega arith),
      )

  abbrev row_bytes : List Held → List ℕ
  row_bytes es = to_be_bytes w32 (length es) ++ flat_map spell_held es

  abbrev AreRows : List Held → Type 0
  AreRows es = (length es < 2 ^ 32) × GoodItems IsNext next start (length es) es

  rows_reads : Reads (rows book) row_bytes AreRows
  rows_reads = with_reads (number_reads w32 (2 ^ 32) wide32) (λ n. chained_reads next held_reads start n) length (λ n es good. good.0)

  -- ---- contents

  -- fewer than 2^32 cells that fit, each of which has a spelling, with a supply below 2^63
  pub record AreFit (m : Contents) : Type 0 where
    pub few : len m < 2 ^ 32
    pub fit : (c : Cell) (v : Val) → get m c ≡ Some v → fits book c v ≡ true
    pub spelt : AreSpelt m
    pub within : supply m < 2 ^ 63

  fit_from : (es : List Held) → AreRows es → (row_bytes es ≡ spell_cells (from_sorted es)) × AreFit (from_sorted es)
  fit_from es good =
      let t = together start es good.1.1 in
      let m : Contents = from_sorted es in
      let is : entries m ≡ es = entries-from_sorted cell_cmp es (T_of _ t.ascend) in
      let count : len m ≡ length es = len-entries m ∙ ap length is in
      let fit : AllByRecursion IsFit (entries m) = subst (AllByRecursion IsFit) (sym is) t.fit in (
        (λ i. to_be_bytes w32 (sym count i) ++ flat_map spell_held (sym is i)),
        record {
          few = subst (λ n. n < 2 ^ 32) (sym count) good.0;
          fit = λ c v e. (each_held cell_cmp-total IsFit cell_cmp-ties m fit c v e).fit;
          spelt = λ c v e. let x = each_held cell_cmp-total IsFit cell_cmp-ties m fit c v e in (x.cell, x.value);
          within = subst (λ (l : List Held). money l < 2 ^ 63) (sym is) (omega (arith, t.within (omega arith)));
        },
      )

  from_fit : (m : Contents) → AreFit m → AreRows (entries m) × (from_sorted (entries m) ≡ m)
  from_fit m good =
      let fit : AllByRecursion IsFit (entries m) = held_each cell_cmp-total IsFit m (λ c v e. let x = good.spelt c v e in record { cell = x.0; value = x.1; fit = good.fit c v e }) in
      let within : supply m < 2 ^ 63 = good.within in (
        (subst (λ n. n < 2 ^ 32) (len-entries m) good.few, (refl, along start (entries m) (sorted cell_cmp-total m) refl fit (omega arith))),
        same_entries_map _ _ (entries-from_sorted cell_cmp (entries m) (entries_sorted m)),
      )

  pub contents_reads : Reads (made from_sorted (rows book)) spell_cells AreFit
  contents_reads = made_reads from_sorted entries spell_cells AreFit fit_from from_fit rows_reads
