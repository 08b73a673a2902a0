-- What an instruction without bodies makes of a stack of numbers, and where it makes nothing.
use Rattle.std.proofs.Common.{◌≡◌, ℕ, suc, ◌+◌, ◌-◌, ◌<◌, ◌≤◌, true, false, List, [], ◌∷◌, ◌++◌, length, drop, take, slice_index, Option, None, Some, inl, inr, refl, ap, sym, subst, ◌∙◌, arith, append_assoc}
use Rattle.std.specs.Prelude.{◌⊎◌, IsTrue, MatchOption}
use Rattle.std.specs.Option.{option_map}
use Rattle.std.proofs.Math.Seq.{drop-cons}
use Rattle.std.proofs.lemmas.Bool.{and_from, and_parts, ltb-true}
use Rattle.std.proofs.lemmas.List.{length-map, length-take-le, map-append, take-append-drop}
use Rattle.std.proofs.lemmas.List.Folds.{list_all-append}
use Rattle.value_core.specs.declared.ty.Ty.{Ty}
use Rattle.value_core.specs.declared.ty.Ty.TheVariants as type
use Rattle.michelson_code.specs.declared.instr.Instr.{Instr}
use Rattle.michelson_code.specs.declared.instr.Instr.TheOpen as one
use Rattle.michelson_code.specs.declared.instr.Instr.TheOpen.{Instr-F}
use Rattle.michelson_code.specs.declared.instr.Instr.TheViews.{out-Instr, roll-Instr, roll-out-Instr}
use Rattle.michelson_code.specs.declared.script.Script.{Script}
use Rattle.michelson_code.specs.Entries.{entry_type}
use Rattle.michelson_code.specs.FirstFault.{IsShort, without_line}
use Rattle.michelson_code.specs.Forms.{form_at}
use Rattle.michelson_code.specs.Inversion.{FindsLine}
use Rattle.michelson_code.specs.Typing.{Applies, To, called, comb_type, given_types, slot_types, types_written, by_line, drop_n, dup_n, dig, dug, pair_n, unpair_n}
use Rattle.michelson_code.proofs.DecidedLines.{is_counted}
use Rattle.michelson_code.proofs.InversionLaws.{found_by_applying}
use Rattle.michelson_code.proofs.OperandCounts.{enough_applies}
use Rattle.michelson_typer.specs.declared.lines.Written.{Written}
use Rattle.michelson_typer.specs.Lines.{AreWritten, FindsMade, FindsNone, IsWritten}
use Rattle.michelson_typer.specs.Numbered.{IsUnpaired, StartsWithComb}
use Rattle.michelson_typer.specs.Stacks.{IsStackOf}
use Rattle.michelson_typer.specs.Tables.{IsTypeOf, are_in, type_at, types_at}
use Rattle.michelson_typer.proofs.CombLaws.{in_drop, in_take}
use Rattle.michelson_typer.proofs.GrowLaws.{as_it_is, on_top}

-- an instruction with one level of another is that
pub rolled : (i j : Instr) (x : Instr-F Instr) → roll-Instr x ≡ j → out-Instr i ≡ x → i ≡ j
rolled i j x rolls is = sym (roll-out-Instr i) ∙ ap roll-Instr is ∙ rolls

-- ---- the types that an instruction writes

module _ (s : Script) (table : List Ty) where
  -- of `SELF` the type of the entry
  pub entry_written : (x : Instr-F Instr) (e : Option (List ℕ)) → x ≡ one.SelfEntry e → (t : Ty) → entry_type s (called e) ≡ Some t → (w : Written) →
      IsTypeOf table w.t t → IsTypeOf table w.u type.Unit → IsWritten s x table w
  entry_written x e is t found w number unit = record {
    types = t ∷ [];
    given = ap (given_types s) is ∙ ap (option_map (λ (u : Ty). u ∷ [])) found;
    t = number;
    u = unit;
  }

  -- where there is no entry, none
  pub no_entry_written : (x : Instr-F Instr) (e : Option (List ℕ)) → x ≡ one.SelfEntry e → entry_type s (called e) ≡ None → given_types s x ≡ None
  no_entry_written x e is none = ap (given_types s) is ∙ ap (option_map (λ (u : Ty). u ∷ [])) none

  given-other : (x : Instr-F Instr) → ((e : Option (List ℕ)) → x ≡ one.SelfEntry e → ⊥) → given_types s x ≡ Some (types_written (form_at x).operands)
  given-other (one.SelfEntry e) never = absurd (never e refl)
  given-other one.Drop never = refl
  given-other _ never = refl

  -- of any other those among its operands
  pub operands_written : (x : Instr-F Instr) → ((e : Option (List ℕ)) → x ≡ one.SelfEntry e → ⊥) → (w : Written) →
      AreWritten table (types_written (form_at x).operands) w → IsWritten s x table w
  operands_written x never w are = record { types = types_written (form_at x).operands; given = given-other x never; t = are.t; u = are.u }

-- ---- parts of a stack

module _ (table : List Ty) (stack : List ℕ) where
  pub high : length (types_at table stack) ≡ length stack
  high = length-map stack (type_at table)

  -- so many items, and those below
  pub whole : (n : ℕ) → types_at table (take n stack) ++ types_at table (drop n stack) ≡ types_at table stack
  whole n = sym (map-append (type_at table) (take n stack) (drop n stack)) ∙ ap (types_at table) (take-append-drop n stack)

  pub count : (n : ℕ) → n ≤ length stack → length (types_at table (take n stack)) ≡ n
  count n enough = length-map (take n stack) (type_at table) ∙ length-take-le n stack enough

  next : (n m : ℕ) → n < length stack → m ≡ suc n → drop n stack ≡ slice_index stack n ∷ drop m stack
  next n m less is = drop-cons stack n 0 less ∙ ap (λ (k : ℕ). slice_index stack n ∷ drop k stack) (sym is)

  -- so many items, the one below them, and those below it
  pub parted : (n m : ℕ) → n < length stack → m ≡ suc n →
      types_at table (take n stack) ++ type_at table (slice_index stack n) ∷ types_at table (drop m stack) ≡ types_at table stack
  parted n m less is = ap (λ (ids : List ℕ). types_at table (take n stack) ++ types_at table ids) (sym (next n m less is)) ∙ whole n

  pub item_in : (n : ℕ) → n < length stack → are_in table stack ≡ true → IsTypeOf table (slice_index stack n) (type_at table (slice_index stack n))
  item_in n less within = record {
    within = ltb-true (slice_index stack n) (length table)
        (and_parts _ _ (subst (λ (ids : List ℕ). are_in table ids ≡ true) (next n (suc n) less refl) (in_drop table n stack within))).0;
    is = refl;
  }

  pub both : (more : List ℕ) (ts us : List Ty) → IsStackOf table stack ts → IsStackOf table more us → IsStackOf table (stack ++ more) (ts ++ us)
  both more ts us first second = record {
    within = list_all-append _ stack more ∙ and_from _ _ first.within second.within;
    is = map-append (type_at table) stack more ∙ (λ i. first.is i ++ second.is i);
  }

-- the top, so many items below it, and those below them
pub rotated : (table : List Ty) (n : ℕ) (stack : List ℕ) → n < length stack →
    type_at table (slice_index stack 0) ∷ (types_at table (take n (drop 1 stack)) ++ types_at table (drop (n + 1) stack)) ≡ types_at table stack
rotated table n [] less = absurd (let none : length {A = ℕ} [] ≡ 0 = refl in omega arith)
rotated table n (id ∷ stack) less =
    let more : n + 1 ≡ suc n = omega arith in
    ap (λ (m : ℕ). type_at table id ∷ (types_at table (take n stack) ++ types_at table (drop m (id ∷ stack)))) more
    ∙ ap (λ (ts : List Ty). type_at table id ∷ ts) (whole table stack n)

pub rotated_count : (table : List Ty) (n : ℕ) (stack : List ℕ) → n < length stack → length (types_at table (take n (drop 1 stack))) ≡ n
rotated_count table n [] less = absurd (let none : length {A = ℕ} [] ≡ 0 = refl in omega arith)
rotated_count table n (id ∷ stack) less = count table stack n (let more : length (id ∷ stack) ≡ suc (length stack) = refl in omega arith)

-- what is said of an option, where more is known of both cases
pub further : {T : Type 0} (P R : Type 0) (Q S : T → Type 0) → (P → R) → ((x : T) → Q x → S x) → (o : Option T) → MatchOption o P Q → MatchOption o R S
further P R Q S none some None h = none h
further P R Q S none some (Some x) h = some x h

-- ---- instructions on a stack

module _ (s : Script) (x : Instr-F Instr) (table : List Ty) (stack : List ℕ) (within : are_in table stack ≡ true) where
  abbrev before : List Ty
  before = types_at table stack

  -- it makes nothing of the stack
  abbrev pub NoneApplies : Type 0
  NoneApplies = (after : List Ty) → Applies s x before after → ⊥

  -- it makes this
  abbrev pub MadeApplies : List Ty → List ℕ → Type 0
  MadeApplies new ids = IsTrue (are_in new ids) × Applies s x before (types_at new ids)

  short : (y : Instr-F Instr) → x ≡ y → IsShort y before → NoneApplies
  short y is less after applies = enough_applies s y before after less (subst (λ (z : Instr-F Instr). Applies s z before after) is applies)

  makes : (new : List Ty) (y : Instr-F Instr) → x ≡ y → (front : List Ty) → front ≡ before → (ids : List ℕ) (after : List Ty) → IsStackOf new ids after → Applies s y front after → MadeApplies new ids
  makes new y is front same ids after made applies = (
    made.within,
    subst (λ (z : Instr-F Instr). Applies s z before (types_at new ids)) (sym is)
        (subst (λ (b : List Ty). Applies s y b (types_at new ids)) same (subst (Applies s y front) (sym made.is) applies)),
  )

  renamed : (new : List Ty) (ids made : List ℕ) (after : List Ty) → made ≡ ids → IsStackOf new ids after → IsStackOf new made after
  renamed new ids made after is stands = subst (λ (js : List ℕ). IsStackOf new js after) (sym is) stands

  below_in : (n : ℕ) → IsStackOf table (drop n stack) (types_at table (drop n stack))
  below_in n = as_it_is table (drop n stack) (in_drop table n stack within)

  module _ (n : ℕ) where
    fewer : (m : ℕ) → length stack < m → length before < m
    fewer m less = let same = high table stack in omega arith

    pub dropped : x ≡ one.DropN n → (length stack < n → NoneApplies) × ((made : List ℕ) → (n ≤ length stack) × (made ≡ drop n stack) → MadeApplies table made)
    dropped is = (
      λ less. short (one.DropN n) is (without_line refl (fewer n less)),
      λ made h. makes table (one.DropN n) is _ (whole table stack n) made _ (renamed table _ made _ h.1 (below_in n))
          (drop_n n (types_at table (take n stack)) (types_at table (drop n stack)) (count table stack n h.0)),
    )

    no_dup : x ≡ one.DupN n → n ≡ 0 → NoneApplies
    no_dup is none after applies =
        let found = found_by_applying s 0 (one.DupN n) before after (subst (λ (z : Instr-F Instr). Applies s z before after) is applies) in
        let some = found.1.0 in omega arith

    pub duplicated : x ≡ one.DupN n → ((n ≡ 0) ⊎ (length stack < n) → NoneApplies) ×
        ((made : List ℕ) → (0 < n) × (n ≤ length stack) × (made ≡ slice_index stack (n - 1) ∷ stack) → MadeApplies table made)
    duplicated is = (
      λ h. elim h [ inl none ↦ no_dup is none | inr less ↦ short (one.DupN n) is (without_line refl (fewer n less)) ],
      λ made h.
          let some = h.0 in
          let enough = h.1 in
          let k = n - 1 in
          let less : k < length stack = omega arith in
          let first : k ≤ length stack = omega arith in
          let one_more : n ≡ suc k = omega arith in
          let front = parted table stack k n less one_more in
          makes table (one.DupN n) is _ front made _
          (renamed table _ made _ h.2 (on_top table (slice_index stack k) _ stack _ (item_in table stack k less within) (record { within = within; is = sym front })))
          (dup_n n (types_at table (take k stack)) (type_at table (slice_index stack k)) (types_at table (drop n stack)) (ap suc (count table stack k first) ∙ sym one_more)),
    )

    pub dug_out : x ≡ one.Dig n → (length stack ≤ n → NoneApplies) ×
        ((made : List ℕ) → (n < length stack) × (made ≡ (slice_index stack n ∷ take n stack) ++ drop (n + 1) stack) → MadeApplies table made)
    dug_out is = (
      λ less. short (one.Dig n) is (without_line refl (fewer (suc n) (omega arith))),
      λ made h.
          let less = h.0 in
          let first : n ≤ length stack = omega arith in
          let one_more : n + 1 ≡ suc n = omega arith in
          makes table (one.Dig n) is _ (parted table stack n (n + 1) less one_more) made _
          (renamed table _ made _ h.1 (on_top table (slice_index stack n) _ (take n stack ++ drop (n + 1) stack) _ (item_in table stack n less within)
          (both table (take n stack) (drop (n + 1) stack) _ _ (as_it_is table (take n stack) (in_take table n stack within)) (below_in (n + 1)))))
          (dig n (types_at table (take n stack)) (type_at table (slice_index stack n)) (types_at table (drop (n + 1) stack)) (count table stack n first)),
    )

    pub dug_in : x ≡ one.Dug n → (length stack ≤ n → NoneApplies) ×
        ((made : List ℕ) → (n < length stack) × (made ≡ (take n (drop 1 stack) ++ slice_index stack 0 ∷ []) ++ drop (n + 1) stack) → MadeApplies table made)
    dug_in is = (
      λ less. short (one.Dug n) is (without_line refl (fewer (suc n) (omega arith))),
      λ made h.
          let less = h.0 in
          let some : 0 < length stack = omega arith in
          let items = take n (drop 1 stack) in
          let top = type_at table (slice_index stack 0) in
          let alone = on_top table (slice_index stack 0) top [] [] (item_in table stack 0 some within) (record { within = refl; is = refl }) in
          let upper = both table items (slice_index stack 0 ∷ []) _ _ (as_it_is table items (in_take table n (drop 1 stack) (in_drop table 1 stack within))) alone in
          makes table (one.Dug n) is _ (rotated table n stack less) made _
          (renamed table _ made _ h.1 (subst (IsStackOf table ((items ++ slice_index stack 0 ∷ []) ++ drop (n + 1) stack))
          (append_assoc (types_at table items) (top ∷ []) (types_at table (drop (n + 1) stack)))
          (both table (items ++ slice_index stack 0 ∷ []) (drop (n + 1) stack) _ _ upper (below_in (n + 1)))))
          (dug n (types_at table items) top (types_at table (drop (n + 1) stack)) (rotated_count table n stack less)),
    )

    no_pair : x ≡ one.PairN n → n ≡ 0 → NoneApplies
    no_pair is none after applies =
        let found = found_by_applying s 0 (one.PairN n) before after (subst (λ (z : Instr-F Instr). Applies s z before after) is applies) in
        let some = found.1.0 in omega arith

    pub paired : x ≡ one.PairN n → (new : List Ty) → ((n ≡ 0) ⊎ (length stack < n) → NoneApplies) ×
        ((made : List ℕ) → (0 < n) × (n ≤ length stack) × IsStackOf new made
        (comb_type (types_at table (take (n - 1) stack)) (type_at table (slice_index stack (n - 1))) ∷ types_at table (drop n stack)) → MadeApplies new made)
    paired is new = (
      λ h. elim h [ inl none ↦ no_pair is none | inr less ↦ short (one.PairN n) is (without_line refl (fewer n less)) ],
      λ made h.
          let some = h.0 in
          let enough = h.1 in
          let k = n - 1 in
          let less : k < length stack = omega arith in
          let first : k ≤ length stack = omega arith in
          let one_more : n ≡ suc k = omega arith in
          makes new (one.PairN n) is _ (parted table stack k n less one_more) made _ h.2
          (pair_n n (types_at table (take k stack)) (type_at table (slice_index stack k)) (types_at table (drop n stack)) (ap suc (count table stack k first) ∙ sym one_more)),
    )

    pub unpaired : x ≡ one.UnpairN n → ((StartsWithComb table stack n → ⊥) → NoneApplies) × ((made : List ℕ) → IsUnpaired table stack n made → MadeApplies table made)
    unpaired is = (
      λ none after applies.
          let found = found_by_applying s 0 (one.UnpairN n) before after (subst (λ (z : Instr-F Instr). Applies s z before after) is applies) in
          none (record { items = found.0; last = found.1.0; below = found.1.1.0; count = found.1.1.1.0; stands = found.1.1.1.1 }),
      λ made h. makes table (one.UnpairN n) is _ (sym h.comb.stands) made _ h.numbers (unpair_n n h.comb.items h.comb.last h.comb.below h.comb.count),
    )

  -- ---- by the table of operands

  by_its_line : (y : Instr-F Instr) (b t : List Ty) → is_counted y ≡ false → Applies s y b t → FindsLine s y b (To t)
  by_its_line y b t plain (by_line z l c below is given k) =
      record { line = l; choice = c; below = below; is_line = is; written = given; comparable = k; operands = refl; results = refl }
  by_its_line y b t plain (drop_n n items below long) = cc
  by_its_line y b t plain (dup_n n items a below long) = cc
  by_its_line y b t plain (dig n items a below long) = cc
  by_its_line y b t plain (dug n items a below long) = cc
  by_its_line y b t plain (pair_n n items a below long) = cc
  by_its_line y b t plain (unpair_n n items a below long) = cc

  line_applies : (t : List Ty) → FindsLine s x before (To t) → Applies s x before t
  line_applies t f =
      let results : slot_types f.choice f.line.1 ++ f.below ≡ t = cc in
      subst (λ (b : List Ty). Applies s x b t) (sym f.operands) (subst (Applies s x (slot_types f.choice f.line.0 ++ f.below)) results
      (by_line x f.line f.choice f.below f.is_line f.written f.comparable))

  pub by_table : is_counted x ≡ false → (new : List Ty) → (FindsNone s x before → NoneApplies) × ((made : List ℕ) → FindsMade s x before new made → MadeApplies new made)
  by_table plain new = (
    λ none after applies. none (To after) (by_its_line x before after plain applies),
    λ made f. (f.within, line_applies (types_at new made) f.finds),
  )

-- an instruction that moves as many items as it says is one of six
pub uncounted : (x : Instr-F Instr) → ((n : ℕ) → x ≡ one.DropN n → ⊥) → ((n : ℕ) → x ≡ one.DupN n → ⊥) → ((n : ℕ) → x ≡ one.Dig n → ⊥) → ((n : ℕ) → x ≡ one.Dug n → ⊥) →
    ((n : ℕ) → x ≡ one.PairN n → ⊥) → ((n : ℕ) → x ≡ one.UnpairN n → ⊥) → is_counted x ≡ false
uncounted (one.DropN n) drops dups digs dugs pairs unpairs = absurd (drops n refl)
uncounted (one.DupN n) drops dups digs dugs pairs unpairs = absurd (dups n refl)
uncounted (one.Dig n) drops dups digs dugs pairs unpairs = absurd (digs n refl)
uncounted (one.Dug n) drops dups digs dugs pairs unpairs = absurd (dugs n refl)
uncounted (one.PairN n) drops dups digs dugs pairs unpairs = absurd (pairs n refl)
uncounted (one.UnpairN n) drops dups digs dugs pairs unpairs = absurd (unpairs n refl)
uncounted one.Drop drops dups digs dugs pairs unpairs = refl
uncounted _ drops dups digs dugs pairs unpairs = refl
