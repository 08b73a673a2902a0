-- What is built of cells: the contents that they are, where there is no reason against them, or the first reason.
use Rattle.std.proofs.Common.{◌≡◌, ℕ, ◌+◌, ◌<◌, ◌≤◌, ◌^◌, true, false, cond, List, [], ◌∷◌, take, Option, Some, None, Result, Ok, Err, refl, sym, ap, subst, ◌∙◌, arith}
use Rattle.std.specs.Prelude.{is_some, if◌then◌else◌}
use Rattle.std.specs.declared.cmp.Ordering.TheVariants.{Less, Equal, Greater}
use Rattle.std.specs.Ordering.{eq_by_cmp}
use Rattle.std.specs.FinMap.{contains_key, empty, entries, find, get, get-entries, is_sorted}
use Rattle.value_core.proofs.Bools.{first_true, second_true}
use Rattle.value_core.specs.declared.val.Val.{Val}
use Rattle.michelson_code.specs.declared.script.Script.{Script}
use Rattle.cell_names.specs.declared.cell.Cell.TheVariants.{Storage}
use Rattle.cell_names.specs.Contents.{Contents}
use Rattle.code_book.specs.Books.{Contracts}
use Rattle.ledger_state.specs.declared.fault.BuildFault.{BuildFault}
use Rattle.ledger_state.specs.declared.fault.BuildFault.TheVariants.{Misfit, Twice, TooMuch, NoStorage, NoMemory}
use Rattle.ledger_state.specs.Building.{added, built, housed, housed_by}
use Rattle.ledger_state.specs.Reasons.{AreTheCells, ComesBefore, IsBare, IsFirstReason, IsMisfit, IsReason, IsRepeated, PassesSupply}
use Rattle.ledger_state.specs.Storages.{first_bare, least_bare}
use Rattle.ledger_state.proofs.BookLaws.{Row, by_bytes, total, ties}
use Rattle.ledger_state.proofs.CellLaws.{Held, money}
use Rattle.ledger_state.proofs.Entries.{apart_from, first_found, found_behind, greater_is, sorted, tie_of}
use Rattle.ledger_state.proofs.FirstReason.{AreAdded, Outcome, added_outcome}

-- ---- the first contract without a storage

record IsFirstBare (m : Contents) (rows : List Row) (a : List ℕ) : Type 0 where
  script : Script
  found : find by_bytes a rows ≡ Some script
  gone : contains_key m (Storage a) ≡ false
  first : (b : List ℕ) (s : Script) → find by_bytes b rows ≡ Some s → by_bytes b a ≡ Less → contains_key m (Storage b) ≡ true

bare_first : (m : Contents) (x : Row) (rows : List Row) → is_sorted by_bytes (x ∷ rows) ≡ true → contains_key m (Storage x.0) ≡ false → IsFirstBare m (x ∷ rows) x.0
bare_first m x rows up gone = record {
  script = x.1;
  found = first_found total x rows;
  gone = gone;
  first = λ b s found less. elim (eq_by_cmp by_bytes b x.0) as (λ t. eq_by_cmp by_bytes b x.0 ≡ t → cond t (Some x.1) (find by_bytes b rows) ≡ Some s → contains_key m (Storage b) ≡ true) [
    | true ↦ λ tied _. let no : Equal ≡ Less = sym (tie_of _ tied) ∙ less in absurd cc
    | false ↦ λ _ later. let no : Greater ≡ Less = sym (greater_is total x.0 b (apart_from total b s x.0 rows (first_true _ _ up) later)) ∙ less in absurd cc
  ] refl found;
}

bare_later : (m : Contents) (x : Row) (rows : List Row) (a : List ℕ) → is_sorted by_bytes (x ∷ rows) ≡ true → contains_key m (Storage x.0) ≡ true → IsFirstBare m rows a → IsFirstBare m (x ∷ rows) a
bare_later m x rows a up there is = record {
  script = is.script;
  found = found_behind total a is.script x rows (first_true _ _ up) is.found;
  gone = is.gone;
  first = λ b s found less. elim (eq_by_cmp by_bytes b x.0) as (λ t. eq_by_cmp by_bytes b x.0 ≡ t → cond t (Some x.1) (find by_bytes b rows) ≡ Some s → contains_key m (Storage b) ≡ true) [
    | true ↦ λ tied _. subst (λ (q : List ℕ). contains_key m (Storage q) ≡ true) (sym (ties b x.0 (tie_of _ tied))) there
    | false ↦ λ _ later. is.first b s later less
  ] refl found;
}

bare_is : (m : Contents) (rows : List Row) (a : List ℕ) → is_sorted by_bytes rows ≡ true → first_bare m rows ≡ Some a → IsFirstBare m rows a
bare_is m [] a up e = absurd cc
bare_is m (x ∷ rows) a up e =
    elim (contains_key m (Storage x.0)) as (λ b. contains_key m (Storage x.0) ≡ b → (if b then first_bare m rows else Some x.0) ≡ Some a → IsFirstBare m (x ∷ rows) a) [
      | true ↦ λ there later. bare_later m x rows a up there (bare_is m rows a (second_true _ _ up) later)
      | false ↦ λ gone here. let same : x.0 ≡ a = cc in subst (IsFirstBare m (x ∷ rows)) same (bare_first m x rows up gone)
    ] refl e

some_is : (o : Option Val) → is_some o ≡ true → (v : Val) × (o ≡ Some v)
some_is None h = absurd cc
some_is (Some v) h = (v, refl)

script_is : (o : Option Script) → is_some o ≡ true → (s : Script) × (o ≡ Some s)
script_is None h = absurd cc
script_is (Some s) h = (s, refl)

module _ (book : Contracts) (rows : List Held) (m : Contents) (are : AreAdded book rows m) where
  -- ---- no reason at a place

  no_misfit : (i : ℕ) → IsMisfit book rows i → ⊥
  no_misfit i r = let no : true ≡ false = sym (are.fit i r.cell r.value r.stands) ∙ r.misfit in cc

  no_repeat : (i : ℕ) → IsRepeated rows i → ⊥
  no_repeat i r = are.apart r.earlier i r.cell r.other r.value r.before r.stood r.stands

  no_passing : (i : ℕ) → PassesSupply rows i → ⊥
  no_passing i r =
      let few : money (take (i + 1) rows) < 2 ^ 63 = are.within i r.within in
      let much : 2 ^ 63 ≤ money (take (i + 1) rows) = r.passes in
      omega arith

  -- ---- storages

  housed_somewhere : (a : List ℕ) → contains_key m (Storage a) ≡ true → IsBare book rows a → ⊥
  housed_somewhere a there bare =
      let v = some_is (get m (Storage a)) there in
      let at = are.held (Storage a) v.0 v.1 in
      bare.nowhere at.0 v.0 at.1

  bare_contract : (a : List ℕ) → IsFirstBare m (entries book) a → IsBare book rows a
  bare_contract a is = record {
    contract = ap is_some (get-entries book a ∙ is.found);
    nowhere = λ i v stands. let no : true ≡ false = sym (ap is_some (are.stands i (Storage a) v stands)) ∙ is.gone in cc;
  }

  first_bare_contract : (a : List ℕ) → least_bare book m ≡ Some a → IsFirstReason book rows (NoStorage a)
  first_bare_contract a e =
      let is = bare_is m (entries book) a (sorted total book) e in
      record { holds = bare_contract a is; first = before is }
    where
      before : IsFirstBare m (entries book) a → (g : BuildFault) → IsReason book rows g → ComesBefore g (NoStorage a) → ⊥
      before is (Misfit i) r lt = no_misfit i r
      before is (Twice i) r lt = no_repeat i r
      before is (TooMuch i) r lt = no_passing i r
      before is (NoStorage b) r less =
          let s = script_is (get book b) r.contract in
          housed_somewhere b (is.first b s.0 (sym (get-entries book b) ∙ s.1) less) r
      before is NoMemory r lt = r

  -- ---- all of them

  pub are_the_cells : AreTheCells rows m
  are_the_cells c v = (λ is. are.held c v is, λ at. are.stands at.0 c v at.1)

  all_housed : (a : List ℕ) (es : List Row) (s : Script) → first_bare m es ≡ None → find by_bytes a es ≡ Some s → contains_key m (Storage a) ≡ true
  all_housed a [] s none found = absurd cc
  all_housed a (x ∷ es) s none found =
      elim (contains_key m (Storage x.0)) as (λ b. contains_key m (Storage x.0) ≡ b → (if b then first_bare m es else Some x.0) ≡ None → contains_key m (Storage a) ≡ true) [
        | false ↦ λ _ no. absurd cc
        | true ↦ λ there rest. elim (eq_by_cmp by_bytes a x.0) as (λ t. eq_by_cmp by_bytes a x.0 ≡ t → cond t (Some x.1) (find by_bytes a es) ≡ Some s → contains_key m (Storage a) ≡ true) [
          | true ↦ λ tied _. subst (λ (q : List ℕ). contains_key m (Storage q) ≡ true) (sym (ties a x.0 (tie_of _ tied))) there
          | false ↦ λ _ later. all_housed a es s rest later
        ] refl found
      ] refl none

  pub no_reason : least_bare book m ≡ None → (g : BuildFault) → IsReason book rows g → ⊥
  no_reason none (Misfit i) r = no_misfit i r
  no_reason none (Twice i) r = no_repeat i r
  no_reason none (TooMuch i) r = no_passing i r
  no_reason none (NoStorage a) r =
      let s = script_is (get book a) r.contract in
      housed_somewhere a (all_housed a (entries book) s.0 none (sym (get-entries book a) ∙ s.1)) r
  no_reason none NoMemory r = r

-- ---- what is built

of_contents : (book : Contracts) (rows : List Held) (m : Contents) (f : BuildFault) (o : Option (List ℕ)) → AreAdded book rows m → least_bare book m ≡ o → housed o m ≡ Err f → IsFirstReason book rows f
of_contents book rows m f None are is e = absurd cc
of_contents book rows m f (Some a) are is e = let same : NoStorage a ≡ f = cc in subst (IsFirstReason book rows) same (first_bare_contract book rows m are a is)

of_added : (book : Contracts) (rows : List Held) (r : Result Contents BuildFault) (f : BuildFault) → Outcome book rows r → housed_by book r ≡ Err f → IsFirstReason book rows f
of_added book rows (Ok m) f are e = of_contents book rows m f (least_bare book m) are refl e
of_added book rows (Err g) f first e = let same : g ≡ f = cc in subst (IsFirstReason book rows) same first

pub told_first : (book : Contracts) (rows : List Held) (f : BuildFault) → built book rows ≡ Err f → IsFirstReason book rows f
unfolding built
told_first book rows f e = of_added book rows (added book 0 empty rows) f (added_outcome book rows) e

-- the contents are the cells, and there is no reason against them
abbrev pub IsBuilt : Contracts → List Held → Contents → Type 0
IsBuilt book rows m = AreTheCells rows m × ((g : BuildFault) → ¬ IsReason book rows g)

contents_of : (book : Contracts) (rows : List Held) (m n : Contents) (o : Option (List ℕ)) → AreAdded book rows m → least_bare book m ≡ o → housed o m ≡ Ok n → IsBuilt book rows n
contents_of book rows m n None are is e =
    let same : m ≡ n = cc in
    subst (IsBuilt book rows) same (are_the_cells book rows m are, no_reason book rows m are is)
contents_of book rows m n (Some a) are is e = absurd cc

added_of : (book : Contracts) (rows : List Held) (r : Result Contents BuildFault) (n : Contents) → Outcome book rows r → housed_by book r ≡ Ok n → IsBuilt book rows n
added_of book rows (Ok m) n are e = contents_of book rows m n (least_bare book m) are refl e
added_of book rows (Err g) n first e = absurd cc

pub built_is : (book : Contracts) (rows : List Held) (m : Contents) → built book rows ≡ Ok m → IsBuilt book rows m
unfolding built
built_is book rows m e = added_of book rows (added book 0 empty rows) m (added_outcome book rows) e
