-- Cells of a contract's storage and of its big maps: each entry fits, and none of those behind is its cell.
use Rattle.std.proofs.Common.{◌≡◌, ◌≢◌, ℕ, true, false, List, [], ◌∷◌, Option, Some, None, refl, sym, ap, ◌∙◌}
use Rattle.std.specs.Prelude.{◌&&◌, IsSomeAnd, IsTrue, is_some, slice_get}
use Rattle.std.specs.declared.cmp.Ordering.{Ordering}
use Rattle.std.specs.declared.cmp.Ordering.TheVariants.{Less, Equal}
use Rattle.std.specs.Ordering.{is_lt, ordering_then}
use Rattle.std.specs.Cmp.{eq_by_cmp_equiv}
use Rattle.std.specs.Cmp.Lexicographic.{nat_list_cmp_total}
use Rattle.std.specs.FinMap.{contains_key, get, insert}
use Rattle.std.specs.List.{AllByRecursion}
use Rattle.value_core.specs.declared.ty.Ty.{Ty}
use Rattle.value_core.specs.declared.val.Val.{Val}
use Rattle.value_core.specs.BigMaps.{big_maps_of, is_placed}
use Rattle.value_core.specs.Sound.{is_plain}
use Rattle.value_core.specs.Typed.{has_type}
use Rattle.value_core.proofs.Bools.{both_true, first_true, second_true}
use Rattle.value_core.proofs.PlaceLemmas.{is_Less}
use Rattle.data_nodes.specs.Storage.{Entry as MapEntry, IsEntryOf, IsKept, Kept, entries_ascend, entry_order}
use Rattle.michelson_code.specs.declared.script.Script.{Script}
use Rattle.cell_names.specs.declared.cell.Cell.{Cell}
use Rattle.cell_names.specs.declared.cell.Cell.TheVariants.{Storage, Entry}
use Rattle.cell_names.specs.CellOrder.{cell_cmp-total}
use Rattle.cell_names.specs.Cells.{cell_cmp, entry_cmp}
use Rattle.cell_names.specs.Contents.{Contents}
use Rattle.code_book.specs.Books.{Contracts}
use Rattle.code_book.specs.Fits.{fits, fits_big_map, fits_entry, fits_storage}
use Rattle.chain_text.specs.Rows.{AreFree}
use Rattle.chain_text.proofs.RowLemmas.{by_bytes, put_elsewhere, tie_of}

-- the cell of an entry
abbrev pub cell_of : List ℕ → MapEntry → Cell
cell_of a e = Entry a e.0 e.1

-- ---- the order of entries is that of their cells

pub own_address : (a : List ℕ) → by_bytes a a ≡ Equal
own_address a = tie_of (by_bytes a a) ((eq_by_cmp_equiv nat_list_cmp_total).refl a)

own_cell : (c : Cell) → cell_cmp c c ≡ Equal
own_cell c = tie_of (cell_cmp c c) ((eq_by_cmp_equiv cell_cmp-total).refl c)

pub cells_in_order : (a : List ℕ) (d e : MapEntry) → cell_cmp (cell_of a d) (cell_of a e) ≡ entry_order d e
cells_in_order a d e = ap (λ (r : Ordering). ordering_then r (entry_cmp (cell_of a d) (cell_of a e))) (own_address a)

abbrev AreAbove : List ℕ → MapEntry → List MapEntry → Type 0
AreAbove a d es = AllByRecursion (λ e. cell_cmp (cell_of a d) (cell_of a e) ≡ Less) es

above_too : (a : List ℕ) (d e : MapEntry) (es : List MapEntry) → cell_cmp (cell_of a d) (cell_of a e) ≡ Less → AreAbove a e es → AreAbove a d es
above_too a d e [] less up = tt
above_too a d e (x ∷ es) less up = (cell_cmp-total.trans (cell_of a d) (cell_of a e) (cell_of a x) less up.0, above_too a d e es less up.1)

pub above : (a : List ℕ) (d : MapEntry) (es : List MapEntry) → entries_ascend (d ∷ es) ≡ true → AreAbove a d es
above a d [] up = tt
above a d (e ∷ es) up =
    let less : cell_cmp (cell_of a d) (cell_of a e) ≡ Less = cells_in_order a d e ∙ is_Less (entry_order d e) (first_true (is_lt (entry_order d e)) (entries_ascend (e ∷ es)) up) in
    (less, above_too a d e es less (above a e es (second_true (is_lt (entry_order d e)) (entries_ascend (e ∷ es)) up)))

pub rest_ascends : (d : MapEntry) (es : List MapEntry) → entries_ascend (d ∷ es) ≡ true → entries_ascend es ≡ true
rest_ascends d [] up = refl
rest_ascends d (e ∷ es) up = second_true (is_lt (entry_order d e)) (entries_ascend (e ∷ es)) up

pub apart : (c d : Cell) → cell_cmp c d ≡ Less → d ≢ c
apart c d less same = let never : Less ≡ Equal = sym less ∙ ap (cell_cmp c) same ∙ own_cell c in cc

-- ---- one entry, and then the others

still_free : (m : Contents) (a : List ℕ) (d : MapEntry) (es : List MapEntry) → AreAbove a d es → AllByRecursion (λ e. get m (cell_of a e) ≡ None) es → AllByRecursion (λ e. get (insert m (cell_of a d) d.2) (cell_of a e) ≡ None) es
still_free m a d [] up free = tt
still_free m a d (e ∷ es) up free = (put_elsewhere m (cell_of a d) (cell_of a e) d.2 (apart (cell_of a d) (cell_of a e) up.0) ∙ free.0, still_free m a d es up.1 free.1)

pub others_free : (book : Contracts) (m : Contents) (a : List ℕ) (d : MapEntry) (es : List MapEntry) → AreFree book m a (d ∷ es) → AreFree book (insert m (cell_of a d) d.2) a es
others_free book m a d es are = record {
  ascending = rest_ascends d es are.ascending;
  fit = are.fit.1;
  free = still_free m a d es (above a d es are.ascending) are.free.1;
}

-- ---- behind the storage

storage_apart : (a b : List ℕ) (e : MapEntry) → cell_of a e ≢ Storage b
storage_apart a b e same = absurd cc

free_behind : (m : Contents) (a : List ℕ) (v : Val) (es : List MapEntry) → AllByRecursion (λ e. get m (cell_of a e) ≡ None) es → AllByRecursion (λ e. get (insert m (Storage a) v) (cell_of a e) ≡ None) es
free_behind m a v [] free = tt
free_behind m a v (e ∷ es) free = (put_elsewhere m (Storage a) (cell_of a e) v (storage_apart a a e) ∙ free.0, free_behind m a v es free.1)

pub free_of_storage : (book : Contracts) (m : Contents) (a : List ℕ) (v : Val) (es : List MapEntry) → AreFree book m a es → AreFree book (insert m (Storage a) v) a es
free_of_storage book m a v es are = record { ascending = are.ascending; fit = are.fit; free = free_behind m a v es are.free }

-- ---- a storage that was read

entry_fits : (t : Ty) (e : MapEntry) (o : Option (Ty × Ty)) → slice_get (big_maps_of t) e.0 ≡ o → IsSomeAnd o (λ types. IsTrue (has_type e.1 types.0) × IsTrue (has_type e.2 types.1)) → fits_big_map (slice_get (big_maps_of t) e.0) e.1 e.2 ≡ true
entry_fits t e None is typed = absurd typed
entry_fits t e (Some m) is typed = ap (λ (o : Option (Ty × Ty)). fits_big_map o e.1 e.2) is ∙ both_true (has_type e.1 m.0) (has_type e.2 m.1) typed.0 typed.1

all_fit : (book : Contracts) (a : List ℕ) (s : Script) (es : List MapEntry) → get book a ≡ Some s → AllByRecursion (IsEntryOf (big_maps_of s.storage)) es → AllByRecursion (λ e. fits book (cell_of a e) e.2 ≡ true) es
all_fit book a s [] is typed = tt
all_fit book a s (e ∷ es) is typed = (
  ap (λ (o : Option Script). fits_entry o e.0 e.1 e.2) is ∙ entry_fits s.storage e (slice_get (big_maps_of s.storage) e.0) refl typed.0,
  all_fit book a s es is typed.1,
)

absent : (o : Option Val) → is_some o ≡ false → o ≡ None
absent None gone = refl
absent (Some v) gone = absurd cc

all_absent : (m : Contents) (a : List ℕ) (es : List MapEntry) → ((place : ℕ) (key : Val) → contains_key m (Entry a place key) ≡ false) → AllByRecursion (λ e. get m (cell_of a e) ≡ None) es
all_absent m a [] none = tt
all_absent m a (e ∷ es) none = (absent (get m (cell_of a e)) (none e.0 e.1), all_absent m a es none)

pub kept_is_free : (book : Contracts) (m : Contents) (a : List ℕ) (s : Script) (kept : Kept) → get book a ≡ Some s → IsKept s.storage kept → ((place : ℕ) (key : Val) → contains_key m (Entry a place key) ≡ false) → AreFree book m a kept.1
kept_is_free book m a s kept is k none = record {
  ascending = k.ascending;
  fit = all_fit book a s kept.1 is k.entries;
  free = all_absent m a kept.1 none;
}

pub kept_fits : (book : Contracts) (a : List ℕ) (s : Script) (kept : Kept) → get book a ≡ Some s → IsKept s.storage kept → fits book (Storage a) kept.0 ≡ true
kept_fits book a s kept is k =
    ap (λ (o : Option Script). fits_storage o kept.0) is
    ∙ both_true (is_plain kept.0) (has_type kept.0 s.storage && is_placed kept.0 s.storage) k.plain (both_true (has_type kept.0 s.storage) (is_placed kept.0 s.storage) k.typed k.placed)

pub not_there : (m : Contents) (c : Cell) → contains_key m c ≡ false → get m c ≡ None
not_there m c gone = absent (get m c) gone
