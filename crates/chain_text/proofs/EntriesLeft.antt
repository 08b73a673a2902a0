-- Entries of a contract's big maps among the cells that are left, which ascend.
use Rattle.std.proofs.Common.{◌≡◌, ◌≢◌, ℕ, Bool, true, false, List, [], ◌∷◌, ◌++◌, refl, sym, ap, subst, ◌∙◌, append_assoc}
use Rattle.std.specs.Prelude.{if◌then◌else◌}
use Rattle.std.specs.declared.cmp.Ordering.{Ordering}
use Rattle.std.specs.declared.cmp.Ordering.TheVariants.{Less, Equal, Greater}
use Rattle.std.specs.Ordering.{is_lt, ordering_then}
use Rattle.std.specs.Cmp.Lexicographic.{nat_list_cmp_total}
use Rattle.std.specs.FinMap.{is_sorted}
use Rattle.std.specs.FinMap.Entries.{below_all}
use Rattle.std.specs.List.{flat_map}
use Rattle.std.specs.Str.{bytes_eq}
use Rattle.std.proofs.lemmas.List.{append-nil}
use Rattle.std.proofs.lemmas.List.Concat.{flat_map-cons}
use Rattle.std.proofs.lemmas.Slice.Eq.{bytes_eq-Decides}
use Rattle.value_core.specs.declared.val.Val.{Val}
use Rattle.value_core.proofs.Bools.{first_true, second_true}
use Rattle.value_core.proofs.PlaceLemmas.{is_Less}
use Rattle.data_nodes.specs.Storage.{Entry as MapEntry}
use Rattle.cell_names.specs.declared.cell.Cell.{Cell}
use Rattle.cell_names.specs.declared.cell.Cell.TheVariants.{Balance, Storage, Entry}
use Rattle.cell_names.specs.Cells.{cell_cmp, entry_cmp}
use Rattle.chain_text.specs.Printed.{entry_in}
use Rattle.chain_text.specs.Rows.{Row}
use Rattle.chain_text.proofs.EntryLemmas.{own_address}
use Rattle.chain_text.proofs.RowLemmas.{by_bytes, ties}

-- the entries of a contract among these cells
abbrev pub among : List ℕ → List Row → List MapEntry
among a = flat_map (entry_in a)

differs : (b : Bool) (P : Type 0) → (b ≡ true → P) → (P → ⊥) → b ≡ false
differs true P to never = absurd (never (to refl))
differs false P to never = refl

other_address : (a b : List ℕ) (place : ℕ) (key v : Val) → b ≢ a → entry_in a (Entry b place key, v) ≡ []
other_address a b place key v apart = ap (λ (t : Bool). if t then (place, key, v) ∷ [] else []) (differs (bytes_eq b a) (b ≡ a) (bytes_eq-Decides b a).0 apart)

own_entry : (a b : List ℕ) (place : ℕ) (key v : Val) → b ≡ a → entry_in a (Entry b place key, v) ≡ (place, key, v) ∷ []
own_entry a b place key v same = ap (λ (t : Bool). if t then (place, key, v) ∷ [] else []) ((bytes_eq-Decides b a).1 same)

apart_by : (a b : List ℕ) (r : Ordering) → by_bytes a b ≡ r → r ≢ Equal → a ≢ b
apart_by a b r is other same = other (sym is ∙ ap (by_bytes a) (sym same) ∙ own_address a)

-- ---- what is passed

pub record AreSoFar (address : List ℕ) (all left : List Row) (found : List MapEntry) : Type 0 where
  pub taken : found ++ among address left ≡ among address all
  pub sorted : is_sorted cell_cmp left ≡ true
  pub others : (a : List ℕ) → by_bytes address a ≡ Less → among a left ≡ among a all

pub begun : (address : List ℕ) (all : List Row) (found : List MapEntry) → found ≡ [] → is_sorted cell_cmp all ≡ true → AreSoFar address all all found
begun address all found none up = record { taken = ap (λ (es : List MapEntry). es ++ among address all) none; sorted = up; others = λ a less. refl }

none_in_front : (a : List ℕ) (x : Row) (left rest : List Row) → left ≡ x ∷ rest → entry_in a x ≡ [] → among a left ≡ among a rest
none_in_front a x left rest is none = ap (among a) is ∙ flat_map-cons (entry_in a) x rest ∙ ap (λ (es : List MapEntry). es ++ among a rest) none

one_passed : (address : List ℕ) (all left rest : List Row) (x : Row) (found : List MapEntry) → left ≡ x ∷ rest → entry_in address x ≡ [] → ((a : List ℕ) → by_bytes address a ≡ Less → entry_in a x ≡ []) → AreSoFar address all left found → AreSoFar address all rest found
one_passed address all left rest x found is none later are = record {
  taken = ap (λ (es : List MapEntry). found ++ es) (sym (none_in_front address x left rest is none)) ∙ are.taken;
  sorted = second_true (below_all cell_cmp x.0 rest) (is_sorted cell_cmp rest) (sym (ap (is_sorted cell_cmp) is) ∙ are.sorted);
  others = λ a less. sym (none_in_front a x left rest is (later a less)) ∙ are.others a less;
}

-- a cell that is no entry
pub other_passed : (address : List ℕ) (all left rest : List Row) (c : Cell) (v : Val) (found : List MapEntry) → left ≡ (c, v) ∷ rest → ((b : List ℕ) (place : ℕ) (key : Val) → c ≢ Entry b place key) → AreSoFar address all left found → AreSoFar address all rest found
other_passed address all left rest (Balance b) v found is none are = one_passed address all left rest (Balance b, v) found is refl (λ a less. refl) are
other_passed address all left rest (Storage b) v found is none are = one_passed address all left rest (Storage b, v) found is refl (λ a less. refl) are
other_passed address all left rest (Entry b place key) v found is none are = absurd (none b place key refl)

-- an entry of a contract before this one
pub earlier_passed : (address : List ℕ) (all left rest : List Row) (b : List ℕ) (place : ℕ) (key v : Val) (found : List MapEntry) → left ≡ (Entry b place key, v) ∷ rest → by_bytes b address ≡ Less → AreSoFar address all left found → AreSoFar address all rest found
earlier_passed address all left rest b place key v found is less are =
    one_passed address all left rest (Entry b place key, v) found is
    (other_address address b place key v (apart_by b address Less less (λ (e : Less ≡ Equal). cc)))
    (λ a above. other_address a b place key v (apart_by b a Less (nat_list_cmp_total.trans b address a less above) (λ (e : Less ≡ Equal). cc)))
    are

-- an entry of this contract
pub own_taken : (address : List ℕ) (all left rest : List Row) (b : List ℕ) (place : ℕ) (key v : Val) (found found' : List MapEntry) → left ≡ (Entry b place key, v) ∷ rest → by_bytes b address ≡ Equal → found' ≡ found ++ (place, key, v) ∷ [] → AreSoFar address all left found → AreSoFar address all rest found'
own_taken address all left rest b place key v found found' is same more are =
    let own : b ≡ address = ties b address same in
    let x : Row = (Entry b place key, v) in
    record {
      taken =
          ap (λ (es : List MapEntry). es ++ among address rest) more ∙ append_assoc found ((place, key, v) ∷ []) (among address rest)
          ∙ ap (λ (es : List MapEntry). found ++ es) (ap (λ (es : List MapEntry). es ++ among address rest) (sym (own_entry address b place key v own)) ∙ sym (flat_map-cons (entry_in address) x rest) ∙ ap (among address) (sym is))
          ∙ are.taken;
      sorted = second_true (below_all cell_cmp x.0 rest) (is_sorted cell_cmp rest) (sym (ap (is_sorted cell_cmp) is) ∙ are.sorted);
      others = λ a above. sym (none_in_front a x left rest is (other_address a b place key v (λ e. apart_by address a Less above (λ (f : Less ≡ Equal). cc) (sym own ∙ e)))) ∙ are.others a above;
    }

-- ---- what is behind a later contract

later_none : (a b : List ℕ) (place : ℕ) (key v : Val) (x : Row) → by_bytes b a ≡ Greater → cell_cmp (Entry b place key) x.0 ≡ Less → entry_in a x ≡ []
later_none a b place key v (Balance c, w) after less = refl
later_none a b place key v (Storage c, w) after less = refl
later_none a b place key v (Entry c q k, w) after less = other_address a c q k w (λ same.
    let back : ordering_then (by_bytes b c) (entry_cmp (Entry b place key) (Entry c q k)) ≡ Greater = ap (λ (r : Ordering). ordering_then r (entry_cmp (Entry b place key) (Entry c q k))) (ap (by_bytes b) same ∙ after) in
    let never : Less ≡ Greater = sym less ∙ back in cc)

all_later : (a b : List ℕ) (place : ℕ) (key v : Val) (rest : List Row) → by_bytes b a ≡ Greater → below_all cell_cmp (Entry b place key) rest ≡ true → among a rest ≡ []
all_later a b place key v [] after up = refl
all_later a b place key v (x ∷ rest) after up =
    flat_map-cons (entry_in a) x rest
    ∙ ap (λ (es : List MapEntry). es ++ among a rest) (later_none a b place key v x after (is_Less (cell_cmp (Entry b place key) x.0) (first_true (is_lt (cell_cmp (Entry b place key) x.0)) (below_all cell_cmp (Entry b place key) rest) up)))
    ∙ all_later a b place key v rest after (second_true (is_lt (cell_cmp (Entry b place key) x.0)) (below_all cell_cmp (Entry b place key) rest) up)

-- all of them are found
pub found_all : (address : List ℕ) (all left rest : List Row) (b : List ℕ) (place : ℕ) (key v : Val) (found : List MapEntry) → left ≡ (Entry b place key, v) ∷ rest → by_bytes b address ≡ Greater → AreSoFar address all left found → found ≡ among address all
found_all address all left rest b place key v found is after are =
    let up : is_sorted cell_cmp ((Entry b place key, v) ∷ rest) ≡ true = sym (ap (is_sorted cell_cmp) is) ∙ are.sorted in
    let none : among address left ≡ [] =
    none_in_front address (Entry b place key, v) left rest is (other_address address b place key v (apart_by b address Greater after (λ (e : Greater ≡ Equal). cc)))
    ∙ all_later address b place key v rest after (first_true (below_all cell_cmp (Entry b place key) rest) (is_sorted cell_cmp rest) up) in
    sym (append-nil found) ∙ ap (λ (es : List MapEntry). found ++ es) (sym none) ∙ are.taken

pub found_at_end : (address : List ℕ) (all left : List Row) (found : List MapEntry) → left ≡ [] → AreSoFar address all left found → found ≡ among address all
found_at_end address all left found none are = sym (append-nil found) ∙ ap (λ (es : List MapEntry). found ++ es) (sym (ap (among address) none)) ∙ are.taken

-- ---- the first that is left

pub entry_first : (left rest : List Row) (x : Row) (c : Cell) (b : List ℕ) (place : ℕ) (key : Val) → left ≡ x ∷ rest → c ≡ x.0 → c ≡ Entry b place key → left ≡ (Entry b place key, x.1) ∷ rest
entry_first left rest x c b place key is cell entry = is ∙ (λ i. ((sym cell ∙ entry) i, x.1) ∷ rest)

pub cell_first : (left rest : List Row) (x : Row) (c : Cell) → left ≡ x ∷ rest → c ≡ x.0 → left ≡ (c, x.1) ∷ rest
cell_first left rest x c is cell = is ∙ (λ i. (sym cell i, x.1) ∷ rest)

pub entry_found : (found found' : List MapEntry) (place : ℕ) (key key' v v' : Val) → found' ≡ found ++ (place, key', v') ∷ [] → key' ≡ key → v' ≡ v → found' ≡ found ++ (place, key, v) ∷ []
entry_found found found' place key key' v v' is same_key same = is ∙ (λ i. found ++ (place, same_key i, same i) ∷ [])

pub then_passed : (address : List ℕ) (all left next : List Row) (found found' : List MapEntry) → next ≡ left → found' ≡ found → AreSoFar address all left found → AreSoFar address all next found'
then_passed address all left next found found' passed same are =
    subst (λ (es : List MapEntry). AreSoFar address all next es) (sym same) (subst (λ (l : List Row). AreSoFar address all l found) (sym passed) are)
