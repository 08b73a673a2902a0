-- Entries of a contract's big maps that are kept one after another, behind its storage.
use Rattle.std.proofs.Common.{◌≡◌, ℕ, Bool, true, false, List, ◌∷◌, refl, sym, ap, subst, ◌∙◌}
use Rattle.std.specs.Prelude.{◌||◌}
use Rattle.std.specs.Ordering.{eq_by_cmp}
use Rattle.std.specs.Cmp.{eq_by_cmp_equiv}
use Rattle.std.specs.Cmp.Lexicographic.{nat_list_cmp_total}
use Rattle.std.specs.FinMap.{insert}
use Rattle.std.specs.FinSet as set
use Rattle.value_core.specs.declared.val.Val.{Val}
use Rattle.data_nodes.specs.Storage.{Entry as MapEntry}
use Rattle.cell_names.specs.declared.cell.Cell.TheVariants.{Storage}
use Rattle.chain_text.specs.Standing.{Addresses, Standing, with_entries}
use Rattle.chain_text.specs.Rows.{AreFree}
use Rattle.chain_text.proofs.EntryLemmas.{cell_of, free_of_storage, others_free}
use Rattle.chain_text.proofs.RowLemmas.{by_bytes}

-- with the entries that are left the same stands in the end
pub record AreLeft (s whole : Standing) (a : List ℕ) (left : List MapEntry) : Type 0 where
  pub stored : set.contains s.stored a ≡ true
  pub free : AreFree s.book s.cells a left
  pub so_far : record s { cells = with_entries a left s.cells } ≡ whole

pub one_kept : (s next whole : Standing) (a : List ℕ) (left left' : List MapEntry) (e : MapEntry) → left ≡ e ∷ left' → next ≡ record s { cells = insert s.cells (cell_of a e) e.2 } → AreLeft s whole a left → AreLeft next whole a left'
one_kept s next whole a left left' e is put are =
    let free : AreFree s.book s.cells a (e ∷ left') = subst (AreFree s.book s.cells a) is are.free in
    let then : AreLeft (record s { cells = insert s.cells (cell_of a e) e.2 }) whole a left' = record {
      stored = are.stored;
      free = others_free s.book s.cells a e left' free;
      so_far = ap (λ (es : List MapEntry). record s { cells = with_entries a es s.cells }) (sym is) ∙ are.so_far;
    } in
    subst (λ (t : Standing). AreLeft t whole a left') (sym put) then

-- ---- behind the storage

or_first : (x y : Bool) → x ≡ true → (x || y) ≡ true
or_first true y e = refl
or_first false y e = absurd cc

seen_now : (seen : Addresses) (a : List ℕ) → set.contains (set.insert seen a) a ≡ true
seen_now seen a = set.contains-insert nat_list_cmp_total seen a a ∙ or_first (eq_by_cmp by_bytes a a) (set.contains seen a) ((eq_by_cmp_equiv nat_list_cmp_total).refl a)

pub stored_now : (s marked : Standing) (a : List ℕ) → marked ≡ record s { stored = set.insert s.stored a } → set.contains marked.stored a ≡ true
stored_now s marked a is = ap (λ (t : Standing). set.contains t.stored a) is ∙ seen_now s.stored a

pub balanced_now : (s marked : Standing) (a : List ℕ) → marked ≡ record s { balanced = set.insert s.balanced a } → set.contains marked.balanced a ≡ true
balanced_now s marked a is = ap (λ (t : Standing). set.contains t.balanced a) is ∙ seen_now s.balanced a

pub stored_still : (s marked next : Standing) (a : List ℕ) (v : Val) → marked ≡ record s { stored = set.insert s.stored a } → next ≡ record marked { cells = insert marked.cells (Storage a) v } → set.contains next.stored a ≡ true
stored_still s marked next a v is put = ap (λ (t : Standing). set.contains t.stored a) put ∙ stored_now s marked a is

pub entries_free : (s marked next : Standing) (a : List ℕ) (v : Val) (es : List MapEntry) → marked ≡ record s { stored = set.insert s.stored a } → next ≡ record marked { cells = insert marked.cells (Storage a) v } → AreFree s.book s.cells a es → AreFree next.book next.cells a es
entries_free s marked next a v es is put free =
    let both : next ≡ record s { stored = set.insert s.stored a; cells = insert s.cells (Storage a) v } = put ∙ ap (λ (t : Standing). record t { cells = insert t.cells (Storage a) v }) is in
    subst (λ (t : Standing). AreFree t.book t.cells a es) (sym both) (free_of_storage s.book s.cells a v es free)
