-- Digests that are kept: what an update finds, what it leaves, and what a list of them comes to.
use Rattle.std.proofs.Common.{◌≡◌, ℕ, suc, ◌<◌, Bool, true, false, not, cond, ◌||◌, ◌==◌, List, [], ◌∷◌, length, get_or, Some, refl, sym, ap, subst, ◌∙◌, arith}
use Rattle.std.specs.Prelude.{slice_get}
use Rattle.std.specs.List.{Contains}
use Rattle.std.specs.Ordering.{eq_by_cmp}
use Rattle.std.specs.FinMap.{entries, entries_sorted, get-entries}
use Rattle.std.proofs.lemmas.List.Folds.{list_any_at}
use Rattle.std.proofs.lemmas.Option.{get_or_from_slice_get, slice_get-get_or}
use Rattle.sha2.specs.Sha256.{sha256}
use Rattle.value_core.proofs.Bools.{true_of}
use Rattle.cell_names.specs.declared.cell.Cell.{Cell}
use Rattle.cell_names.specs.Cells.{cell_cmp}
use Rattle.cell_names.specs.Contents.{Contents}
use Rattle.cell_names.proofs.Puts.{one_from, is_one-self}
use Rattle.ledger_state.specs.Ledger.{Ledger}
use Rattle.ledger_state.specs.Spelling.{spell_held}
use Rattle.state_digest.specs.declared.digests.Digests.{Digests}
use Rattle.state_digest.specs.declared.shelves.Shelf.{Shelf}
use Rattle.state_digest.specs.Digest.{bucket_digest, bucket_of}
use Rattle.state_digest.specs.Digests.{AreDigestsBefore, AreDigestsOf, AreStates, AreUpdated, DifferAtMostIn, is_touched, last_state}
use Rattle.state_digest.specs.Shelving.{MayBeRenewed}
use Rattle.state_digest.specs.Texts.{AreHashed}
use Rattle.state_digest.specs.Touched.{AreInOrder, is_among, untouched}
use Rattle.state_digest.proofs.Keys.{Held, agree_found, agree_narrow}
use Rattle.std.specs.List.{flat_map}

-- ---- what isn't touched

not_among : (b : Bool) → not b ≡ true → b ≡ false
not_among true e = absurd cc
not_among false e = refl

not_contained : (touched : List Cell) (c : Cell) → is_among touched c ≡ false → ¬ Contains touched c
not_contained touched c out (k, lt, here) =
    let found : is_among touched c ≡ true = list_any_at (eq_by_cmp cell_cmp c) touched k c lt (ap (eq_by_cmp cell_cmp c) here ∙ is_one-self c) in
    let both : true ≡ false = sym found ∙ out in
    cc

-- the cells of two states agree where they aren't touched
pub untouched_alike : (touched order : List Cell) (old new : Contents) → DifferAtMostIn touched old new → ((c : Cell) → is_among order c ≡ is_among touched c) → untouched order (entries old) ≡ untouched order (entries new)
untouched_alike touched order old new differ same =
    agree_found (λ c. not (is_among order c)) (entries old) (entries new) (true_of _ (entries_sorted old)) (true_of _ (entries_sorted new))
    (λ c out.
    sym (get-entries old c)
    ∙ differ c (not_contained touched c (sym (same c) ∙ not_among _ out))
    ∙ get-entries new c)

first_any : (a b : Bool) → (a || b) ≡ false → a ≡ false
first_any true b e = e
first_any false b e = refl

second_any : (a b : Bool) → (a || b) ≡ false → b ≡ false
second_any true b e = absurd cc
second_any false b e = e

not_in : (touched : List Cell) (k : ℕ) (c : Cell) → is_touched touched k ≡ false → (bucket_of c == k) ≡ true → is_among touched c ≡ false
not_in [] k c none here = refl
not_in (t ∷ touched) k c none here =
    elim (eq_by_cmp cell_cmp c t) as (λ b. eq_by_cmp cell_cmp c t ≡ b → (b || is_among touched c) ≡ false) [
      | true ↦ λ one. sym here ∙ ap (λ d. bucket_of d == k) (one_from c t one) ∙ first_any (bucket_of t == k) _ none
      | false ↦ λ _. not_in touched k c (second_any (bucket_of t == k) _ none) here
    ] refl

-- so a bucket without a touched cell has the same text
pub untouched_bucket : (touched : List Cell) (old new : Contents) (k : ℕ) → DifferAtMostIn touched old new → is_touched touched k ≡ false → bucket_digest k old ≡ bucket_digest k new
untouched_bucket touched old new k differ none =
    ap (λ (l : List Held). sha256 (flat_map spell_held l))
    (agree_narrow (λ c. bucket_of c == k) (λ c. not (is_among touched c)) (λ c here. ap not (not_in touched k c none here)) (entries old) (entries new)
    (untouched_alike touched touched old new differ (λ c. refl)))

-- ---- an update

may_be_renewed : (s : Ledger) (touched order : List Cell) (d : Digests) → AreDigestsBefore s touched d → AreInOrder touched order → MayBeRenewed d.shelves.items order (entries s.cells)
may_be_renewed s touched order d is in_order = record {
  cells = entries is.before.cells;
  shelved = is.digests.shelves;
  sorted = true_of _ (entries_sorted is.before.cells);
  ascending = true_of _ (entries_sorted s.cells);
  rising = in_order.rising;
  alike = untouched_alike touched order is.before.cells s.cells is.cells in_order.same;
}

pub fit_for : (s : Ledger) (touched order lent : List Cell) (d : Digests) (shelves : List Shelf) (rows : List Held) → AreDigestsBefore s touched d → AreInOrder touched order → lent ≡ order → shelves ≡ d.shelves.items → rows ≡ entries s.cells → MayBeRenewed shelves lent rows
fit_for s touched order lent d shelves rows is in_order lent_is shelves_are rows_are =
    subst (λ (l : List Held). MayBeRenewed shelves lent l) (sym rows_are)
    (subst (λ (l : List Shelf). MayBeRenewed l lent (entries s.cells)) (sym shelves_are)
    (subst (λ (l : List Cell). MayBeRenewed d.shelves.items l (entries s.cells)) (sym lent_is) (may_be_renewed s touched order d is in_order)))

-- each bucket has its digest once the marked ones are hashed, where the others have theirs
each_hashed : (marks : ℕ → Bool) (cells : Contents) (old new : List (List ℕ)) → length new ≡ 256 → AreHashed marks (entries cells) old new → ((k : ℕ) → k < 256 → marks k ≡ false → get_or old k [] ≡ bucket_digest k cells) → (k : ℕ) → k < 256 → slice_get new k ≡ Some (bucket_digest k cells)
each_hashed marks cells old new count hashed others k lt =
    slice_get-get_or new k [] (omega arith)
    ∙ ap (λ (l : List ℕ). Some l)
    (hashed k [] lt
    ∙ elim (marks k) as (λ b. marks k ≡ b → cond b (bucket_digest k cells) (get_or old k []) ≡ bucket_digest k cells) [
      | true ↦ λ _. refl
      | false ↦ λ none. others k lt none
    ] refl)

pub each_digest : (cells : Contents) (old new : List (List ℕ)) → length new ≡ 256 → AreHashed (λ k. true) (entries cells) old new → (k : ℕ) → k < 256 → slice_get new k ≡ Some (bucket_digest k cells)
each_digest cells old new count hashed = each_hashed (λ k. true) cells old new count hashed (λ k lt none. absurd cc)

pub each_updated : (s : Ledger) (touched : List Cell) (d : Digests) (new : List (List ℕ)) → AreDigestsBefore s touched d → length new ≡ 256 → AreHashed (is_touched touched) (entries s.cells) d.buckets.items new → (k : ℕ) → k < 256 → slice_get new k ≡ Some (bucket_digest k s.cells)
each_updated s touched d new is count hashed =
    each_hashed (is_touched touched) s.cells d.buckets.items new count hashed
    (λ k lt none.
    get_or_from_slice_get d.buckets.items k (bucket_digest k is.before.cells) [] (is.digests.each k lt)
    ∙ untouched_bucket touched is.before.cells s.cells k is.cells none)

-- ---- updates one after another

pub last_digests : (s : Ledger) (updates : List (Ledger × List Cell)) (d e : Digests) → AreDigestsOf s d → AreStates s updates → AreUpdated d updates e → AreDigestsOf (last_state s updates) e
last_digests s [] d e are states updated = subst (AreDigestsOf s) updated are
last_digests s (t ∷ more) d e are (book, (cells, states)) (next, (one, others)) =
    last_digests t.0 more next e (one (record { before = s; digests = are; book = book; cells = cells })) states others

-- ---- digests of one state

same_lists : (xs ys : List (List ℕ)) (n : ℕ) → length xs ≡ n → length ys ≡ n → ((k : ℕ) → k < n → slice_get xs k ≡ slice_get ys k) → xs ≡ ys
same_lists [] [] n count count' each = refl
same_lists [] (y ∷ ys) n count count' each = absurd (omega arith)
same_lists (x ∷ xs) [] n count count' each = absurd (omega arith)
same_lists (x ∷ xs) (y ∷ ys) n count count' each =
    let first : Some x ≡ Some y = each 0 (omega arith) in
    let same : x ≡ y = cc in
    (λ i. same i ∷ same_lists xs ys (length xs) refl (omega arith) (λ k lt. each (suc k) (omega arith)) i)

pub same_buckets : (s : Ledger) (d e : Digests) → AreDigestsOf s d → AreDigestsOf s e → d.buckets.items ≡ e.buckets.items
same_buckets s d e are are' = same_lists d.buckets.items e.buckets.items 256 are.count are'.count (λ k lt. are.each k lt ∙ sym (are'.each k lt))
