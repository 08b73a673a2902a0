-- Cells that go by, one after another: under a bound, onto a shelf, onto several.
use Rattle.std.proofs.Common.{◌≡◌, ℕ, zero, suc, ◌+◌, ◌<◌, ◌≤◌, Bool, true, List, [], ◌∷◌, ◌++◌, length, get_or, drop, Option, Some, refl, sym, ap, subst, ◌∙◌, arith, append_assoc, length-append, drop-cons, add-one}
use Rattle.std.proofs.lemmas.List.{append-nil, append_cancel_left, map-append}
use Rattle.std.proofs.Math.Seq.{drop-nil}
use Rattle.std.specs.FinMap.{is_sorted}
use Rattle.value_core.proofs.Bools.{both_true, first_true, second_true}
use Rattle.cell_names.specs.Cells.{cell_cmp}
use Rattle.cell_names.specs.declared.cell.Cell.{Cell}
use Rattle.state_digest.specs.declared.buckets.Bucket.{Bucket}
use Rattle.state_digest.specs.declared.shelves.Shelf.{Shelf}
use Rattle.state_digest.specs.Bounds.{is_under, over, starts_under, under}
use Rattle.state_digest.specs.Digest.{bucket_of}
use Rattle.state_digest.specs.Digests.{AreShelved, IsShelfOf, first_cell}
use Rattle.state_digest.specs.Shelving.{AreNumbered, AreOnShelf, AreOnShelves, Held, IsAtEnd, WentBy, all_under, numbers_of}
use Rattle.state_digest.specs.Texts.{HoldTexts}
use Rattle.state_digest.proofs.Cuts.{all_under-under, cut_at, starts_under-over}
use Rattle.state_digest.proofs.Renewing.{one_more_shelf}

-- ---- what went by

pub none_went : (rows : List Held) (buckets : List Bucket) → WentBy [] rows rows buckets buckets
none_went rows buckets = record { cut = refl; texts = λ marks passed hold. subst (λ (l : List Held). HoldTexts marks l buckets) (sym (append-nil passed)) hold }

-- one cell goes into its bucket
abbrev pub GoesIn : Held → List Bucket → List Bucket → Type 0
GoesIn e before after = (marks : ℕ → Bool) (passed : List Held) → HoldTexts marks passed before → HoldTexts marks (passed ++ e ∷ []) after

-- one after another
pub went_on : (run more old rows rest : List Held) (before between after : List Bucket) → WentBy run old rows before between → WentBy more rows rest between after → WentBy (run ++ more) old rest before after
went_on run more old rows rest before between after one other = record {
  cut = one.cut ∙ ap (λ l. run ++ l) other.cut ∙ sym (append_assoc run more rest);
  texts = λ marks passed hold. subst (λ (l : List Held). HoldTexts marks l after) (append_assoc passed run more) (other.texts marks (passed ++ run) (one.texts marks passed hold));
}

pub one_went : (e : Held) (rows rest : List Held) (before after : List Bucket) → rows ≡ e ∷ rest → GoesIn e before after → WentBy (e ∷ []) rows rest before after
one_went e rows rest before after is goes = record { cut = is; texts = goes }

pub all_under-append : (bound : Option Cell) (xs ys : List Held) → all_under bound xs ≡ true → all_under bound ys ≡ true → all_under bound (xs ++ ys) ≡ true
all_under-append bound [] ys one other = other
all_under-append bound (x ∷ xs) ys one other =
    both_true (is_under bound x.0) _ (first_true (is_under bound x.0) _ one) (all_under-append bound xs ys (second_true (is_under bound x.0) _ one) other)

one_under : (bound : Option Cell) (e : Held) → is_under bound e.0 ≡ true → all_under bound (e ∷ []) ≡ true
one_under bound e under = both_true _ _ under refl

-- ---- numbers

pub none_numbered : (bound : Option Cell) (rows : List Held) (buckets : List Bucket) (front : List ℕ) → AreNumbered bound rows rows buckets buckets front front
none_numbered bound rows buckets front = record { run = []; went = none_went rows buckets; under = refl; numbers = sym (append-nil front) }

pub one_numbered : (bound : Option Cell) (e : Held) (old rows rest : List Held) (before between after : List Bucket) (front all more : List ℕ) → AreNumbered bound old rows before between front all → rows ≡ e ∷ rest → is_under bound e.0 ≡ true → GoesIn e between after → more ≡ all ++ bucket_of e.0 ∷ [] → AreNumbered bound old rest before after front more
one_numbered bound e old rows rest before between after front all more so_far is under goes written = record {
  run = so_far.run ++ e ∷ [];
  went = went_on so_far.run (e ∷ []) old rows rest before between after so_far.went (one_went e rows rest between after is goes);
  under = all_under-append bound so_far.run (e ∷ []) so_far.under (one_under bound e under);
  numbers =
      written
      ∙ ap (λ l. l ++ bucket_of e.0 ∷ []) so_far.numbers
      ∙ append_assoc front (numbers_of so_far.run) (bucket_of e.0 ∷ [])
      ∙ ap (λ l. front ++ l) (sym (map-append (λ (x : Held). bucket_of x.0) so_far.run (e ∷ [])));
}

-- ---- one shelf

pub on_shelf : (bound : Option Cell) (e : Held) (old rows rest : List Held) (before between after : List Bucket) (front all : List ℕ) (shelf : Shelf) → old ≡ e ∷ rows → is_under bound e.0 ≡ true → GoesIn e before between → front ≡ [] ++ bucket_of e.0 ∷ [] → AreNumbered bound rows rest between after front all → shelf.first ≡ e.0 → shelf.numbers.items ≡ all → AreOnShelf bound old rest before after shelf
on_shelf bound e old rows rest before between after front all shelf is under goes begun numbered first numbers = record {
  run = e ∷ numbered.run;
  went = went_on (e ∷ []) numbered.run old rows rest before between after (one_went e old rows before between is goes) numbered.went;
  under = both_true _ _ under numbered.under;
  shelf = record {
    first = ap (λ (c : Cell). Some c) (sym first);
    numbers = sym (numbers ∙ numbered.numbers ∙ ap (λ l. l ++ numbers_of numbered.run) begun);
  };
}

longer : (run rest : List Held) (c : Cell) → first_cell run ≡ Some c → length rest < length (run ++ rest)
longer [] rest c e = absurd cc
longer (x ∷ run) rest c e = let both : length (run ++ rest) ≡ length run + length rest = length-append run rest in omega arith

pub fewer_left : (bound : Option Cell) (old new : List Held) (before after : List Bucket) (shelf : Shelf) → AreOnShelf bound old new before after shelf → length new < length old
fewer_left bound old new before after shelf on = subst (λ (l : List Held). length new < length l) (sym on.went.cut) (longer on.run new shelf.first on.shelf.first)

-- ---- shelves

-- cells went by, and there are shelves for them behind the others
pub record AreShelvedSoFar (bound : Option Cell) (old new : List Held) (before after : List Bucket) (shelves all : List Shelf) : Type 0 where
  pub run : List Held
  pub went : WentBy run old new before after
  pub under : all_under bound run ≡ true
  pub shelved : (passed : List Held) → AreShelved passed shelves → AreShelved (passed ++ run) all

pub none_shelved : (bound : Option Cell) (rows : List Held) (buckets : List Bucket) (shelves : List Shelf) → AreShelvedSoFar bound rows rows buckets buckets shelves shelves
none_shelved bound rows buckets shelves = record {
  run = [];
  went = none_went rows buckets;
  under = refl;
  shelved = λ passed are. subst (λ (l : List Held). AreShelved l shelves) (sym (append-nil passed)) are;
}

pub one_shelved : (bound : Option Cell) (old rows rest : List Held) (before between after : List Bucket) (shelves all more : List Shelf) (shelf : Shelf) → AreShelvedSoFar bound old rows before between shelves all → AreOnShelf bound rows rest between after shelf → more ≡ all ++ shelf ∷ [] → AreShelvedSoFar bound old rest before after shelves more
one_shelved bound old rows rest before between after shelves all more shelf so_far on pushed = record {
  run = so_far.run ++ on.run;
  went = went_on so_far.run on.run old rows rest before between after so_far.went on.went;
  under = all_under-append bound so_far.run on.run so_far.under on.under;
  shelved = λ passed are.
      subst (λ (l : List Shelf). AreShelved (passed ++ (so_far.run ++ on.run)) l) (sym pushed)
      (subst (λ (l : List Held). AreShelved l (all ++ shelf ∷ [])) (append_assoc passed so_far.run on.run)
      (one_more_shelf (passed ++ so_far.run) on.run all shelf (so_far.shelved passed are) on.shelf));
}

pub all_shelved : (bound : Option Cell) (old rows rest : List Held) (before between after : List Bucket) (shelves all : List Shelf) → AreShelvedSoFar bound old rows before between shelves all → IsAtEnd bound rows rest between after → AreOnShelves bound old rest before after shelves all
all_shelved bound old rows rest before between after shelves all so_far end = record {
  run = so_far.run;
  went = record {
    cut = so_far.went.cut ∙ ap (λ l. so_far.run ++ l) (sym end.rows);
    texts = λ marks passed hold. subst (HoldTexts marks (passed ++ so_far.run)) (sym end.buckets) (so_far.went.texts marks passed hold);
  };
  under = so_far.under;
  stop = ap (starts_under bound) end.rows ∙ end.stop;
  shelved = so_far.shelved;
}

-- ---- a shelf that is kept

-- the first of a run went by, and the numbers that are left are those of the others
pub record ArePassing (run rest old rows : List Held) (before after : List Bucket) (numbers : List ℕ) : Type 0 where
  pub done : List Held
  pub left : List Held
  pub parts : run ≡ done ++ left
  pub rows_are : rows ≡ left ++ rest
  pub numbers_are : numbers_of left ≡ numbers
  pub went : WentBy done old rows before after

pub none_passing : (run rest old : List Held) (buckets : List Bucket) (numbers : List ℕ) → old ≡ run ++ rest → numbers_of run ≡ numbers → ArePassing run rest old old buckets buckets numbers
none_passing run rest old buckets numbers cut are = record { done = []; left = run; parts = refl; rows_are = cut; numbers_are = are; went = none_went old buckets }

-- the next cell is the next of the run
record IsNextOf (e : Held) (n : ℕ) (numbers : List ℕ) (left rest rows : List Held) : Type 0 where
  others : List Held
  first : left ≡ e ∷ others
  number : n ≡ bucket_of e.0
  others_are : numbers_of others ≡ numbers
  behind : rows ≡ others ++ rest

next_of : (e : Held) (n : ℕ) (numbers : List ℕ) (left rest rows : List Held) → numbers_of left ≡ n ∷ numbers → left ++ rest ≡ e ∷ rows → IsNextOf e n numbers left rest rows
next_of e n numbers [] rest rows are is = absurd cc
next_of e n numbers (x ∷ left) rest rows are is =
    let same : x ≡ e = cc in
    let tail : left ++ rest ≡ rows = cc in
    let number : bucket_of x.0 ≡ n = cc in
    let others : numbers_of left ≡ numbers = cc in
    record {
      others = left;
      first = ap (λ (y : Held). y ∷ left) same;
      number = sym number ∙ ap (λ (y : Held). bucket_of y.0) same;
      others_are = others;
      behind = sym tail;
    }

next_number : (numbers : List ℕ) (i : ℕ) → i < length numbers → drop i numbers ≡ get_or numbers i 0 ∷ drop (i + 1) numbers
next_number numbers i lt = drop-cons numbers i 0 lt ∙ ap (λ j. get_or numbers i 0 ∷ drop j numbers) (sym (add-one i))

pub one_passing : (run rest old rows rows' : List Held) (before between after : List Bucket) (numbers : List ℕ) (i : ℕ) (e : Held) → ArePassing run rest old rows before between (drop i numbers) → i < length numbers → rows ≡ e ∷ rows' → (get_or numbers i 0 ≡ bucket_of e.0 → GoesIn e between after) → ArePassing run rest old rows' before after (drop (i + 1) numbers)
one_passing run rest old rows rows' before between after numbers i e so_far lt is goes =
    let next = next_of e (get_or numbers i 0) (drop (i + 1) numbers) so_far.left rest rows' (so_far.numbers_are ∙ next_number numbers i lt) (sym so_far.rows_are ∙ is) in
    record {
      done = so_far.done ++ e ∷ [];
      left = next.others;
      parts = so_far.parts ∙ ap (λ l. so_far.done ++ l) next.first ∙ sym (append_assoc so_far.done (e ∷ []) next.others);
      rows_are = next.behind;
      numbers_are = next.others_are;
      went = went_on so_far.done (e ∷ []) old rows rows' before between after so_far.went (one_went e rows rows' between after is (goes next.number));
    }

nothing_next : (left rest : List Held) (n : ℕ) (numbers : List ℕ) → numbers_of left ≡ n ∷ numbers → left ++ rest ≡ [] → ⊥
nothing_next [] rest n numbers are none = cc
nothing_next (x ∷ left) rest n numbers are none = cc

-- there is a cell for each number
pub some_left : (run rest old rows : List Held) (before after : List Bucket) (numbers : List ℕ) (i : ℕ) → ArePassing run rest old rows before after (drop i numbers) → i < length numbers → rows ≡ [] → ⊥
some_left run rest old rows before after numbers i so_far lt none = nothing_next so_far.left rest (get_or numbers i 0) (drop (i + 1) numbers) (so_far.numbers_are ∙ next_number numbers i lt) (sym so_far.rows_are ∙ none)

none_of : (left : List Held) → numbers_of left ≡ [] → left ≡ []
none_of [] are = refl
none_of (x ∷ left) are = absurd cc

past_all : (numbers : List ℕ) (i : ℕ) → length numbers ≤ i → drop i numbers ≡ []
past_all [] i le = drop-nil i
past_all (n ∷ numbers) zero le = absurd (omega arith)
past_all (n ∷ numbers) (suc i) le = past_all numbers i (omega arith)

pub all_passed : (run rest old rows : List Held) (before after : List Bucket) (numbers : List ℕ) (i : ℕ) → ArePassing run rest old rows before after (drop i numbers) → length numbers ≤ i → WentBy run old rows before after
all_passed run rest old rows before after numbers i so_far le =
    let none : so_far.left ≡ [] = none_of so_far.left (so_far.numbers_are ∙ past_all numbers i le) in
    subst (λ (l : List Held). WentBy l old rows before after) (sym (append-nil so_far.done) ∙ ap (λ l. so_far.done ++ l) (sym none) ∙ sym so_far.parts) so_far.went

-- where no cell under the bound is touched, its shelf is kept
pub shelf_kept : (bound : Option Cell) (old new : List Held) (before after : List Bucket) (shelves all : List Shelf) (shelf : Shelf) → is_sorted cell_cmp old ≡ true → IsShelfOf (under bound old) shelf →
    ((run rest : List Held) → old ≡ run ++ rest → numbers_of run ≡ shelf.numbers.items → WentBy run old new before after) → all ≡ shelves ++ shelf ∷ [] → AreOnShelves bound old new before after shelves all
shelf_kept bound old new before after shelves all shelf up is passed pushed =
    let cut = cut_at bound old up in
    let went = passed (under bound old) (over bound old) cut is.numbers in
    record {
      run = under bound old;
      went = went;
      under = all_under-under bound old;
      stop = ap (starts_under bound) (append_cancel_left (under bound old) new (over bound old) (sym went.cut ∙ cut)) ∙ starts_under-over bound old;
      shelved = λ cells are. subst (λ (l : List Shelf). AreShelved (cells ++ under bound old) l) (sym pushed) (one_more_shelf cells (under bound old) shelves shelf are is);
    }
