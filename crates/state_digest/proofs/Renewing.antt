-- Shelves of the cells before, and what they are of the cells that are left.
use Rattle.std.proofs.Common.{◌≡◌, ℕ, Bool, true, false, not, ◌&&◌, List, [], ◌∷◌, ◌++◌, Option, Some, None, refl, sym, ap, subst, ◌∙◌, append_assoc}
use Rattle.std.specs.Prelude.{IsTrue}
use Rattle.std.specs.FinMap.{is_sorted}
use Rattle.std.proofs.lemmas.List.{append-nil}
use Rattle.cell_blocks.proofs.Ascending.{ascends_back}
use Rattle.cell_names.specs.declared.cell.Cell.{Cell}
use Rattle.cell_names.specs.Cells.{cell_cmp}
use Rattle.cell_names.specs.CellOrder.{cell_cmp-total}
use Rattle.state_digest.specs.declared.buckets.Bucket.{Bucket}
use Rattle.state_digest.specs.declared.shelves.Shelf.{Shelf}
use Rattle.state_digest.specs.Bounds.{is_under, over, starts_under, under}
use Rattle.state_digest.specs.Digests.{AreShelved, IsShelfOf, first_cell}
use Rattle.state_digest.specs.Shelving.{AreOnShelves, AreRenewed, MayBeRenewed, all_under, bound_of}
use Rattle.state_digest.specs.Texts.{HoldTexts}
use Rattle.state_digest.specs.Touched.{beyond, first_is_under, is_among, untouched}
use Rattle.state_digest.proofs.Keys.{Held, agree_narrow, chosen, chosen-both, chosen-same}
use Rattle.state_digest.proofs.Cuts.{first_stops, no_more, over-cut, under-cut, under_first}
use Rattle.state_digest.proofs.Order.{among-beyond, beyond-rises, none_among}

-- ---- shelves

first-append : (xs ys : List Held) (c : Cell) → first_cell xs ≡ Some c → first_cell (xs ++ ys) ≡ Some c
first-append [] ys c e = absurd cc
first-append (x ∷ xs) ys c e = e

-- the next shelf begins with the next cell
bound_is : (cells : List Held) (shelves : List Shelf) → AreShelved cells shelves → bound_of shelves ≡ first_cell cells
bound_is cells [] none = sym (ap first_cell none)
bound_is cells (shelf ∷ others) (run, (rest, (cut, (here, more)))) = sym (ap first_cell cut ∙ first-append run rest shelf.first here.first)

-- a run with its shelf, behind others
pub one_more_shelf : (cells run : List Held) (shelves : List Shelf) (shelf : Shelf) → AreShelved cells shelves → IsShelfOf run shelf → AreShelved (cells ++ run) (shelves ++ shelf ∷ [])
one_more_shelf cells run [] shelf none here = (run, ([], (ap (λ l. l ++ run) none ∙ sym (append-nil run), (here, refl))))
one_more_shelf cells run (s ∷ shelves) shelf (first, (rest, (cut, (is, more)))) here =
    (first, (rest ++ run, (ap (λ l. l ++ run) cut ∙ append_assoc first rest run, (is, one_more_shelf rest run shelves shelf more here))))

-- ---- one shelf after another

-- the run of the first shelf is what stands under the bound
record IsCutOff (cells : List Held) (shelf : Shelf) (others : List Shelf) : Type 0 where
  run : List Held
  rest : List Held
  cut : cells ≡ run ++ rest
  shelf_is : IsShelfOf run shelf
  others_are : AreShelved rest others
  sorted : IsTrue (is_sorted cell_cmp rest)
  run_is : under (bound_of others) cells ≡ run
  rest_is : over (bound_of others) cells ≡ rest

cut_off : (cells : List Held) (shelf : Shelf) (others : List Shelf) → AreShelved cells (shelf ∷ others) → IsTrue (is_sorted cell_cmp cells) → IsCutOff cells shelf others
cut_off cells shelf others (run, (rest, (cut, (is, more)))) up =
    let both : IsTrue (is_sorted cell_cmp (run ++ rest)) = subst (λ (l : List Held). IsTrue (is_sorted cell_cmp l)) cut up in
    let sorted : IsTrue (is_sorted cell_cmp rest) = ascends_back cell_cmp-total run rest both in
    let bound : bound_of others ≡ first_cell rest = bound_is rest others more in
    let all : all_under (bound_of others) run ≡ true = subst (λ (b : Option Cell). all_under b run ≡ true) (sym bound) (under_first run rest both) in
    let stop : starts_under (bound_of others) rest ≡ false = subst (λ (b : Option Cell). starts_under b rest ≡ false) (sym bound) (first_stops rest) in
    record {
      run = run;
      rest = rest;
      cut = cut;
      shelf_is = is;
      others_are = more;
      sorted = sorted;
      run_is = ap (under (bound_of others)) cut ∙ under-cut (bound_of others) run rest sorted all stop;
      rest_is = ap (over (bound_of others)) cut ∙ over-cut (bound_of others) run rest sorted all stop;
    }

not_false : (b : Bool) → b ≡ false → not b ≡ true
not_false b e = ap not e

-- where no touched cell stands under the bound, the shelf is that of the cells under it
kept_is : (shelf : Shelf) (others : List Shelf) (touched : List Cell) (rows : List Held) → MayBeRenewed (shelf ∷ others) touched rows → first_is_under (bound_of others) touched ≡ false → IsShelfOf (under (bound_of others) rows) shelf
kept_is shelf others touched rows may out =
    let off = cut_off may.cells shelf others may.shelved may.sorted in
    subst (λ (l : List Held). IsShelfOf l shelf)
    (sym off.run_is
    ∙ agree_narrow (is_under (bound_of others)) (λ c. not (is_among touched c))
    (λ c here. ap not (none_among (bound_of others) c touched may.rising out here)) may.cells rows may.alike)
    off.shelf_is

both_same : (a b c : Bool) → (a ≡ true → b ≡ c) → (a && b) ≡ (a && c)
both_same true b c same = same refl
both_same false b c same = refl

is_turned : (b : Bool) → not b ≡ true → b ≡ false
is_turned true e = absurd cc
is_turned false e = refl

-- beyond the bound the same cells are untouched
untouched-over : (bound : Option Cell) (touched : List Cell) (xs : List Held) → untouched (beyond bound touched) (over bound xs) ≡ chosen (λ c. not (is_under bound c) && not (is_among touched c)) xs
untouched-over bound touched xs =
    chosen-both (λ c. not (is_among (beyond bound touched) c)) (λ c. not (is_under bound c)) xs
    ∙ chosen-same (λ c. not (is_under bound c) && not (is_among (beyond bound touched) c)) (λ c. not (is_under bound c) && not (is_among touched c))
    (λ c. both_same (not (is_under bound c)) _ _ (λ out. ap not (among-beyond bound c touched (is_turned _ out)))) xs

second_of : (a b : Bool) → (a && b) ≡ true → b ≡ true
second_of true b e = e
second_of false b e = absurd cc

-- the other shelves may be renewed behind it
others_may_be : (shelf : Shelf) (others : List Shelf) (touched : List Cell) (old new : List Held) (before after : List Bucket) (shelves all : List Shelf) → MayBeRenewed (shelf ∷ others) touched old → AreOnShelves (bound_of others) old new before after shelves all → MayBeRenewed others (beyond (bound_of others) touched) new
others_may_be shelf others touched old new before after shelves all may on =
    let off = cut_off may.cells shelf others may.shelved may.sorted in
    let bound = bound_of others in
    let both : IsTrue (is_sorted cell_cmp (on.run ++ new)) = subst (λ (l : List Held). IsTrue (is_sorted cell_cmp l)) on.went.cut may.ascending in
    let ascending : IsTrue (is_sorted cell_cmp new) = ascends_back cell_cmp-total on.run new both in
    let new_is : over bound old ≡ new = ap (over bound) on.went.cut ∙ over-cut bound on.run new ascending on.under on.stop in
    let narrow = λ (xs : List Held). untouched-over bound touched xs in
    record {
      cells = off.rest;
      shelved = off.others_are;
      sorted = off.sorted;
      ascending = ascending;
      rising = beyond-rises bound touched may.rising;
      alike =
          ap (untouched (beyond bound touched)) (sym off.rest_is)
          ∙ untouched-over bound touched may.cells
          ∙ agree_narrow (λ c. not (is_under bound c) && not (is_among touched c)) (λ c. not (is_among touched c))
          (λ c here. second_of (not (is_under bound c)) _ here) may.cells old may.alike
          ∙ sym (untouched-over bound touched old)
          ∙ ap (untouched (beyond bound touched)) new_is;
    }

-- the same, where a shelf is taken from those that are left
pub kept_at : (bound : Option Cell) (all others : List Shelf) (shelf : Shelf) (touched : List Cell) (rows : List Held) → all ≡ shelf ∷ others → bound ≡ bound_of others → MayBeRenewed all touched rows → first_is_under bound touched ≡ false → IsShelfOf (under bound rows) shelf
kept_at bound all others shelf touched rows is bound_is may out =
    subst (λ (b : Option Cell). first_is_under b touched ≡ false → IsShelfOf (under b rows) shelf) (sym bound_is)
    (kept_is shelf others touched rows (subst (λ (l : List Shelf). MayBeRenewed l touched rows) is may)) out

pub others_at : (bound : Option Cell) (old others : List Shelf) (shelf : Shelf) (touched left : List Cell) (rows rest : List Held) (before after : List Bucket) (shelves all : List Shelf) → old ≡ shelf ∷ others → bound ≡ bound_of others → left ≡ beyond bound touched → MayBeRenewed old touched rows → AreOnShelves bound rows rest before after shelves all → MayBeRenewed others left rest
others_at bound old others shelf touched left rows rest before after shelves all is bound_is left_is may on =
    subst (λ (l : List Cell). MayBeRenewed others l rest) (sym (left_is ∙ ap (λ (b : Option Cell). beyond b touched) bound_is))
    (others_may_be shelf others touched rows rest before after shelves all (subst (λ (l : List Shelf). MayBeRenewed l touched rows) is may)
    (subst (λ (b : Option Cell). AreOnShelves b rows rest before after shelves all) bound_is on))

-- ---- all of them

-- some of the cells went by, and there are shelves for them
pub record AreUnderWay (all rows : List Held) (shelves : List Shelf) (before after : List Bucket) : Type 0 where
  pub passed : List Held
  pub cut : all ≡ passed ++ rows
  pub shelved : AreShelved passed shelves
  pub texts : (marks : ℕ → Bool) → HoldTexts marks [] before → HoldTexts marks passed after

pub under_way : (all : List Held) (buckets : List Bucket) → AreUnderWay all all [] buckets buckets
under_way all buckets = record { passed = []; cut = refl; shelved = refl; texts = λ marks blank. blank }

pub further : (all rows rest : List Held) (shelves more : List Shelf) (bound : Option Cell) (before between after : List Bucket) → AreUnderWay all rows shelves before between → AreOnShelves bound rows rest between after shelves more → AreUnderWay all rest more before after
further all rows rest shelves more bound before between after way on = record {
  passed = way.passed ++ on.run;
  cut = way.cut ∙ ap (λ l. way.passed ++ l) on.went.cut ∙ sym (append_assoc way.passed on.run rest);
  shelved = on.shelved way.passed way.shelved;
  texts = λ marks blank. on.went.texts marks way.passed (way.texts marks blank);
}

pub all_renewed : (all rows : List Held) (shelves : List Shelf) (before after : List Bucket) → AreUnderWay all rows shelves before after → starts_under None rows ≡ false → AreRenewed all shelves before after
all_renewed all rows shelves before after way stop =
    let whole : way.passed ≡ all = sym (append-nil way.passed) ∙ ap (λ l. way.passed ++ l) (sym (no_more rows stop)) ∙ sym way.cut in
    record {
      shelved = subst (λ (l : List Held). AreShelved l shelves) whole way.shelved;
      texts = λ marks blank. subst (λ (l : List Held). HoldTexts marks l after) whole (way.texts marks blank);
    }

-- where there was no shelf, all cells are put on new ones
pub all_new : (cells all rest : List Held) (before after : List Bucket) (shelves none : List Shelf) → all ≡ cells → none ≡ [] → AreOnShelves None all rest before after none shelves → AreRenewed cells shelves before after
all_new cells all rest before after shelves none is empty on =
    subst (λ (l : List Held). AreRenewed l shelves before after) is
    (all_renewed all rest shelves before after
    (further all all rest [] shelves None before before after (under_way all before) (subst (λ (l : List Shelf). AreOnShelves None all rest before after l shelves) empty on)) on.stop)
