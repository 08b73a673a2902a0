-- An operation that is done on a store has run there, once a failed one is undone.
use Rattle.std.proofs.Common.{◌≡◌, ◌≢◌, ◌+◌, ◌<◌, ◌^◌, true, Option, Some, None, List, refl, sym, ap, subst, ◌∙◌, arith}
use Rattle.std.specs.Prelude.{IsSome}
use Rattle.std.specs.FinMap.{get}
use Rattle.value_core.specs.declared.val.Val.{Val}
use Rattle.cell_names.specs.declared.access.Undo.{Undo}
use Rattle.cell_names.specs.declared.cell.Cell.{Cell}
use Rattle.cell_names.specs.declared.cell.Cell.TheVariants.{Storage}
use Rattle.cell_names.specs.declared.head.Head.{Head}
use Rattle.cell_names.specs.declared.mode.Mode.{Mode}
use Rattle.cell_names.specs.declared.mode.Mode.TheVariants.{Read}
use Rattle.cell_names.specs.Conditions.{IsLentIn, Seen}
use Rattle.cell_names.specs.Contents.{Contents, IsTidy}
use Rattle.cell_names.specs.Stores.{IsAsBefore, Stays}
use Rattle.cell_names.specs.Supply.{supply}
use Rattle.code_book.specs.Books.{Contracts}
use Rattle.code_book.specs.Fits.{fits}
use Rattle.code_book.specs.Ownership.{IsBookOf}
use Rattle.op_rules.specs.declared.op.Op.{Op}
use Rattle.op_rules.specs.declared.receipt.Receipt.{Receipt}
use Rattle.op_rules.specs.Course.{Applied, End, Failed, Past, Serial, footprint_of}
use Rattle.op_rules.specs.Laws.{Lands}
use Rattle.op_rules.specs.Replies.{after_all, flight_of}
use Rattle.op_rules.specs.Serial.{cells_after, cells_left, failure_of, serial}
use Rattle.op_rules.proofs.Landing.{gets_replies}
use Rattle.op_run.specs.Follows.{IsWhole, OnCells}
use Rattle.op_run.specs.OnStores.{LendsAll, Ran}
use Rattle.op_run.specs.SerialTurns.{IsAlong}
use Rattle.op_run.proofs.SerialTurns.{lawful}

-- ---- cells that are left

left_applied : (opening : Contents) (past : Past) (end : End) → failure_of end ≡ None → Lands opening past end → cells_left opening 0 past end ≡ after_all past opening
left_applied opening past (Applied m) none lands = lands
left_applied opening past (Failed y) none lands = absurd cc

left_failed : (opening : Contents) (past : Past) (end : End) → failure_of end ≢ None → cells_left opening 0 past end ≡ opening
left_failed opening past (Applied m) some = absurd (some refl)
left_failed opening past (Failed y) some = refl

-- ---- a store that is as before

-- it still has the book
pub owned_as_before : (book : Contracts) (old new : Seen) → IsBookOf book old → Stays old new → IsAsBefore old new → IsBookOf book new
owned_as_before book old new owned stays before = record {
  fit = λ a e. stays.fits a ∙ owned.fit a e;
  values = subst (λ (m : Contents). (c : Cell) (v : Val) → get m c ≡ Some v → fits book c v ≡ true) (sym before.cells) owned.values;
  storages = λ address known lent.
      subst (λ (m : Contents). IsSome (get m (Storage address))) (sym before.cells)
      (owned.storages address known (subst (λ (l : Option Mode). IsLentIn l Read) (stays.lent (Storage address)) lent));
  tidy = subst IsTidy (sym before.cells) owned.tidy;
  money =
      let same : supply new.cells ≡ supply old.cells = ap supply before.cells in
      let flight : new.flight ≡ old.flight = before.flight in
      let money : supply old.cells + old.flight < 2 ^ 63 = owned.money in
      omega arith;
}

-- ---- the end

module _ (book : Contracts) (head : Head) (op : Op) (past : Past) (log : List Undo) (first now : Seen) (r : Receipt) (is : IsAlong book past log first now)
    (whole : OnCells book past (IsWhole book head op past r)) where
  abbrev course : Serial
  course = serial book head op first.cells

  abbrev here : IsWhole book head op past r first.cells
  here = whole first.cells (lawful book first is.opening) is.gives

  ended : failure_of course.end ≡ r.end
  ended = ap (λ (x : Receipt). x.end) here.ending

  lent : LendsAll first course.course.past
  lent = subst (λ (x : Past). LendsAll first x) (sym here.accesses) is.lent

  footprints : footprint_of past ≡ footprint_of course.course.past
  footprints = ap footprint_of (sym here.accesses)

  landed : r.end ≡ None → cells_after first.cells course ≡ after_all past first.cells
  landed none =
      left_applied first.cells course.course.past course.end (ended ∙ none) (gets_replies first.cells book head op).lands
      ∙ ap (λ (x : Past). after_all x first.cells) here.accesses

  -- what is applied has run on the store
  pub ran_applied : r.end ≡ None → flight_of past ≡ 0 → Ran book head op first r (footprint_of past) now
  ran_applied none settled = record {
    lent = lent;
    receipt = sym here.ending;
    footprint = footprints;
    cells = is.cells ∙ sym (landed none);
    flight = let flight : now.flight ≡ first.flight + flight_of past = is.flight in omega arith;
  }

  -- what failed has run on a store that is as before again
  pub ran_failed : (new : Seen) → r.end ≢ None → IsAsBefore first new → Ran book head op first r (footprint_of past) new
  ran_failed new some before = record {
    lent = lent;
    receipt = sym here.ending;
    footprint = footprints;
    cells = before.cells ∙ sym (left_failed first.cells course.course.past course.end (λ none. some (sym ended ∙ none)));
    flight = before.flight;
  }
