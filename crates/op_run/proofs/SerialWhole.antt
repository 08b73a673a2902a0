-- A whole operation on a store: it has run there, or the store is as before.
use Rattle.std.proofs.Common.{◌≡◌, ◌≢◌, Bool, true, false, List, Option, Some, None, refl, sym, ap, subst, ◌∙◌}
use Rattle.std.specs.Prelude.{is_some, not}
use Rattle.michelson_code.specs.declared.why.Why.{Why}
use Rattle.cell_names.specs.declared.access.Undo.{Undo}
use Rattle.cell_names.specs.declared.cell.Cell.{Cell}
use Rattle.cell_names.specs.declared.head.Head.{Head}
use Rattle.cell_names.specs.declared.mode.Mode.{Mode}
use Rattle.cell_names.specs.Conditions.{Seen}
use Rattle.cell_names.specs.Stores.{IsAsBefore, Stays}
use Rattle.code_book.specs.Books.{Contracts}
use Rattle.code_book.specs.Ownership.{IsBookOf}
use Rattle.inverse_log.specs.Ends as log
use Rattle.op_rules.specs.declared.op.Op.{Op}
use Rattle.op_rules.specs.declared.receipt.Receipt.{Receipt}
use Rattle.op_rules.specs.Course.{footprint_of}
use Rattle.op_run.specs.declared.run.OpRun.{OpRun}
use Rattle.op_run.specs.OnStores.{IsFirstUnlent, Ran, serial_on}
use Rattle.op_run.specs.Promise.{book_of, head_of, op_of, past_of, receipt_by}
use Rattle.op_run.specs.SerialTurns.{HasEnded, IsAt, IsUnlentFor, LeadsBack}
use Rattle.op_run.proofs.SerialEnds.{owned_as_before, ran_applied, ran_failed}
use Rattle.op_run.proofs.SerialTurns.{stays_then}

-- ---- the end of a run

module _ (book : Contracts) (head : Head) (op : Op) (run : OpRun) (log : List Undo) (first now : Seen) (r : Receipt) (touches : List (Cell × Mode)) (b : book_of run ≡ book) (h : head_of run ≡ head)
    (o : op_of run ≡ op) (is : IsAt run log first now) (ended : HasEnded run) (told : Some r ≡ receipt_by run) (touched : touches ≡ footprint_of (past_of run)) where
  same : ended.0 ≡ r
  same = let both : Some r ≡ Some ended.0 = told ∙ ended.1.receipt in cc

  named : (new : Seen) → Ran (book_of run) (head_of run) (op_of run) first ended.0 (footprint_of (past_of run)) new → Ran book head op first r touches new
  named new ran =
      subst (λ (x : Contracts × Head × Op × Receipt × List (Cell × Mode)). Ran x.0 x.1 x.2 first x.3 x.4 new) (λ i. (b i, h i, o i, same i, sym touched i)) ran

  -- it was applied
  pub has_run : r.end ≡ None → Ran book head op first r touches now
  has_run none =
      let applied = ap (λ (x : Receipt). x.end) same ∙ none in
      named now
      (ran_applied (book_of run) (head_of run) (op_of run) (past_of run) log first now ended.0 is ended.1.whole applied (ended.1.settled applied))

  -- it failed, and was undone
  pub has_failed : (new : Seen) → r.end ≢ None → IsAsBefore first new → Ran book head op first r touches new
  has_failed new some before =
      named new
      (ran_failed (book_of run) (head_of run) (op_of run) (past_of run) log first now ended.0 is ended.1.whole new (λ none. some (sym (ap (λ (x : Receipt). x.end) same) ∙ none)) before)

-- ---- the store afterwards

-- it still has the book
pub owned_now : (book : Contracts) (run : OpRun) (entries : List Undo) (first now : Seen) → book_of run ≡ book → IsAt run entries first now → IsBookOf book now
owned_now book run entries first now same is = subst (λ (x : Contracts). IsBookOf x now) same is.book

module _ (entries : List Undo) (first now new : Seen) (back : LeadsBack entries first now) where
  pub leads_somewhere : log.LeadsSomewhere entries now
  leads_somewhere = (first.cells, first.flight, back.back)

  module _ (reached : log.IsAt new first.cells first.flight) (stays : Stays now new) where
    pub as_before : IsAsBefore first new
    as_before = record { cells = reached.cells; flight = reached.flight }

    pub stays_back : Stays first new
    stays_back = stays_then first now new back.stays stays

    pub owned_back : (book : Contracts) → IsBookOf book first → IsBookOf book new
    owned_back book owned = owned_as_before book first new owned stays_back as_before

-- what isn't lent to a run that had accessed nothing
pub unlent_first : (book : Contracts) (head : Head) (op : Op) (run : OpRun) (entries : List Undo) (first : Seen) (c : Cell) → book_of run ≡ book → head_of run ≡ head → op_of run ≡ op →
    IsAt run entries first first → IsUnlentFor run entries first c → IsFirstUnlent first (serial_on book head op first).course.past c
unlent_first book head op run entries first c b h o is unlent =
    subst (λ (x : Contracts × Head × Op). IsFirstUnlent first (serial_on x.0 x.1 x.2 first).course.past c) (λ i. (b i, h i, o i)) (unlent first is)

-- ---- whether a receipt tells a cause

pub none_told : (o : Option Why) (b : Bool) → is_some o ≡ not b → b ≡ true → o ≡ None
none_told None b told none = refl
none_told (Some y) b told none = let is : true ≡ not true = told ∙ ap not none in absurd cc

pub some_told : (o : Option Why) (b : Bool) → is_some o ≡ not b → b ≡ false → o ≢ None
some_told None b told some is = let wrong : false ≡ not false = told ∙ ap not some in absurd cc
some_told (Some y) b told some is = absurd cc
