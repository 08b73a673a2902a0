-- Turns of a run on a store: what each keeps of the accesses so far.
use Rattle.std.proofs.Common.{◌≡◌, true, List, [], ◌∷◌, ◌++◌, Some, refl, sym, ap, subst, ◌∙◌}
use Rattle.cell_names.specs.declared.access.Access.{Access}
use Rattle.cell_names.specs.declared.access.Reply.{Reply}
use Rattle.cell_names.specs.declared.access.Undo.{Undo}
use Rattle.cell_names.specs.declared.cell.Cell.{Cell}
use Rattle.cell_names.specs.declared.head.Head.{Head}
use Rattle.cell_names.specs.Conditions.{CanAccess, Lends, Seen}
use Rattle.cell_names.specs.Effects.{cell_of}
use Rattle.cell_names.specs.Stores.{IsAsBefore, Stays}
use Rattle.code_book.specs.Books.{Contracts}
use Rattle.code_book.specs.Fits.{fits_access}
use Rattle.code_book.specs.Ownership.{IsBookOf}
use Rattle.op_rules.specs.declared.op.Op.{Op}
use Rattle.op_rules.specs.Course.{Past}
use Rattle.op_rules.specs.Replies.{can_get}
use Rattle.op_run.specs.declared.advance.Next.{Next}
use Rattle.op_run.specs.declared.advance.Next.TheVariants as next
use Rattle.op_run.specs.declared.run.OpRun.{OpRun}
use Rattle.op_run.specs.OnStores.{IsFirstUnlent, serial_on}
use Rattle.op_run.specs.Promise.{Asks, Promises, StaysBy, asked_by, awaited_by, book_of, head_of, op_of, past_of}
use Rattle.op_run.specs.SerialTurns.{Goes, IsAlong, IsAt, IsUnlentFor, Makes, MayGoBack}
use Rattle.op_run.proofs.SerialTurns.{along_begun, along_more, back_still, can_make, first_unlent, gets, next_fits}

-- ---- runs of one operation

pub same_self : (run : OpRun) → StaysBy run run
same_self run = record { book = refl; head = refl; op = refl }

pub same_then : (old run new : OpRun) → StaysBy old run → StaysBy run new → StaysBy old new
same_then old run new p q = record { book = q.book ∙ p.book; head = q.head ∙ p.head; op = q.op ∙ p.op }

-- a run that has accessed the same
pub at_still : (old new : OpRun) (log : List Undo) (first now : Seen) → book_of new ≡ book_of old → past_of new ≡ past_of old → IsAt old log first now → IsAt new log first now
at_still old new log first now book past is =
    subst (λ (x : Contracts × Past). IsAlong x.0 x.1 log first now) (λ i. (sym book i, sym past i)) is

-- a run that has accessed nothing yet
pub at_begun : (run : OpRun) (book : Contracts) (log : List Undo) (first : Seen) → book_of run ≡ book → past_of run ≡ [] → log ≡ [] → IsBookOf book first → IsAt run log first first
at_begun run book log first same none empty owned =
    subst (λ (x : Contracts × Past × List Undo). IsAlong x.0 x.1 x.2 first first) (λ i. (sym same i, sym none i, sym empty i)) (along_begun book first owned)

pub goes_self : (run : OpRun) (log : List Undo) (now : Seen) → Goes run log now run log now
goes_self run log now = record { same = same_self run; on = λ first is. is }

pub goes_then : (old run new : OpRun) (log middle later : List Undo) (was now then : Seen) → Goes old log was run middle now → Goes run middle now new later then → Goes old log was new later then
goes_then old run new log middle later was now then p q = record { same = same_then old run new p.same q.same; on = λ first is. q.on first (p.on first is) }

-- a run that went on, and may be undone from there
pub back_then : (old run : OpRun) (log middle later : List Undo) (was now then : Seen) → Goes old log was run middle now → MayGoBack run middle now later then → MayGoBack old log was later then
back_then old run log middle later was now then p back first is = back first (p.on first is)

-- what isn't lent to a run that went on
pub unlent_then : (old run : OpRun) (log middle : List Undo) (was now : Seen) (c : Cell) → Goes old log was run middle now → IsUnlentFor run middle now c → IsUnlentFor old log was c
unlent_then old run log middle was now c p unlent first is =
    subst (λ (x : Contracts × Head × Op). IsFirstUnlent first (serial_on x.0 x.1 x.2 first).course.past c) (λ i. (p.same.book i, p.same.head i, p.same.op i)) (unlent first (p.on first is))

-- ---- what a run asks

pub asks_access : (run : OpRun) (n : Next) (a : Access) → n ≡ next.Ask a → Promises n run → Asks run.state a
asks_access run n a is promises = subst (λ (x : Next). Promises x run) is promises

pub waits_for : (run : OpRun) (n : Next) (a : Access) → n ≡ next.Ask a → awaited_by run ≡ asked_by n → awaited_by run ≡ Some a
waits_for run n a is asks = asks ∙ ap asked_by is

module _ (old run : OpRun) (log : List Undo) (now : Seen) (a : Access) (same : StaysBy old run) (past : past_of run ≡ past_of old) (asks : Asks run.state a) where
  fit : (first : Seen) → IsAt old log first now → fits_access (book_of run) a ≡ true
  fit first is = next_fits (book_of run) (head_of run) (op_of run) (past_of run) log first now a (at_still old run log first now same.book past is) asks.next

  -- the access may be made
  pub may_access : (first : Seen) → IsAt old log first now → CanAccess now a
  may_access first is = can_make (book_of run) (past_of run) log first now a (at_still old run log first now same.book past is) (fit first is) asks.covered

  -- its cell isn't lent
  pub unlent_for : (c : Cell) → (c ≡ cell_of a) × (¬ Lends now a) → IsUnlentFor old log now c
  unlent_for c unlent first is =
      subst (λ (x : Contracts × Head × Op). IsFirstUnlent first (serial_on x.0 x.1 x.2 first).course.past c) (λ i. (same.book i, same.head i, same.op i))
      (first_unlent (book_of run) (head_of run) (op_of run) (past_of run) log first now a c (at_still old run log first now same.book past is) asks.next unlent)

  module _ (r : Reply) (later : List Undo) (then : Seen) (makes : Makes now a r log later then) (stays : Stays now then) where
    more : (first : Seen) → IsAt old log first now → IsAlong (book_of run) (past_of run ++ (a, r) ∷ []) later first then
    more first is = along_more (book_of run) (past_of run) log later first now then a r (at_still old run log first now same.book past is) (fit first is) asks.covered makes stays

    -- once it is made, it may be undone
    pub back_from : MayGoBack old log now later then
    back_from first is = (more first is).leads

    -- and the run that is told the reply goes on
    pub goes_on : (new : OpRun) → StaysBy run new → past_of new ≡ past_of run ++ (a, r) ∷ [] → Goes old log now new later then
    goes_on new told pushed = record {
      same = same_then old run new same told;
      on = λ first is. subst (λ (x : Contracts × Past). IsAlong x.0 x.1 later first then) (λ i. (sym told.book i, sym pushed i)) (more first is);
    }

    -- the reply is one that it can get
    pub may_get : (first : Seen) → IsAt old log first now → (b : Access) → awaited_by run ≡ Some a → awaited_by run ≡ Some b → can_get (book_of run) b r ≡ true
    may_get first is b waits also =
        let one : a ≡ b = let both : Some a ≡ Some b = sym waits ∙ also in cc in
        let now_owned = (at_still old run log first now same.book past is).book in
        subst (λ (x : Access). can_get (book_of run) x r ≡ true) one
        (ap (can_get (book_of run) a) makes.did.reply ∙ gets (book_of run) now a now_owned makes.did.lent asks.stored)

  -- where nothing was made, what was made before may be undone
  pub back_unmade : (later : List Undo) (then : Seen) → later ≡ log → Stays now then → IsAsBefore now then → MayGoBack old log now later then
  back_unmade later then unnoted stays before first is = back_still log later first now then unnoted stays before is.leads
