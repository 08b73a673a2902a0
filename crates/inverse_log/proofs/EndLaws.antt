-- Where undoing a log leads: to one end, on from an undone entry, and back from a noted one.
use Rattle.std.proofs.Common.{◌≡◌, ℕ, ◌+◌, ◌<◌, ◌≤◌, Bool, true, false, List, [], ◌∷◌, ◌++◌, length, Some, refl, sym, ap, subst, ◌∙◌, arith}
use Rattle.std.specs.Prelude.{reverse, All}
use Rattle.std.specs.Bool.{OnTrue, OnFalse}
use Rattle.std.proofs.lemmas.List.{reverse-append, length-append}
use Rattle.std.proofs.lemmas.List.Elements.{All-push, All-pop, All-weaker}
use Rattle.cell_names.specs.declared.access.Access.{Access}
use Rattle.cell_names.specs.declared.access.Reply.{Reply}
use Rattle.cell_names.specs.declared.access.Undo.{Undo}
use Rattle.cell_names.specs.declared.access.Undo.TheVariants as undo
use Rattle.cell_names.specs.Contents.{Contents, IsTidy}
use Rattle.cell_names.specs.Effects.{undone, flight_undone, undo_of, after}
use Rattle.cell_names.specs.Conditions.{Seen, IsCovered, HasAmount, MayChange, CanUndo}
use Rattle.cell_names.specs.Stores.{Stays, Did, Undoes}
use Rattle.cell_names.proofs.Undoing.{taken_back}
use Rattle.inverse_log.specs.Logs.{CanUndoLast, UndoesLast}
use Rattle.inverse_log.specs.Ends.{Reaches, LeadsTo, LeadsSomewhere, IsAt}
use Rattle.inverse_log.specs.Undoing.{IsOnTheWay}

-- ---- one end

reaches_one_cells : (us : List Undo) (m : Contents) (f : ℕ) (n n' : Contents) (g g' : ℕ) → Reaches us m f n g → Reaches us m f n' g' → n ≡ n'
reaches_one_cells [] m f n n' g g' p q = sym p.0 ∙ q.0
reaches_one_cells (u ∷ us) m f n n' g g' p q = reaches_one_cells us _ _ n n' g g' p.1 q.1

reaches_one_flight : (us : List Undo) (m : Contents) (f : ℕ) (n n' : Contents) (g g' : ℕ) → Reaches us m f n g → Reaches us m f n' g' → g ≡ g'
reaches_one_flight [] m f n n' g g' p q = sym p.1 ∙ q.1
reaches_one_flight (u ∷ us) m f n n' g g' p q = reaches_one_flight us _ _ n n' g g' p.1 q.1

pub one_cells : (log : List Undo) (seen : Seen) (m n : Contents) (f g : ℕ) → LeadsTo log seen m f → LeadsTo log seen n g → m ≡ n
one_cells log seen m n f g p q = reaches_one_cells (reverse log) _ _ m n f g p.ends q.ends

pub one_flight : (log : List Undo) (seen : Seen) (m n : Contents) (f g : ℕ) → LeadsTo log seen m f → LeadsTo log seen n g → f ≡ g
one_flight log seen m n f g p q = reaches_one_flight (reverse log) _ _ m n f g p.ends q.ends

-- ---- what stays

-- what may be changed before may be changed after
pub may_still : (old new : Seen) → Stays old new → (u : Undo) → MayChange old u → MayChange new u
may_still old new s undo.Nothing h = tt
may_still old new s (undo.Put c v) h = record { names = h.names; fits = s.fits _ ∙ h.fits; slot = s.slots _ h.slot }
may_still old new s (undo.Uncredit a n) h = tt
may_still old new s (undo.Undebit a n) h = record {
  credited = λ some. ((h.credited some).0, s.fits _ ∙ (h.credited some).1);
  slot = λ some. s.slots _ (h.slot some);
}

pub all_still : (old new : Seen) → Stays old new → (log : List Undo) → All (MayChange old) log → All (MayChange new) log
all_still old new s log h = All-weaker (MayChange old) (MayChange new) (may_still old new s) log h

-- ---- the last entry

last_first : (log : List Undo) (u : Undo) → reverse (log ++ u ∷ []) ≡ u ∷ reverse log
last_first log u = reverse-append log (u ∷ [])

ends_last : (log : List Undo) (u : Undo) (seen : Seen) (m : Contents) (f : ℕ) → LeadsTo (log ++ u ∷ []) seen m f → Reaches (u ∷ reverse log) seen.cells seen.flight m f
ends_last log u seen m f h = subst (λ (us : List Undo). Reaches us seen.cells seen.flight m f) (last_first log u) h.ends

changes_last : (log : List Undo) (u : Undo) (seen : Seen) (m : Contents) (f : ℕ) → LeadsTo (log ++ u ∷ []) seen m f → All (MayChange seen) log × MayChange seen u
changes_last log u seen m f h = All-pop (MayChange seen) (log ++ u ∷ []) log (Some u) refl h.changes

pub may_undo_last : (log : List Undo) (u : Undo) (seen : Seen) (m : Contents) (f : ℕ) → LeadsTo (log ++ u ∷ []) seen m f → CanUndo seen u
may_undo_last log u seen m f h = record { amount = (ends_last log u seen m f h).0; change = (changes_last log u seen m f h).1 }

pub leads_on : (log : List Undo) (u : Undo) (old new : Seen) (m : Contents) (f : ℕ) → Undoes old u new → LeadsTo (log ++ u ∷ []) old m f → LeadsTo log new m f
leads_on log u old new m f did h = record {
  ends = subst (λ (n : Contents). Reaches (reverse log) n new.flight m f) (sym did.cells)
      (subst (λ (g : ℕ). Reaches (reverse log) (undone u old.cells) g m f) (sym did.flight) (ends_last log u old m f h).1);
  changes = all_still old new did.stays log (changes_last log u old m f h).0;
}

-- ---- a noted entry

-- an undo that takes cells and flight back to where the log leads on from
noted : (log : List Undo) (u : Undo) (old new : Seen) (m : Contents) (f : ℕ) → HasAmount new.cells new.flight u → undone u new.cells ≡ old.cells → flight_undone u new.flight ≡ old.flight →
    Stays old new → MayChange new u → LeadsTo log old m f → LeadsTo (log ++ u ∷ []) new m f
noted log u old new m f amount cells flight stays may h =
    let rest : Reaches (reverse log) (undone u new.cells) (flight_undone u new.flight) m f =
    subst (λ (n : Contents). Reaches (reverse log) n (flight_undone u new.flight) m f) (sym cells)
    (subst (λ (g : ℕ). Reaches (reverse log) old.cells g m f) (sym flight) h.ends) in
    record {
      ends = subst (λ (us : List Undo). Reaches us new.cells new.flight m f) (sym (last_first log u)) (amount, rest);
      changes = All-push (MayChange new) log u (all_still old new stays log h.changes) may;
    }

pub leads_back : (log : List Undo) (old new : Seen) (a : Access) (r : Reply) (u : Undo) (m : Contents) (f : ℕ) → IsTidy old.cells → IsCovered old.flight a →
    Did old a r u new → Stays old new → MayChange new u → LeadsTo log old m f → LeadsTo (log ++ u ∷ []) new m f
leads_back log old new a r u m f tidy covered did stays may h =
    let back = taken_back a old.cells old.flight tidy covered in
    noted log u old new m f
    (subst (λ (v : Undo). HasAmount new.cells new.flight v) (sym did.undo)
    (subst (λ (n : Contents). HasAmount n new.flight (undo_of a old.cells)) (sym did.cells)
    (subst (λ (g : ℕ). HasAmount (after a old.cells) g (undo_of a old.cells)) (sym did.flight) back.amount)))
    ((λ i. undone (did.undo i) (did.cells i)) ∙ back.cells)
    ((λ i. flight_undone (did.undo i) (did.flight i)) ∙ back.flight)
    stays may h

-- ---- all entries

pub begun : (log : List Undo) (seen : Seen) → LeadsSomewhere log seen → IsOnTheWay log log seen seen
begun log seen h = record {
  somewhere = h;
  on = λ m f p. p;
  stays = record { lent = λ c. refl; fits = λ a. refl; slots = λ c s. s };
}

pub may_pop : (log left : List Undo) (old now : Seen) → IsOnTheWay log left old now → CanUndoLast left now
may_pop log left old now h rest u is =
    may_undo_last rest u now h.somewhere.0 h.somewhere.1 (subst (λ (l : List Undo). LeadsTo l now h.somewhere.0 h.somewhere.1) is h.somewhere.2)

pub popped : (log left rest : List Undo) (old now next : Seen) → IsOnTheWay log left old now → UndoesLast left rest now next → IsOnTheWay log rest old next
popped log left rest old now next h did =
    let leads : (m : Contents) (f : ℕ) → LeadsTo left now m f → LeadsTo rest next m f =
    λ m f p. leads_on rest did.last now next m f did.undone (subst (λ (l : List Undo). LeadsTo l now m f) did.gone p) in
    record {
      somewhere = (h.somewhere.0, h.somewhere.1, leads _ _ h.somewhere.2);
      on = λ m f p. leads m f (h.on m f p);
      stays = record {
        lent = λ c. did.undone.stays.lent c ∙ h.stays.lent c;
        fits = λ a. did.undone.stays.fits a ∙ h.stays.fits a;
        slots = λ c s. did.undone.stays.slots c (h.stays.slots c s);
      };
    }

pub arrived : (log left : List Undo) (old now : Seen) → IsOnTheWay log left old now → left ≡ [] → (m : Contents) (f : ℕ) → LeadsTo log old m f → IsAt now m f
arrived log left old now h none m f p =
    let ends : Reaches [] now.cells now.flight m f = subst (λ (l : List Undo). Reaches (reverse l) now.cells now.flight m f) none (h.on m f p).ends in
    record { cells = ends.0; flight = ends.1 }

-- one turn of the loop, of which there are as many as entries
pub one_turn : (b : Bool) (log left rest : List Undo) (old now next : Seen) (k n : ℕ) → (length left + k ≡ n) × IsOnTheWay log left old now → k < n →
    OnTrue b (UndoesLast left rest now next) → OnFalse b (left ≡ []) → (length rest + (k + 1) ≡ n) × IsOnTheWay log rest old next
one_turn true log left rest old now next k n h lt did none =
    let shorter : length left ≡ length (rest ++ did.last ∷ []) = ap length did.gone in
    let one : length (rest ++ did.last ∷ []) ≡ length rest + 1 = length-append rest (did.last ∷ []) in
    let count : length left + k ≡ n = h.0 in
    (omega arith, popped log left rest old now next h.1 did)
one_turn false log left rest old now next k n h lt did none =
    let empty : length left ≡ 0 = ap length none in
    let count : length left + k ≡ n = h.0 in
    absurd (omega arith)

pub none_left : (left : List Undo) (k n : ℕ) → length left + k ≡ n → n ≤ k → left ≡ []
none_left [] k n count end = refl
none_left (u ∷ us) k n count end = absurd (omega arith)
