-- One step after another, and a step by its phase.
use Rattle.std.proofs.Common.{◌≡◌, ◌∙◌, sym, subst}
use Rattle.std.specs.Prelude.{Result, Ok, Err, OnOk}
use Rattle.cell_names.specs.Contents.{Contents}
use Rattle.code_book.specs.Books.{Contracts}
use Rattle.op_run.specs.declared.phase.Phase.{Phase}
use Rattle.op_run.specs.declared.state.State.{State}
use Rattle.op_run.specs.Sound.{SoundAt}
use Rattle.op_run.specs.States.{Stays}
use Rattle.op_run.specs.Steps.{AllFit, GoesOn, StaysSafe}

module _ {A E : Type 0} where
  -- what an answer that is no want of memory says
  pub on_ok : (r : Result A E) (P Q : Type 0) → (P → Q) → OnOk r P → OnOk r Q
  on_ok (Ok x) P Q f h = f h
  on_ok (Err e) P Q f h = tt

pub stays_then : (a b c : State) → Stays a b → Stays b c → Stays a c
stays_then a b c h k = record { book = k.book ∙ h.book; head = k.head ∙ h.head; op = k.op ∙ h.op; log = k.log ∙ h.log }

fit_then : (a b : State) (m : Contents) → Stays a b → AllFit a.book.now m → AllFit b.book.now m
fit_then a b m h fit = subst (λ (k : Contracts). AllFit k m) (sym h.book) fit

pub goes_then : (a b c : State) → Stays a b → GoesOn a a.phase b → StaysSafe a a.phase b → GoesOn b b.phase c → GoesOn a a.phase c
goes_then a b c stays goes safe next m fit is_safe = goes m fit is_safe ∙ next m (fit_then a b m stays fit) (safe m fit is_safe)

pub safe_then : (a b c : State) → Stays a b → StaysSafe a a.phase b → StaysSafe b b.phase c → StaysSafe a a.phase c
safe_then a b c stays safe next m fit is_safe = next m (fit_then a b m stays fit) (safe m fit is_safe)

-- a step by its phase
pub goes_by : (s new : State) (p : Phase) → s.phase ≡ p → GoesOn s p new → GoesOn s s.phase new
goes_by s new p is h = subst (λ (q : Phase). GoesOn s q new) (sym is) h

pub safe_by : (s new : State) (p : Phase) → s.phase ≡ p → StaysSafe s p new → StaysSafe s s.phase new
safe_by s new p is h = subst (λ (q : Phase). StaysSafe s q new) (sym is) h

pub sound_by : (s : State) (p : Phase) → s.phase ≡ p → SoundAt s s.phase → SoundAt s p
sound_by s p is h = subst (SoundAt s) is h
