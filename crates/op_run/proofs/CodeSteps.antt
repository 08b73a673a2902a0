-- What a code's run comes to where it asks, is answered, fails or returns.
use Rattle.std.proofs.Common.{◌≡◌, ℕ, Bool, true, false, Option, Some, List, [], ◌∷◌, ◌++◌, refl, sym, ap, subst, ◌∙◌}
use Rattle.std.specs.Prelude.{if◌then◌else◌}
use Rattle.std.proofs.Math.Logic.{∥∥₁_map}
use Rattle.std.proofs.lemmas.Option.{same_Some}
use Rattle.value_core.specs.declared.val.Emit.{Emit}
use Rattle.value_core.specs.declared.val.Val.{Val}
use Rattle.michelson_code.specs.declared.script.Script.{Script}
use Rattle.michelson_code.specs.declared.why.Why.{Why}
use Rattle.michelson_code.specs.declared.why.Why.TheVariants as why
use Rattle.michelson_rules.specs.declared.ask.Ask.{Ask}
use Rattle.michelson_rules.specs.declared.ask.Ask.TheVariants as ask
use Rattle.michelson_rules.specs.declared.ask.Budget.{Budget}
use Rattle.michelson_rules.specs.Metered.{Asked, Ended, Outcome}
use Rattle.michelson_rules.specs.Returned.{Change, Returned}
use Rattle.michelson_rules.specs.Runs.{Failed as Fails, Missed, Return}
use Rattle.michelson_rules.specs.TypedScripts.{IsTypedReturn, ReturnsTyped, WhereReturned}
use Rattle.michelson_rules.specs.World.{World, reply_of}
use Rattle.michelson_machine.specs.declared.end.End.TheVariants as end
use Rattle.michelson_machine.specs.declared.machine.Machine.{Machine}
use Rattle.michelson_machine.specs.Ends.{IsEnd}
use Rattle.michelson_machine.specs.Outcomes.{answered_by, outcome}
use Rattle.cell_names.specs.declared.access.Access.{Access}
use Rattle.cell_names.specs.declared.access.Access.TheVariants as access
use Rattle.cell_names.specs.declared.cell.Cell.{Cell}
use Rattle.cell_names.specs.declared.cell.Cell.TheVariants as cell
use Rattle.cell_names.specs.Contents.{Contents}
use Rattle.cell_names.specs.Effects.{after, reply_to}
use Rattle.op_rules.specs.Course.{Course, Doing, Past, Serial, accessing, answered, failed, is_one_too_many}
use Rattle.op_rules.specs.CodeRule.{access_for, after_code, looking, with_returned}
use Rattle.op_rules.specs.Worlds.{world_of}
use Rattle.op_rules.specs.WriteRule.{returning}
use Rattle.op_rules.proofs.MapCells.{get-map_at}
use Rattle.op_run.specs.declared.phase.Code.{Code}
use Rattle.op_run.specs.declared.phase.Phase.TheVariants as phase
use Rattle.op_run.specs.declared.phase.Then.TheVariants as then
use Rattle.op_run.specs.declared.state.State.{State}
use Rattle.op_run.specs.Codes.{SafeLook, looked_at, returns}
use Rattle.op_run.specs.Phases.{answer_in, code_goes, onward}
use Rattle.op_run.specs.Safe.{Behaves, SafeAt}
use Rattle.op_run.specs.States.{asking, course_of, outcome_at}

-- ---- ends

module _ (self : List ℕ) (next : Returned → Doing) (m : Contents) (past : Past) where
  pub code_returns : (o : Outcome (List Val)) (ops : List Emit) (storage : Val) (changes : List Change) (left : Budget) → IsEnd o (end.Return ops storage changes left) →
      after_code self o next m past ≡ next (returns ops storage changes) m (record { left = left; past = past })
  code_returns (Ended (Return stack beside) rest) ops storage changes left h =
      ap (λ x. with_returned x next m (record { left = rest; past = past })) h.0
      ∙ ap (λ (l : Budget). next (returns ops storage changes) m (record { left = l; past = past })) (sym h.1)
  code_returns (Ended (Fails y) rest) ops storage changes left h = absurd h
  code_returns (Ended Missed rest) ops storage changes left h = absurd h
  code_returns (Asked a rest more) ops storage changes left h = absurd h

  pub code_fails : (o : Outcome (List Val)) (y : Why) (left : Budget) → IsEnd o (end.Fail y left) → after_code self o next m past ≡ failed y m (record { left = left; past = past })
  code_fails (Ended (Return stack beside) rest) y left h = absurd h
  code_fails (Ended (Fails z) rest) y left h = λ i. failed (sym h.0 i) m (record { left = sym h.1 i; past = past })
  code_fails (Ended Missed rest) y left h = absurd h
  code_fails (Asked a rest more) y left h = absurd h

is_typed : (s : Script) (o : Outcome (List Val)) (ops : List Emit) (storage : Val) (changes : List Change) (left : Budget) → IsEnd o (end.Return ops storage changes left) →
    WhereReturned (ReturnsTyped s) o → IsTypedReturn s (returns ops storage changes)
is_typed s (Ended (Return stack beside) rest) ops storage changes left h typed =
    subst (IsTypedReturn s) (same_Some typed.0 (returns ops storage changes) (sym typed.1 ∙ h.0)) typed.2
is_typed s (Ended (Fails y) rest) ops storage changes left h typed = absurd h
is_typed s (Ended Missed rest) ops storage changes left h typed = absurd h
is_typed s (Asked a rest more) ops storage changes left h typed = absurd h

-- what is returned has the script's types
pub returned_so : (s : Script) (o : Outcome (List Val)) (ops : List Emit) (storage : Val) (changes : List Change) (left : Budget) → IsEnd o (end.Return ops storage changes left) →
    Behaves s o → ∥ IsTypedReturn s (returns ops storage changes) ∥₁
returned_so s o ops storage changes left h behaves = ∥∥₁_map behaves.returned (is_typed s o ops storage changes left h)

-- what follows a question behaves
pub asked_behaves : (s : Script) (o more : Outcome (List Val)) (a : Ask) (left : Budget) → o ≡ Asked a left more → Behaves s o → Behaves s more
asked_behaves s o more a left is behaves =
    let here : Behaves s (Asked a left more) = subst (Behaves s) is behaves in record { never = here.never; returned = here.returned }

-- ---- looks

picked : (b : Bool) (x y z : Serial) → y ≡ z → (if b then x else y) ≡ (if b then x else z)
picked true x y z e = refl
picked false x y z e = e

-- the cells don't change at a look
read_stays : (place : Cell) (d e : Doing) (m : Contents) (c : Course) → ((course : Course) → d m course ≡ e m course) →
    accessing (access.Read place) (λ r. d) m c ≡ accessing (access.Read place) (λ r. e) m c
read_stays place d e m c same =
    picked (is_one_too_many (access.Read place) c.past) (failed why.TooManyCells m c) (answered (access.Read place) (λ r. d) m c) (answered (access.Read place) (λ r. e) m c)
    (same (record { left = c.left; past = c.past ++ (access.Read place, reply_to (access.Read place) m) ∷ [] }))

pub look_stays : (self : List ℕ) (q : Ask) (d e : Doing) (m : Contents) (c : Course) → ((course : Course) → d m course ≡ e m course) → looking (access_for self q) d m c ≡ looking (access_for self q) e m c
look_stays self (ask.Entry place key) d e m c same = read_stays (cell.Entry self place key) d e m c same
look_stays self ask.Balance d e m c same = read_stays (cell.Balance self) d e m c same
look_stays self (ask.Contract address entry ty) d e m c same = same c

module _ (s : State) (c : Code) (m : Contents) where
  abbrev rest_of : Returned → Doing
  rest_of = returning c.dest c.code.now.script c.stored (onward s.book.now s.head s.op.now.source s.calls s.pending)

  -- a code that asks
  pub run_asks : (n : Machine) (q : Ask) →
      outcome (world_of s.book.now m c.dest) c.machine ≡ Asked q n.state.left (answered_by (world_of s.book.now m c.dest) n (reply_of (world_of s.book.now m c.dest) q)) →
      outcome_at s (phase.Running c) m ≡ looked_at s (record c { machine = n }) q m
  run_asks n q is =
      let w = world_of s.book.now m c.dest in
      ap (λ o. after_code c.dest o rest_of m s.log) is
      ∙ look_stays c.dest q (λ m' course. after_code c.dest (answered_by w n (reply_of w q)) rest_of m' course.past)
      (code_goes s.book.now s.head s.op.now.source s.calls s.pending (record c { machine = n }) (λ v. answered_by v n (reply_of v q)))
      m (record { left = n.state.left; past = s.log }) (λ course. refl)

  -- a code that was answered goes on
  pub run_told : (n : Machine) (v : Option Val) (course : Course) → ((w : World) → outcome w n ≡ answered_by w c.machine v) →
      code_goes s.book.now s.head s.op.now.source s.calls s.pending c (λ w. answered_by w c.machine v) m course
      ≡ code_goes s.book.now s.head s.op.now.source s.calls s.pending (record c { machine = n }) (λ w. outcome w n) m course
  run_told n v course same = ap (λ o. after_code c.dest o rest_of m course.past) (sym (same (world_of s.book.now m c.dest)))

  -- what the answer to a look is, by the cells
  pub answers : (q : Ask) (a : Access) → access_for c.dest q ≡ Some a → reply_of (world_of s.book.now m c.dest) q ≡ answer_in a (reply_to a m)
  answers (ask.Entry place key) a is =
      get-map_at m c.dest place key
      ∙ ap (λ (x : Access). answer_in x (reply_to x m)) (same_Some (access.Read (cell.Entry c.dest place key)) a is)
  answers ask.Balance a is = ap (λ (x : Access). answer_in x (reply_to x m)) (same_Some (access.Read (cell.Balance c.dest)) a is)
  answers (ask.Contract address entry ty) a is = absurd cc

  -- a look is an access that is asked for
  abbrev pub with_left : State
  with_left = record s { left = c.machine.state.left }

  looked_by : (q : Ask) (a : Access) → access_for c.dest q ≡ Some a → after a m ≡ m →
      (course : Course) → answered a (λ r. code_goes s.book.now s.head s.op.now.source s.calls s.pending c (λ w. answered_by w c.machine (reply_of w q))) m course
      ≡ answered a (λ r. code_goes s.book.now s.head s.op.now.source s.calls s.pending c (λ w. answered_by w c.machine (answer_in a r))) m course
  looked_by q a is stays course =
      let next = returning c.dest c.code.now.script c.stored (onward s.book.now s.head s.op.now.source s.calls s.pending) in
      let past = course.past ++ (a, reply_to a m) ∷ [] in
      ap (λ (n : Contents). after_code c.dest (answered_by (world_of s.book.now n c.dest) c.machine (reply_of (world_of s.book.now n c.dest) q)) next n past) stays
      ∙ ap (λ v. after_code c.dest (answered_by (world_of s.book.now m c.dest) c.machine v) next m past) (answers q a is)
      ∙ ap (λ (n : Contents). after_code c.dest (answered_by (world_of s.book.now n c.dest) c.machine (answer_in a (reply_to a m))) next n past) (sym stays)

  pub look_asks : (q : Ask) (a : Access) → access_for c.dest q ≡ Some a → after a m ≡ m → looked_at s c q m ≡ asking with_left a (then.Looked c) m
  look_asks q a is stays =
      ap (λ o. looking o (code_goes s.book.now s.head s.op.now.source s.calls s.pending c (λ w. answered_by w c.machine (reply_of w q))) m (course_of with_left)) is
      ∙ picked (is_one_too_many a s.log) (failed why.TooManyCells m (course_of with_left)) _ _ (looked_by q a is stays (course_of with_left))

  pub look_safe : (q : Ask) (a : Access) → access_for c.dest q ≡ Some a → SafeLook s c q m → SafeAt with_left (phase.Waiting a (then.Looked c)) m
  look_safe q a is safe = record {
    now = subst (λ v. Behaves c.code.now.script (answered_by (world_of s.book.now m c.dest) c.machine v)) (answers q a is) safe.now;
    pending = safe.pending;
  }
