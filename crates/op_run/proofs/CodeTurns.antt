-- A turn of a code, and what follows it: a look, what is told, or an end.
use Rattle.std.proofs.Common.{◌≡◌, ℕ, Option, Some, None, List, refl, sym, ap, subst, ◌∙◌}
use Rattle.std.specs.Prelude.{Result, OnOk, if◌then◌else◌}
use Rattle.std.proofs.lemmas.Result.{on_ok_weaker}
use Rattle.value_core.specs.declared.ty.Ty.{Ty}
use Rattle.value_core.specs.declared.val.Emit.{Emit}
use Rattle.value_core.specs.declared.val.Val.{Val}
use Rattle.value_core.specs.declared.val.Val.TheVariants as value
use Rattle.michelson_rules.specs.declared.ask.Ask.{Ask}
use Rattle.michelson_rules.specs.declared.ask.Ask.TheVariants as ask
use Rattle.michelson_rules.specs.declared.ask.Budget.{Budget}
use Rattle.michelson_rules.specs.Metered.{Outcome}
use Rattle.michelson_rules.specs.Returned.{Change}
use Rattle.michelson_rules.specs.World.{World, reply_of}
use Rattle.michelson_machine.specs.declared.end.End.{End}
use Rattle.michelson_machine.specs.declared.end.End.TheVariants as end
use Rattle.michelson_machine.specs.declared.end.Turn.{Turn}
use Rattle.michelson_machine.specs.declared.end.Turn.TheVariants as turn
use Rattle.michelson_machine.specs.declared.machine.Machine.{Machine}
use Rattle.michelson_machine.specs.Ends.{IsEnd}
use Rattle.michelson_machine.specs.Outcomes.{answered_by, outcome}
use Rattle.cell_names.specs.declared.access.Access.TheVariants as access
use Rattle.cell_names.specs.declared.cell.Cell.{Cell}
use Rattle.cell_names.specs.Contents.{Contents}
use Rattle.code_book.specs.Entries.{entry_of}
use Rattle.op_rules.specs.CodeRule.{access_for, after_code}
use Rattle.op_rules.specs.WriteRule.{returning}
use Rattle.op_rules.specs.Worlds.{is_of_type, world_of}
use Rattle.op_run.specs.declared.phase.Code.{Code}
use Rattle.op_run.specs.declared.phase.Phase.TheVariants as phase
use Rattle.op_run.specs.declared.phase.Then.TheVariants as then
use Rattle.op_run.specs.declared.state.State.{State}
use Rattle.op_run.specs.Codes.{ClosesOn, ClosesSafe, HasTurned, IsTold, KeepsOn, KeepsSafe, LooksOn, LooksSafe, SafeClose, SafeKeep, SafeLook, TurnsInto, returns}
use Rattle.op_run.specs.Phases.{onward}
use Rattle.op_run.specs.Safe.{Behaves, Safe, SafeAt}
use Rattle.op_run.specs.States.{asking, outcome_of}
use Rattle.op_run.specs.Steps.{GoesOn, StaysSafe}
use Rattle.op_run.proofs.CodeSteps.{asked_behaves, code_returns, look_asks, look_safe, returned_so, run_asks}

-- ---- a turn

module _ (s : State) (c : Code) (n : Machine) (new : State) where
  abbrev turned : Code
  turned = record c { machine = n }

  abbrev here : Contents → World
  here m = world_of s.book.now m c.dest

  -- it asks
  now_asked : (q : Ask) (m : Contents) → TurnsInto c.machine (turn.Ask q) n → SafeAt s (phase.Running c) m → SafeLook s turned q m
  now_asked q m turns safe = record {
    now = asked_behaves c.code.now.script (outcome (here m) c.machine) (answered_by (here m) n (reply_of (here m) q)) q n.state.left
        (turns (here m) safe.now.never) safe.now;
    pending = safe.pending;
  }

  run_looks : (q : Ask) → TurnsInto c.machine (turn.Ask q) n → LooksOn s turned q new → GoesOn s (phase.Running c) new
  run_looks q turns looks = λ m all safe.
      run_asks s c m n q (turns (here m) safe.now.never) ∙ looks m all (now_asked q m turns safe)

  run_looks_safe : (q : Ask) → TurnsInto c.machine (turn.Ask q) n → LooksSafe s turned q new → StaysSafe s (phase.Running c) new
  run_looks_safe q turns looks = λ m all safe. looks m all (now_asked q m turns safe)

  -- it ends
  now_ended : (m : Contents) → SafeAt s (phase.Running c) m → SafeClose s turned (outcome (here m) c.machine)
  now_ended m safe = record { now = safe.now; pending = safe.pending }

  run_closes : (e : End) → TurnsInto c.machine (turn.Done e) n → ClosesOn s turned e new → GoesOn s (phase.Running c) new
  run_closes e turns closes = λ m all safe.
      closes m all (outcome (here m) c.machine) (turns (here m) safe.now.never) (now_ended m safe)

  run_closes_safe : (e : End) → TurnsInto c.machine (turn.Done e) n → ClosesSafe s turned e new → StaysSafe s (phase.Running c) new
  run_closes_safe e turns closes = λ m all safe.
      closes m all (outcome (here m) c.machine) (turns (here m) safe.now.never) (now_ended m safe)

-- where the code after the turn is named, unless it wanted memory
module _ (s : State) (c after : Code) (new : State) (t : Turn) (turned_so : HasTurned c t after) {E : Type 0} (r : Result (Unit {0}) E) where
  module _ (q : Ask) (is_turn : t ≡ turn.Ask q) where
    asking_turn : TurnsInto c.machine (turn.Ask q) after.machine
    asking_turn = subst (λ x. TurnsInto c.machine x after.machine) is_turn turned_so.turns

    pub looked_goes : OnOk r (LooksOn s after q new) → OnOk r (GoesOn s (phase.Running c) new)
    looked_goes = on_ok_weaker {P = LooksOn s after q new} {Q = GoesOn s (phase.Running c) new} r
        (λ looks. run_looks s c after.machine new q asking_turn (subst (λ (k : Code). LooksOn s k q new) turned_so.code looks))

    pub looked_goes_safe : OnOk r (LooksSafe s after q new) → OnOk r (StaysSafe s (phase.Running c) new)
    looked_goes_safe = on_ok_weaker {P = LooksSafe s after q new} {Q = StaysSafe s (phase.Running c) new} r
        (λ looks. run_looks_safe s c after.machine new q asking_turn (subst (λ (k : Code). LooksSafe s k q new) turned_so.code looks))

  module _ (e : End) (is_turn : t ≡ turn.Done e) where
    ending_turn : TurnsInto c.machine (turn.Done e) after.machine
    ending_turn = subst (λ x. TurnsInto c.machine x after.machine) is_turn turned_so.turns

    pub closed_goes : OnOk r (ClosesOn s after e new) → OnOk r (GoesOn s (phase.Running c) new)
    closed_goes = on_ok_weaker {P = ClosesOn s after e new} {Q = GoesOn s (phase.Running c) new} r
        (λ closes. run_closes s c after.machine new e ending_turn (subst (λ (k : Code). ClosesOn s k e new) turned_so.code closes))

    pub closed_goes_safe : OnOk r (ClosesSafe s after e new) → OnOk r (StaysSafe s (phase.Running c) new)
    closed_goes_safe = on_ok_weaker {P = ClosesSafe s after e new} {Q = StaysSafe s (phase.Running c) new} r
        (λ closes. run_closes_safe s c after.machine new e ending_turn (subst (λ (k : Code). ClosesSafe s k e new) turned_so.code closes))

-- ---- an end

module _ (s : State) (c : Code) (left : Budget) (new : State) where
  abbrev spent : State
  spent = record s { left = left }

  module _ (ops : List Emit) (storage : Val) (changes : List Change) (e : End) (is_end : e ≡ end.Return ops storage changes left) where
    returned_typed : (o : Outcome (List Val)) → IsEnd o e → SafeClose s c o → SafeKeep spent c (returns ops storage changes)
    returned_typed o is safe = record {
      now = returned_so c.code.now.script o ops storage changes left (subst (IsEnd o) is_end is) safe.now;
      pending = safe.pending;
    }

    closes_return : KeepsOn spent c (returns ops storage changes) new → ClosesOn s c e new
    closes_return keeps = λ m all o is safe.
        code_returns c.dest (returning c.dest c.code.now.script c.stored (onward s.book.now s.head s.op.now.source s.calls s.pending)) m s.log o ops storage changes left
        (subst (IsEnd o) is_end is)
        ∙ keeps m all (returned_typed o is safe)

    closes_return_safe : KeepsSafe spent c (returns ops storage changes) new → ClosesSafe s c e new
    closes_return_safe keeps = λ m all o is safe. keeps m all (returned_typed o is safe)

    -- unless it wanted memory
    module _ {E : Type 0} (r : Result (Unit {0}) E) where
      pub kept_closes : OnOk r (KeepsOn spent c (returns ops storage changes) new) → OnOk r (ClosesOn s c e new)
      kept_closes = on_ok_weaker {P = KeepsOn spent c (returns ops storage changes) new} {Q = ClosesOn s c e new} r closes_return

      pub kept_closes_safe : OnOk r (KeepsSafe spent c (returns ops storage changes) new) → OnOk r (ClosesSafe s c e new)
      kept_closes_safe = on_ok_weaker {P = KeepsSafe spent c (returns ops storage changes) new} {Q = ClosesSafe s c e new} r closes_return_safe

-- ---- a look

module _ (s : State) (c : Code) (a : Cell) (new : State) where
  module _ (left : Budget) (is_left : left ≡ c.machine.state.left) where
    abbrev leaving : Budget → State
    leaving l = record s { left = l }

    pub reads_on : ((m : Contents) → asking (leaving left) (access.Read a) (then.Looked c) m ≡ outcome_of new m) →
        (q : Ask) → access_for c.dest q ≡ Some (access.Read a) → LooksOn s c q new
    reads_on asks q is = λ m all safe.
        look_asks s c m q (access.Read a) is refl
        ∙ subst (λ (l : Budget). asking (leaving l) (access.Read a) (then.Looked c) m ≡ outcome_of new m) is_left (asks m)

    pub reads_safe : ((m : Contents) → SafeAt (leaving left) (phase.Waiting (access.Read a) (then.Looked c)) m → Safe new m) →
        (q : Ask) → access_for c.dest q ≡ Some (access.Read a) → LooksSafe s c q new
    reads_safe asks q is = λ m all safe. asks m (look_safe s c m q (access.Read a) is safe)

-- whether an entry stands is told
module _ (s : State) (c after : Code) (answer : Option Val) (told : IsTold c answer after) (address entry : List ℕ) (ty : Ty)
    (is : answer ≡ (if is_of_type ty (entry_of s.book.now address entry) then Some (value.Contract address entry) else None)) where
  abbrev runs_on : Code → State
  runs_on k = record s { phase = phase.Running k }

  told_so : (w : World) → reply_of w (ask.Contract address entry ty) ≡ answer → answered_by w c.machine (reply_of w (ask.Contract address entry ty)) ≡ outcome w after.machine
  told_so w e = ap (λ v. answered_by w c.machine v) e ∙ sym (told.same w)

  tells : LooksOn s c (ask.Contract address entry ty) (runs_on after)
  tells = λ m all safe.
      ap (λ o. after_code c.dest o (returning c.dest c.code.now.script c.stored (onward s.book.now s.head s.op.now.source s.calls s.pending)) m s.log)
      (told_so (world_of s.book.now m c.dest) (sym is))
      ∙ ap (λ (k : Code). outcome_of (runs_on k) m) (sym told.code)

  tells_well : LooksSafe s c (ask.Contract address entry ty) (runs_on after)
  tells_well = λ m all safe.
      subst (λ (k : Code). Safe (runs_on k) m) (sym told.code)
      (record {
        now = subst (Behaves c.code.now.script) (told_so (world_of s.book.now m c.dest) (sym is)) safe.now;
        pending = safe.pending;
      })

  module _ (new : State) (is_new : new ≡ runs_on after) where
    pub tells_on : LooksOn s c (ask.Contract address entry ty) new
    tells_on = subst (λ n. LooksOn s c (ask.Contract address entry ty) n) (sym is_new) tells

    pub tells_safe : LooksSafe s c (ask.Contract address entry ty) new
    tells_safe = subst (λ n. LooksSafe s c (ask.Contract address entry ty) n) (sym is_new) tells_well
