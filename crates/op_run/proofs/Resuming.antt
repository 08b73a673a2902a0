-- What a reply is for what waits for it.
use Rattle.std.proofs.Common.{◌≡◌, ℕ, true, Option, Some, None, List, sym, ap, subst, ◌∙◌}
use Rattle.value_core.specs.declared.val.Val.{Val}
use Rattle.michelson_code.specs.declared.script.Script.{Script}
use Rattle.michelson_rules.specs.Metered.{Outcome}
use Rattle.michelson_rules.specs.World.{World}
use Rattle.michelson_machine.specs.declared.machine.Machine.{Machine}
use Rattle.michelson_machine.specs.Outcomes.{answered_by, awaits, outcome}
use Rattle.cell_names.specs.declared.access.Access.{Access}
use Rattle.cell_names.specs.declared.access.Reply.{Reply}
use Rattle.cell_names.specs.Contents.{Contents}
use Rattle.cell_names.specs.Effects.{after, reply_to}
use Rattle.code_book.specs.Books.{Contracts}
use Rattle.code_book.specs.Fits.{fits_storage, is_kept_as}
use Rattle.op_rules.specs.CodeRule.{after_code}
use Rattle.op_rules.specs.Course.{Past}
use Rattle.op_rules.specs.Replies.{flight_by}
use Rattle.op_rules.specs.Worlds.{world_of}
use Rattle.op_rules.specs.WriteRule.{returning}
use Rattle.op_run.specs.declared.phase.Code.{Code}
use Rattle.op_run.specs.declared.phase.Phase.TheVariants as phase
use Rattle.op_run.specs.declared.phase.Then.{Then}
use Rattle.op_run.specs.declared.phase.Then.TheVariants as then
use Rattle.op_run.specs.declared.state.State.{State}
use Rattle.op_run.specs.Phases.{answer_in, onward}
use Rattle.op_run.specs.Resumed.{ResumedSafe, ResumedSame, goes_with}
use Rattle.op_run.specs.Safe.{Behaves, IsSafe, Safe, SafeAt}
use Rattle.op_run.specs.Sound.{Looks, Runs}
use Rattle.op_run.specs.States.{goes_from}
use Rattle.op_run.proofs.Asking.{look_reads}

-- ---- storages

-- a value that may stand in a contract's storage is kept as the script says
pub stored_fits : (o : Option Script) (s : Script) (v : Val) → o ≡ Some s → fits_storage o v ≡ true → is_kept_as s.storage v ≡ true
stored_fits o s v is fit = sym (ap (λ (x : Option Script). fits_storage x v) is) ∙ fit

-- ---- looks

module _ (book : Contracts) (c : Code) (a : Access) (looks : Looks book c a) where
  -- the cells don't change at a look
  look_leaves : (m : Contents) → after a m ≡ m
  look_leaves m = ap (λ (x : Access). after x m) (look_reads c.dest looks.ask a looks.reads).1

  pub look_flight : (r : Reply) (f : ℕ) → flight_by a r f ≡ f
  look_flight r f = ap (λ (x : Access). flight_by x r f) (look_reads c.dest looks.ask a looks.reads).1

  module _ (machine : Machine) (v : Option Val) (r : Reply) (same : (w : World) → outcome w machine ≡ answered_by w c.machine v) (is : v ≡ answer_in a r) where
    answers : (w : World) → answered_by w c.machine (answer_in a r) ≡ outcome w machine
    answers w = ap (answered_by w c.machine) (sym is) ∙ sym (same w)

    pub look_runs : awaits machine ≡ None → Runs book (record c { machine = machine }) None
    look_runs none = record { contract = looks.runs.contract; awaits = none }

    pub look_behaves : (m : Contents) → reply_to a m ≡ r → Behaves c.code.now.script (answered_by (world_of book m c.dest) c.machine (answer_in a (reply_to a m))) →
        Behaves c.code.now.script (outcome (world_of book (after a m) c.dest) machine)
    look_behaves m gives behaves =
        subst (λ (o : Outcome (List Val)). Behaves c.code.now.script o)
        (ap (λ (x : Reply). answered_by (world_of book m c.dest) c.machine (answer_in a x)) gives
        ∙ answers (world_of book m c.dest)
        ∙ ap (λ (x : Contents). outcome (world_of book x c.dest) machine) (sym (look_leaves m)))
        behaves

module _ (s : State) (c : Code) (a : Access) (looks : Looks s.book.now c a) (machine : Machine) (v : Option Val) (r : Reply) where
  pub look_same : ((w : World) → outcome w machine ≡ answered_by w c.machine v) → v ≡ answer_in a r → (m : Contents) (past : Past) →
      goes_with s a (then.Looked c) r m (record { left = s.left; past = past }) ≡ goes_from s (phase.Running (record c { machine = machine })) m (record { left = s.left; past = past })
  look_same same is m past =
      ap (λ (o : Outcome (List Val)). after_code c.dest o (returning c.dest c.code.now.script c.stored (onward s.book.now s.head s.op.now.source s.calls s.pending)) m past)
      (answers s.book.now c a looks machine v r same is (world_of s.book.now m c.dest))

-- ---- by what waits

module _ (s new : State) (a : Access) (r : Reply) (next next' : Then) (is : next ≡ next') where
  pub same_by : ResumedSame s a next' r new → ResumedSame s a next r new
  same_by h = subst (λ (x : Then). ResumedSame s a x r new) (sym is) h

  pub safe_by : ((m : Contents) → IsSafe s.book.now s.pending (phase.Waiting a next') m → Safe new (after a m)) → ResumedSafe s a next r new
  safe_by h = λ m gives safe. h m (subst (λ (x : Then). SafeAt s (phase.Waiting a x) m) is safe)
