-- The start of a code: its storage takes its room, and it runs as the operation does.
use Rattle.std.proofs.Common.{◌≡◌, ◌+◌, ◌<◌, ◌^◌, true, List, ℕ, sym, ap, subst, ◌∙◌}
use Rattle.std.specs.Prelude.{IfOk, IsTrue, Result, Ok, Err}
use Rattle.value_core.specs.declared.val.Val.{Val}
use Rattle.value_core.specs.Size.{size_of}
use Rattle.value_core.specs.Typed.{has_type}
use Rattle.michelson_code.specs.declared.script.Script.{Script}
use Rattle.michelson_code.specs.TypedScript.{IsTypedScript}
use Rattle.michelson_rules.specs.declared.ask.Budget.{Budget}
use Rattle.michelson_rules.specs.declared.ask.Env.{Env}
use Rattle.michelson_rules.specs.Metered.{script_outcome}
use Rattle.michelson_rules.specs.World.{World}
use Rattle.michelson_machine.specs.declared.machine.Machine.{Machine}
use Rattle.michelson_machine.specs.Outcomes.{outcome}
use Rattle.cell_names.specs.Contents.{Contents}
use Rattle.code_book.specs.Books.{Contracts}
use Rattle.code_book.specs.Fits.{is_kept_as}
use Rattle.op_rules.specs.declared.transfer.Transfer.{Transfer}
use Rattle.op_rules.specs.CodeRule.{after_code, param_of}
use Rattle.op_rules.specs.Course.{taking}
use Rattle.op_rules.specs.SerialRule.{env_of, running}
use Rattle.op_rules.specs.WriteRule.{returning}
use Rattle.op_rules.specs.Worlds.{world_of}
use Rattle.op_run.specs.declared.phase.Code.{Code}
use Rattle.op_run.specs.declared.phase.Phase.TheVariants as phase
use Rattle.op_run.specs.declared.state.State.{State}
use Rattle.op_run.specs.Codes.{BeginsSafe}
use Rattle.op_run.specs.Phases.{onward}
use Rattle.op_run.specs.Safe.{Behaves}
use Rattle.op_run.specs.States.{course_of, outcome_of}
use Rattle.op_run.proofs.CalledCodes.{behaves}
use Rattle.op_run.proofs.Calls.{taking_goes}

-- a machine that runs a typed script on a param of its type and a storage that is kept as its own behaves
module _ (book : Contracts) (dest : List ℕ) (s : Script) (env : Env) (left : Budget) (param stored : Val) (typed : IsTrue (has_type param s.param))
    (kept : is_kept_as s.storage stored ≡ true) (money : env.amount < 2 ^ 63) (script : ∥ IsTypedScript s ∥₁) where
  pub begins_safe : {E : Type 0} (r : Result Machine E) → IfOk r (λ n. (w : World) → outcome w n ≡ script_outcome s env w left param stored) →
      IfOk r (λ n. BeginsSafe book dest s n)
  begins_safe (Ok n) same = λ m all contract.
      subst (Behaves s) (sym (same (world_of book m dest))) (behaves book m all dest s contract env param stored typed kept money script left)
  begins_safe (Err e) same = tt

-- a transfer to the contract whose code it is, with so much room left behind the storage
module _ (s : State) (c : Code) (t : Transfer) (room : ℕ) (enough : room + (1 + size_of c.stored) ≡ s.left.room) where
  abbrev to_it : Transfer
  to_it = record t { dest = c.dest }

  abbrev behind : Budget
  behind = record s.left { room = room }

  pub starts : ((w : World) → outcome w c.machine ≡ script_outcome c.code.now.script (env_of s.head s.op.now.source to_it) w behind (param_of c.code.now.script to_it) c.stored) →
      (new : State) → new ≡ record s { left = behind; phase = phase.Running c } → (m : Contents) →
      taking (1 + size_of c.stored) (running s.book.now s.head s.op.now.source to_it c.code.now.script c.stored (onward s.book.now s.head s.op.now.source s.calls s.pending)) m (course_of s)
      ≡ outcome_of new m
  starts same new is m =
      taking_goes (1 + size_of c.stored) room (running s.book.now s.head s.op.now.source to_it c.code.now.script c.stored (onward s.book.now s.head s.op.now.source s.calls s.pending))
      m (course_of s) enough
      ∙ ap (λ o. after_code c.dest o (returning c.dest c.code.now.script c.stored (onward s.book.now s.head s.op.now.source s.calls s.pending)) m s.log)
      (sym (same (world_of s.book.now m c.dest)))
      ∙ ap (λ (x : State). outcome_of x m) (sym is)
