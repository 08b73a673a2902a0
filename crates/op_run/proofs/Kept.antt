-- What is true of a run in its phase holds once, so it is known of a run that keeps following its operation.
use Rattle.std.proofs.Common.{◌≡◌, ◌≢◌, ℕ, Bool, true, false, Option, Some, None, ◌⊎◌, inl, inr, refl, sym, ap, subst, ◌∙◌}
use Rattle.std.specs.Prelude.{Result, Ok, Err}
use Rattle.std.specs.Option.{option_and_then}
use Rattle.std.specs.FinMap.{get}
use Rattle.std.specs.Coded.{Coded, Coded-set, codes}
use Rattle.std.proofs.Math.Bool.{Bool-set}
use Rattle.std.proofs.Math.Nat.{ℕ_set}
use Rattle.std.proofs.Math.Logic.{∥∥₁_elim, ∥∥₁_map}
use Rattle.value_core.specs.declared.ty.Ty.{Ty}
use Rattle.value_core.specs.declared.val.Val.{Val}
use Rattle.value_core.specs.Typed.{has_type}
use Rattle.michelson_code.specs.declared.script.Script.{Script}
use Rattle.michelson_code.specs.contracts.script.Script as script
use Rattle.michelson_rules.specs.declared.ask.Ask.{Ask}
use Rattle.michelson_rules.specs.contracts.ask.Ask as ask
use Rattle.michelson_machine.specs.Outcomes.{awaits}
use Rattle.cell_names.specs.declared.access.Access.{Access}
use Rattle.cell_names.specs.declared.access.Access.TheVariants as access
use Rattle.cell_names.specs.contracts.access.Access as coded_access
use Rattle.code_book.specs.declared.fault.NoEntry.{NoEntry}
use Rattle.code_book.specs.Books.{Contracts}
use Rattle.code_book.specs.Entries.{entry_of}
use Rattle.op_rules.specs.declared.transfer.Transfer.{Transfer}
use Rattle.op_rules.specs.CodeRule.{access_for}
use Rattle.op_rules.specs.Replies.{flight_of}
use Rattle.op_run.specs.declared.phase.Code.{Code}
use Rattle.op_run.specs.declared.phase.Phase.{Phase}
use Rattle.op_run.specs.declared.phase.Phase.TheVariants as phase
use Rattle.op_run.specs.declared.phase.Then.{Then}
use Rattle.op_run.specs.declared.phase.Then.TheVariants as then
use Rattle.op_run.specs.declared.state.State.{State}
use Rattle.op_run.specs.Follows.{Keeps}
use Rattle.op_run.specs.Sound.{Calls, Enters, IsWrite, Looks, Runs, Sound, SoundAt, SoundIn, SoundThen, charged}

-- ---- equations

scripts_coded : Coded (Option Script)
scripts_coded = hlevel (codes, script.the_row.coded)

asks_coded : Coded (Option Ask)
asks_coded = hlevel (codes, ask.the_row.coded)

accesses_coded : Coded (Option Access)
accesses_coded = hlevel (codes, coded_access.the_row.coded)

known_number : (a b : ℕ) → ∥ a ≡ b ∥₁ → a ≡ b
known_number a b h = ∥∥₁_elim h (ℕ_set a b) (λ (x : a ≡ b). x)

known_test : (a b : Bool) → ∥ a ≡ b ∥₁ → a ≡ b
known_test a b h = ∥∥₁_elim h (Bool-set a b) (λ (x : a ≡ b). x)

known_script : (a b : Option Script) → ∥ a ≡ b ∥₁ → a ≡ b
known_script a b h = ∥∥₁_elim h (Coded-set scripts_coded a b) (λ (x : a ≡ b). x)

known_ask : (a b : Option Ask) → ∥ a ≡ b ∥₁ → a ≡ b
known_ask a b h = ∥∥₁_elim h (Coded-set asks_coded a b) (λ (x : a ≡ b). x)

known_access : (a b : Option Access) → ∥ a ≡ b ∥₁ → a ≡ b
known_access a b h = ∥∥₁_elim h (Coded-set accesses_coded a b) (λ (x : a ≡ b). x)

-- ---- entries, calls, runs

-- whether what was found takes the value
takes_it : Val → Result Ty NoEntry → Bool
takes_it v (Ok takes) = has_type v takes
takes_it v (Err missing) = false

module _ (book : Contracts) (t : Transfer) where
  enters_it : Enters book t → takes_it t.param (entry_of book t.dest t.entry) ≡ true
  unfolding takes_it
  enters_it h = ap (takes_it t.param) h.entry ∙ h.typed

  it_enters : (r : Result Ty NoEntry) → entry_of book t.dest t.entry ≡ r → takes_it t.param r ≡ true → Enters book t
  unfolding takes_it
  it_enters (Ok takes) is typed = record { takes = takes; entry = is; typed = typed }
  it_enters (Err missing) is typed = absurd cc

  known_enters : ∥ Enters book t ∥₁ → Enters book t
  known_enters h = it_enters (entry_of book t.dest t.entry) refl (known_test _ _ (∥∥₁_map h (λ (x : Enters book t). enters_it x)))

  known_calls : (s : Script) → ∥ Calls book t s ∥₁ → Calls book t s
  known_calls s h = record {
    contract = known_script _ _ (∥∥₁_map h (λ (x : Calls book t s). x.contract));
    typed = known_test _ _ (∥∥₁_map h (λ (x : Calls book t s). x.typed));
  }

module _ (book : Contracts) (c : Code) where
  known_runs : (q : Option Ask) → ∥ Runs book c q ∥₁ → Runs book c q
  known_runs q h = record {
    contract = known_script _ _ (∥∥₁_map h (λ (x : Runs book c q). x.contract));
    awaits = known_ask _ _ (∥∥₁_map h (λ (x : Runs book c q). x.awaits));
  }

  -- the access that answers what is asked
  reading : Option Ask → Option Access
  reading q = option_and_then (access_for c.dest) q

  looks_at : (a : Access) → Looks book c a → reading (awaits c.machine) ≡ Some a
  unfolding reading
  looks_at a h = ap (option_and_then (access_for c.dest)) h.runs.awaits ∙ h.reads

  it_looks : (a : Access) (q : Option Ask) → awaits c.machine ≡ q → reading q ≡ Some a → get book c.dest ≡ Some c.code.now.script → Looks book c a
  unfolding reading
  it_looks a None is reads contract = absurd cc
  it_looks a (Some q) is reads contract = record { ask = q; runs = record { contract = contract; awaits = is }; reads = reads }

  known_looks : (a : Access) → ∥ Looks book c a ∥₁ → Looks book c a
  known_looks a h =
      it_looks a (awaits c.machine) refl (known_access _ _ (∥∥₁_map h (λ (x : Looks book c a). looks_at a x)))
      (known_script _ _ (∥∥₁_map h (λ (x : Looks book c a). x.runs.contract)))

-- whether an access is a write
is_write : Access → Bool
is_write (access.Write c v) = true
is_write _ = false

writes_it : (a : Access) → IsWrite a → is_write a ≡ true
unfolding is_write
writes_it a h = ap is_write h.writes

it_writes : (a : Access) → is_write a ≡ true → IsWrite a
unfolding is_write
it_writes (access.Write c v) h = record { place = c; held = v; writes = refl }
it_writes (access.Read c) h = absurd cc
it_writes (access.Credit address n) h = absurd cc
it_writes (access.Debit address n) h = absurd cc

known_write : (a : Access) → ∥ IsWrite a ∥₁ → IsWrite a
known_write a h = it_writes a (known_test _ _ (∥∥₁_map h (λ (x : IsWrite a). writes_it a x)))

-- ---- phases

module _ (book : Contracts) (f : ℕ) where
  known_access_is : (a b : Access) → ∥ a ≡ b ∥₁ → a ≡ b
  known_access_is a b h = let same : Some a ≡ Some b = known_access (Some a) (Some b) (∥∥₁_map h (λ (x : a ≡ b). ap (λ (y : Access). Some y) x)) in cc

  known_then : (a : Access) (next : Then) → ∥ SoundThen book f a next ∥₁ → SoundThen book f a next
  known_then a (then.Debited t) h = (
    known_enters book t (∥∥₁_map h (λ (x : SoundThen book f a (then.Debited t)). x.0)),
    known_access_is _ _ (∥∥₁_map h (λ (x : SoundThen book f a (then.Debited t)). x.1)),
    known_number _ _ (∥∥₁_map h (λ (x : SoundThen book f a (then.Debited t)). x.2)),
  )
  known_then a (then.Credited t) h = (
    known_enters book t (∥∥₁_map h (λ (x : SoundThen book f a (then.Credited t)). x.0)),
    known_access_is _ _ (∥∥₁_map h (λ (x : SoundThen book f a (then.Credited t)). x.1)),
    known_number _ _ (∥∥₁_map h (λ (x : SoundThen book f a (then.Credited t)). x.2)),
  )
  known_then a (then.Stored t code) h = (
    known_calls book t code.now.script (∥∥₁_map h (λ (x : SoundThen book f a (then.Stored t code)). x.0)),
    known_access_is _ _ (∥∥₁_map h (λ (x : SoundThen book f a (then.Stored t code)). x.1)),
    known_number _ _ (∥∥₁_map h (λ (x : SoundThen book f a (then.Stored t code)). x.2)),
  )
  known_then a (then.Looked c) h = (
    known_looks book c a (∥∥₁_map h (λ (x : SoundThen book f a (then.Looked c)). x.0)),
    known_number _ _ (∥∥₁_map h (λ (x : SoundThen book f a (then.Looked c)). x.1)),
  )
  known_then a (then.Written dest changes) h = (
    known_write a (∥∥₁_map h (λ (x : SoundThen book f a (then.Written dest changes)). x.0)),
    known_number _ _ (∥∥₁_map h (λ (x : SoundThen book f a (then.Written dest changes)). x.1)),
  )

  module _ (charged : ℕ) where
    abbrev In : Phase → Type 0
    In = SoundIn book f charged

    known_in : (p : Phase) → ∥ In p ∥₁ → In p
    known_in phase.Ready h = known_number _ _ h
    known_in (phase.Entering t) h = known_number _ _ h
    known_in (phase.Paying t) h = (
      known_enters book t (∥∥₁_map h (λ (x : In (phase.Paying t)). x.0)),
      known_number _ _ (∥∥₁_map h (λ (x : In (phase.Paying t)). x.1)),
    )
    known_in (phase.Crediting t) h = (
      known_enters book t (∥∥₁_map h (λ (x : In (phase.Crediting t)). x.0)),
      known_number _ _ (∥∥₁_map h (λ (x : In (phase.Crediting t)). x.1)),
    )
    known_in (phase.Calling t) h = (
      known_enters book t (∥∥₁_map h (λ (x : In (phase.Calling t)). x.0)),
      known_number _ _ (∥∥₁_map h (λ (x : In (phase.Calling t)). x.1)),
    )
    known_in (phase.Starting t code stored) h = (
      known_calls book t code.now.script (∥∥₁_map h (λ (x : In (phase.Starting t code stored)). x.0)),
      known_test _ _ (∥∥₁_map h (λ (x : In (phase.Starting t code stored)). x.1)),
      known_number _ _ (∥∥₁_map h (λ (x : In (phase.Starting t code stored)). x.2)),
    )
    known_in (phase.Running c) h = (
      known_runs book c None (∥∥₁_map h (λ (x : In (phase.Running c)). x.0)),
      known_number _ _ (∥∥₁_map h (λ (x : In (phase.Running c)). x.1)),
    )
    known_in (phase.Storing dest v changes) h = known_number _ _ h
    known_in (phase.Writing dest changes) h = known_number _ _ h
    known_in (phase.Waiting a next) h = known_then a next h
    known_in (phase.Over receipt) h = (
      λ none. known_number _ _ (∥∥₁_map h (λ (x : In (phase.Over receipt)). x.0 none)),
      known_number _ _ (∥∥₁_map h (λ (x : In (phase.Over receipt)). x.1)),
    )
    known_in phase.Spent h = tt

-- ---- a run

spent_or : (p : Phase) → (p ≡ phase.Spent) ⊎ (p ≢ phase.Spent)
spent_or phase.Spent = inl refl
spent_or _ = inr (λ is. cc)

-- what a run keeps tells of its phase
pub kept_sound : (s : State) → ∥ Keeps s ∥₁ → Sound s
kept_sound s kept =
    elim (spent_or s.phase) [
      | inl spent ↦ subst (λ (p : Phase). SoundAt s p) (sym spent) tt
      | inr lives ↦ known_in s.book.now (flight_of s.log) (charged s) s.phase (∥∥₁_map kept (λ (keeps : Keeps s). (keeps lives).sound))
    ]
