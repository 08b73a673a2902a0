-- A run that keeps following its operation promises what it asks and how it ended; its calls keep that it follows.
use Rattle.std.proofs.Common.{◌≡◌, Option, Some, None, refl, sym, ap, ◌∙◌}
use Rattle.std.specs.Prelude.{Result, Ok, Err, IfOk, IsSome, OnErr, OnOk}
use Rattle.std.specs.Coded.{Coded, Coded-set, codes}
use Rattle.std.proofs.Math.Bool.{Bool-set}
use Rattle.std.proofs.Math.Logic.{∥∥₁_elim, ∥∥₁_map}
use Rattle.value_core.specs.contracts.val.Val as val
use Rattle.cell_names.specs.declared.access.Access.{Access}
use Rattle.cell_names.specs.declared.access.Reply.{Reply}
use Rattle.cell_names.specs.contracts.access.Access as access
use Rattle.cell_names.specs.contracts.access.Reply as reply
use Rattle.op_rules.specs.declared.receipt.Receipt.{Receipt}
use Rattle.op_rules.specs.contracts.receipt.Receipt as receipt
use Rattle.op_rules.specs.Course.{Past}
use Rattle.op_run.specs.declared.advance.Next.{Next}
use Rattle.op_run.specs.declared.advance.Next.TheVariants as next
use Rattle.op_run.specs.declared.phase.Phase.TheVariants as phase
use Rattle.op_run.specs.declared.state.State.{State}
use Rattle.op_run.specs.Follows.{IsSpent, Keeps, receipt_in}
use Rattle.op_run.specs.Promise.{Asks, IsDoneBy, PromisesIn}
use Rattle.op_run.specs.Sound.{Sound}
use Rattle.op_run.specs.States.{Stays, awaited, awaited_in}
use Rattle.op_run.specs.Steps.{GoesOn, StaysSafe}
use Rattle.op_run.specs.Turns.{Replied, Stops}
use Rattle.op_run.proofs.Followed.{follows_reply, follows_step, is_covered, is_next, is_settled, is_stored, is_whole}
use Rattle.op_run.proofs.Kept.{kept_sound}

-- ---- equations

pasts_coded : Coded Past
pasts_coded = hlevel (codes, val.the_row.coded, access.the_row.coded, reply.the_row.coded)

receipts_coded : Coded Receipt
receipts_coded = hlevel (codes, receipt.the_row.coded)

-- ---- runs that have memory

pub awaits_lives : (s : State) (a : Access) → awaited s ≡ Some a → ¬ IsSpent s
awaits_lives s a waits spent = let is : None ≡ Some a = sym (ap awaited_in spent) ∙ waits in cc

over_lives : (s : State) (r : Receipt) → s.phase ≡ phase.Over r → ¬ IsSpent s
over_lives s r over spent = let is : phase.Over r ≡ phase.Spent = sym over ∙ spent in cc

-- ---- promises

module _ (s : State) (kept : ∥ Keeps s ∥₁) where
  promises_access : (a : Access) → awaited s ≡ Some a → Asks s a
  promises_access a waits =
      let follows = λ (keeps : Keeps s). keeps (awaits_lives s a waits) in
      record {
        covered = is_covered s a waits (kept_sound s kept);
        stored = is_stored s a waits (kept_sound s kept);
        next = λ m lawful gives. record {
          begins = ∥∥₁_elim kept (Coded-set pasts_coded _ _) (λ (keeps : Keeps s). (is_next s a (follows keeps) waits m lawful gives).begins);
          fits = ∥∥₁_elim kept (Bool-set _ _) (λ (keeps : Keeps s). (is_next s a (follows keeps) waits m lawful gives).fits);
        };
      }

  promises_end : (r : Receipt) → s.phase ≡ phase.Over r → IsDoneBy s r
  promises_end r over =
      let follows = λ (keeps : Keeps s). keeps (over_lives s r over) in
      record {
        receipt = ap receipt_in over;
        settled = is_settled s r over (kept_sound s kept);
        whole = λ m lawful gives. record {
          accesses = ∥∥₁_elim kept (Coded-set pasts_coded _ _) (λ (keeps : Keeps s). (is_whole s r over (follows keeps) m lawful gives).accesses);
          ending = ∥∥₁_elim kept (Coded-set receipts_coded _ _) (λ (keeps : Keeps s). (is_whole s r over (follows keeps) m lawful gives).ending);
        };
      }

  promises : (n : Next) → Stops n s.phase → PromisesIn n s
  promises (next.Ask a) waits = promises_access a waits
  promises next.Done over = (over.0, promises_end over.0 over.1)

  pub promised : {E : Type 0} (r : Result Next E) → IfOk r (λ n. Stops n s.phase) → IfOk r (λ n. PromisesIn n s)
  promised (Ok n) stops = promises n stops
  promised (Err e) stops = tt

-- ---- calls

module _ {A E : Type 0} where
  -- a call that ran to the next access or to the end
  pub advanced : (r : Result A E) (old new : State) → OnOk r (Stays old new) → OnOk r (Sound new) → OnOk r (GoesOn old old.phase new) → OnOk r (StaysSafe old old.phase new) →
      OnErr r (IsSpent new) → OnOk r (¬ IsSpent old) → ∥ Keeps old ∥₁ → ∥ Keeps new ∥₁
  advanced (Ok n) old new stays sound same safe spent lives kept = ∥∥₁_map kept (λ (keeps : Keeps old). λ (_ : ¬ IsSpent new). follows_step old new stays sound same safe (keeps lives))
  advanced (Err e) old new stays sound same safe spent lives kept = ∣ (λ (has : ¬ IsSpent new). absurd (has spent)) ∣₁

  -- a call that told a reply
  pub told : (r : Result A E) (old new : State) (a : Access) (reply : Reply) → awaited old ≡ Some a → OnOk r (Replied old reply new) → OnErr r (IsSpent new) → ∥ Keeps old ∥₁ → ∥ Keeps new ∥₁
  told (Ok n) old new a reply waits replied spent kept =
      ∥∥₁_map kept (λ (keeps : Keeps old). λ (_ : ¬ IsSpent new). follows_reply old a (keeps (awaits_lives old a waits)) waits reply new (replied a waits))
  told (Err e) old new a reply waits replied spent kept = ∣ (λ (has : ¬ IsSpent new). absurd (has spent)) ∣₁

pub some_of : {A : Type 0} (o : Option A) → IsSome o → (x : A) × (o ≡ Some x)
some_of None is = absurd cc
some_of (Some x) is = (x, refl)
