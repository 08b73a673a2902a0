-- A reply that is noted leaves what comes of a run, on the cells that the access leaves.
use Rattle.std.proofs.Common.{◌≡◌, Some, None, [], ◌∷◌, ◌++◌, sym, ap, subst, ◌∙◌}
use Rattle.cell_names.specs.declared.access.Access.{Access}
use Rattle.cell_names.specs.declared.access.Reply.{Reply}
use Rattle.cell_names.specs.Contents.{Contents}
use Rattle.cell_names.specs.Effects.{after, reply_to}
use Rattle.op_rules.specs.Course.{Past}
use Rattle.op_rules.specs.Replies.{flight_of}
use Rattle.op_run.specs.declared.phase.Phase.{Phase}
use Rattle.op_run.specs.declared.phase.Phase.TheVariants as phase
use Rattle.op_run.specs.declared.phase.Then.{Then}
use Rattle.op_run.specs.declared.state.State.{State}
use Rattle.op_run.specs.Resumed.{ResumedSafe, ResumedSame, ResumedSound, goes_with}
use Rattle.op_run.specs.Safe.{SafeAt}
use Rattle.op_run.specs.Sound.{SoundIn, charged}
use Rattle.op_run.specs.States.{Stays, awaited, awaited_in, goes_from, outcome_at, outcome_of}
use Rattle.op_run.specs.Turns.{Replied, RepliedTo}
use Rattle.op_run.proofs.Following.{flight_of-push}

module _ (s mid : State) (a : Access) (next : Then) (r : Reply) (l : Past) (waits : s.phase ≡ phase.Waiting a next) (stays : Stays s mid) (noted : l ≡ s.log ++ (a, r) ∷ []) where
  abbrev new : State
  new = record mid { log = l }

  reply_same : ResumedSame s a next r mid → (m : Contents) → reply_to a m ≡ r → outcome_of s m ≡ outcome_of new (after a m)
  reply_same same m gives =
      ap (λ (p : Phase). outcome_at s p m) waits
      ∙ ap (λ (x : Reply). goes_with s a next x (after a m) (record { left = s.left; past = s.log ++ (a, x) ∷ [] })) gives
      ∙ same (after a m) (s.log ++ (a, r) ∷ [])
      ∙ ap (λ (past : Past). goes_from mid mid.phase (after a m) (record { left = mid.left; past = past })) (sym noted)

  pub replied : awaited mid ≡ None → ResumedSound s a r mid → ResumedSame s a next r mid → ResumedSafe s a next r mid → RepliedTo a s r new
  replied free sound same safe = record {
    book = stays.book;
    head = stays.head;
    op = stays.op;
    log = noted;
    free = free;
    sound = subst (λ f. SoundIn mid.book.now f (charged mid) mid.phase) (sym (flight_of-push s.log a r) ∙ ap flight_of (sym noted)) sound;
    same = reply_same same;
    safe = λ m gives is_safe.
        let here = safe m gives (subst (λ (p : Phase). SafeAt s p m) waits is_safe) in record { now = here.now; pending = here.pending };
  }

  -- whichever access is said to be waited for
  pub replied_any : RepliedTo a s r new → Replied s r new
  replied_any h b waits_for =
      let same : Some a ≡ Some b = sym (ap awaited_in waits) ∙ waits_for in
      let is : a ≡ b = cc in
      subst (λ (x : Access). RepliedTo x s r new) is h
