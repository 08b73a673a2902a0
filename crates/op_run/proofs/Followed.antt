-- A step and a reply keep that a run follows the operation; and what it follows is what it promises.
use Rattle.std.proofs.Common.{◌≡◌, ℕ, ◌-◌, true, Option, Some, None, List, [], ◌∷◌, ◌++◌, refl, sym, ap, subst, ◌∙◌}
use Rattle.std.specs.FinMap.{contains_key}
use Rattle.michelson_code.specs.declared.why.Why.{Why}
use Rattle.cell_names.specs.declared.access.Access.{Access}
use Rattle.cell_names.specs.declared.access.Access.TheVariants as access
use Rattle.cell_names.specs.declared.access.Reply.{Reply}
use Rattle.cell_names.specs.declared.cell.Cell.TheVariants as cell
use Rattle.cell_names.specs.declared.head.Head.{Head}
use Rattle.cell_names.specs.Conditions.{IsCovered}
use Rattle.cell_names.specs.Contents.{Contents}
use Rattle.cell_names.specs.Effects.{reply_to}
use Rattle.code_book.specs.Books.{Contracts}
use Rattle.code_book.specs.Fits.{fits_access}
use Rattle.op_rules.specs.declared.op.Op.{Op}
use Rattle.op_rules.specs.declared.receipt.Receipt.{Receipt}
use Rattle.op_rules.specs.Course.{Course, Past, Serial}
use Rattle.op_rules.specs.Replies.{after_all, flight_of}
use Rattle.op_rules.specs.Serial.{receipt_of, serial}
use Rattle.op_rules.proofs.Growing.{Extends, begins_with}
use Rattle.op_run.specs.declared.phase.Phase.{Phase}
use Rattle.op_run.specs.declared.phase.Phase.TheVariants as phase
use Rattle.op_run.specs.declared.phase.Then.{Then}
use Rattle.op_run.specs.declared.state.State.{State}
use Rattle.op_run.specs.Phases.{ending}
use Rattle.op_run.specs.States.{Stays, awaited, awaited_in, course_of, outcome_at, outcome_of}
use Rattle.op_run.specs.Sound.{Sound, SoundAt, SoundThen}
use Rattle.op_run.specs.Safe.{Safe, SafeAt}
use Rattle.op_run.specs.Steps.{GoesOn, StaysSafe}
use Rattle.op_run.specs.Follows.{Follows, FollowsFrom, IsBegun, IsNext, IsWhole, OnCells}
use Rattle.op_run.specs.Turns.{RepliedTo}
use Rattle.op_run.proofs.Asking.{asks_covered, asks_fit, asks_next, asks_stored}
use Rattle.op_run.proofs.Following.{after_all-push, gives-push, lawful_push}

-- seen with other names for the same
moved : (p : State) (book book' : Contracts) (head head' : Head) (op op' : Op) (past past' : Past) → book' ≡ book → head' ≡ head → op' ≡ op → past' ≡ past →
    FollowsFrom book head op past p → FollowsFrom book' head' op' past' p
moved p book book' head head' op op' past past' b h o l f =
    subst (λ (x : Contracts × Head × Op × Past). FollowsFrom x.0 x.1 x.2 x.3 p) (λ i. (sym b i, sym h i, sym o i, sym l i)) f

-- ---- the beginning

pub follows_begun : (book : Contracts) (head : Head) (op : Op) (s : State) → IsBegun book head op s → Sound s → ((m : Contents) → Safe s m) →
    ((m : Contents) → serial book head op m ≡ outcome_of s m) → Follows s
follows_begun book head op s begun sound safe same =
    moved s book s.book.now head s.head op s.op.now [] s.log begun.book begun.head begun.op begun.log
    (record { sound = sound; lawful = λ m lawful gives. lawful; same = λ m lawful gives. same m; safe = λ m lawful gives. safe m })

-- ---- a step

pub follows_step : (s p : State) → Stays s p → Sound p → GoesOn s s.phase p → StaysSafe s s.phase p → Follows s → Follows p
follows_step s p stays sound same safe h =
    moved p s.book.now p.book.now s.head p.head s.op.now p.op.now s.log p.log stays.book stays.head stays.op stays.log
    (record {
      sound = sound;
      lawful = h.lawful;
      same = λ m lawful gives. h.same m lawful gives ∙ same (after_all s.log m) (h.lawful m lawful gives).values (h.safe m lawful gives);
      safe = λ m lawful gives. safe (after_all s.log m) (h.lawful m lawful gives).values (h.safe m lawful gives);
    })

-- ---- a reply

pub waiting : (p : Phase) (a : Access) → awaited_in p ≡ Some a → (next : Then) × (p ≡ phase.Waiting a next)
waiting (phase.Waiting b next) a e = let is : b ≡ a = cc in (next, ap (λ (x : Access). phase.Waiting x next) is)
waiting phase.Ready a e = absurd cc
waiting (phase.Entering t) a e = absurd cc
waiting (phase.Paying t) a e = absurd cc
waiting (phase.Crediting t) a e = absurd cc
waiting (phase.Calling t) a e = absurd cc
waiting (phase.Starting t code stored) a e = absurd cc
waiting (phase.Running c) a e = absurd cc
waiting (phase.Storing dest v changes) a e = absurd cc
waiting (phase.Writing dest changes) a e = absurd cc
waiting (phase.Over receipt) a e = absurd cc
waiting phase.Spent a e = absurd cc

module _ (s : State) (a : Access) (waits : awaited s ≡ Some a) where
  abbrev then_of : Then
  then_of = (waiting s.phase a waits).0

  sound_then : Sound s → SoundThen s.book.now (flight_of s.log) a then_of
  sound_then sound = subst (SoundAt s) (waiting s.phase a waits).1 sound

  pub is_covered : Sound s → IsCovered (flight_of s.log) a
  is_covered sound = asks_covered s.book.now (flight_of s.log) a then_of (sound_then sound)

  pub is_stored : Sound s → (contract : List ℕ) → a ≡ access.Read (cell.Storage contract) → contains_key s.book.now contract ≡ true
  is_stored sound = asks_stored s.book.now (flight_of s.log) a then_of (sound_then sound)

module _ (s : State) (a : Access) (h : Follows s) (waits : awaited s ≡ Some a) where
  pub is_fit : OnCells s.book.now s.log (λ m. fits_access s.book.now a ≡ true)
  is_fit m lawful gives =
      let now = after_all s.log m in
      let next = (waiting s.phase a waits).0 in
      let safe : SafeAt s (phase.Waiting a next) now = subst (λ (p : Phase). SafeAt s p now) (waiting s.phase a waits).1 (h.safe m lawful gives) in
      asks_fit s.book.now (flight_of s.log) a next now (sound_then s a waits h.sound) safe.now

  -- the access is the operation's next
  pub is_next : OnCells s.book.now s.log (IsNext s.book.now s.head s.op.now s.log a)
  is_next m lawful gives =
      let now = after_all s.log m in
      let next = (waiting s.phase a waits).0 in
      let comes : serial s.book.now s.head s.op.now m ≡ outcome_at s (phase.Waiting a next) now =
      h.same m lawful gives ∙ ap (λ (p : Phase). outcome_at s p now) (waiting s.phase a waits).1 in
      record {
        begins =
            begins_with (s.log ++ (a, reply_to a now) ∷ []) (serial s.book.now s.head s.op.now m).course.past
            (subst (λ (x : Serial). Extends (s.log ++ (a, reply_to a now) ∷ []) x.course.past) (sym comes)
            (asks_next s.book.now s.head s.op.now.source s.calls s.pending a next now (course_of s)));
        fits = is_fit m lawful gives;
      }

  pub follows_reply : (r : Reply) (p : State) → RepliedTo a s r p → Follows p
  follows_reply r p k =
      moved p s.book.now p.book.now s.head p.head s.op.now p.op.now (s.log ++ (a, r) ∷ []) p.log k.book k.head k.op k.log
      (record {
        sound = k.sound;
        lawful = λ m lawful gives.
            let g = gives-push s.log a r m gives in
            lawful_push s.book.now s.log a r m (h.lawful m lawful g.0) g.1 (is_fit m lawful g.0) (is_covered s a waits h.sound);
        same = λ m lawful gives.
            let g = gives-push s.log a r m gives in
            h.same m lawful g.0 ∙ k.same (after_all s.log m) g.1 ∙ ap (outcome_of p) (sym (after_all-push s.log a r m));
        safe = λ m lawful gives.
            let g = gives-push s.log a r m gives in
            subst (Safe p) (sym (after_all-push s.log a r m)) (k.safe (after_all s.log m) g.1 (h.safe m lawful g.0));
      })

-- ---- the end

ended : (end : Option Why) (op : Op) (course : Course) (receipt : Receipt) (m : Contents) → receipt.end ≡ end → receipt.gas ≡ op.gas - course.left.gas →
    ((ending end m course).course.past ≡ course.past) × (receipt_of op (ending end m course) ≡ receipt)
ended None op course receipt m end gas = (refl, λ i. record { end = sym end i; gas = sym gas i })
ended (Some y) op course receipt m end gas = (refl, λ i. record { end = sym end i; gas = sym gas i })

-- all accesses and the receipt are the operation's
pub is_whole : (s : State) (receipt : Receipt) → s.phase ≡ phase.Over receipt → Follows s → OnCells s.book.now s.log (IsWhole s.book.now s.head s.op.now s.log receipt)
is_whole s receipt over h m lawful gives =
    let now = after_all s.log m in
    let comes : serial s.book.now s.head s.op.now m ≡ outcome_at s (phase.Over receipt) now =
    h.same m lawful gives ∙ ap (λ (p : Phase). outcome_at s p now) over in
    let sound : SoundAt s (phase.Over receipt) = subst (SoundAt s) over h.sound in
    let e = ended receipt.end s.op.now (course_of s) receipt now refl sound.1 in
    record {
      accesses = ap (λ (x : Serial). x.course.past) comes ∙ e.0;
      ending = ap (λ (x : Serial). receipt_of s.op.now x) comes ∙ e.1;
    }

pub is_settled : (s : State) (receipt : Receipt) → s.phase ≡ phase.Over receipt → Sound s → receipt.end ≡ None → flight_of s.log ≡ 0
is_settled s receipt over known applied = let sound : SoundAt s (phase.Over receipt) = subst (SoundAt s) over known in sound.0 applied
