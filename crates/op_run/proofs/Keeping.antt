-- What follows where a contract returns: an equal storage, or another one.
use Rattle.std.proofs.Common.{◌≡◌, ℕ, Bool, true, false, Some, List, ◌++◌, map, refl, sym, ap, subst, ◌∙◌}
use Rattle.std.proofs.Math.Logic.{∥∥₁_elim}
use Rattle.std.proofs.Props.{props}
use Rattle.std.specs.Prelude.{if◌then◌else◌}
use Rattle.std.specs.FinMap.{get}
use Rattle.std.specs.List.{AllByRecursion}
use Rattle.std.specs.Ordering.{eq_by_cmp, is_eq}
use Rattle.value_core.specs.declared.val.Val.{Val}
use Rattle.value_core.specs.BigMaps.{is_placed}
use Rattle.value_core.specs.Order.{order}
use Rattle.michelson_code.specs.declared.script.Script.{Script}
use Rattle.michelson_code.specs.declared.why.Why.TheVariants as why
use Rattle.michelson_rules.specs.Returned.{Change, Returned}
use Rattle.michelson_rules.specs.TypedScripts.{IsTypedReturn}
use Rattle.cell_names.specs.Contents.{Contents}
use Rattle.op_rules.specs.declared.transfer.Transfer.{Transfer}
use Rattle.op_rules.specs.Course.{Course, Doing, failed}
use Rattle.op_rules.specs.Operations.{sent_by}
use Rattle.op_rules.specs.SerialRule.{transfers}
use Rattle.op_rules.specs.WriteRule.{changing, returning, storing, written}
use Rattle.op_run.specs.declared.phase.Code.{Code}
use Rattle.op_run.specs.declared.phase.Phase.{Phase}
use Rattle.op_run.specs.declared.phase.Phase.TheVariants as phase
use Rattle.op_run.specs.declared.state.State.{State}
use Rattle.op_run.specs.Codes.{KeepsOn, KeepsSafe}
use Rattle.op_run.specs.Phases.{onward}
use Rattle.op_run.specs.Safe.{ChangesFit, IsMoney}
use Rattle.op_run.specs.States.{course_of}
use Rattle.op_run.proofs.CalledCodes.{changes_fit, emits_money, storage_fits}

module _ (self : List ℕ) (s : Script) (old : Val) (next : List Transfer → Doing) (r : Returned) (m : Contents) (c : Course) where
  abbrev rest : Doing
  rest = changing self r.changes (next (map (sent_by self) r.ops))

  either : (b : Bool) (d e : Doing) → (if b then d else e) m c ≡ (if b then d m c else e m c)
  either true d e = refl
  either false d e = refl

  placed : is_placed r.storage s.storage ≡ true → returning self s old next r m c ≡ storing self old r.storage rest m c
  placed e =
      either (is_placed r.storage s.storage) (storing self old r.storage rest) (failed why.BigMapMoved)
      ∙ ap (λ b. if b then storing self old r.storage rest m c else failed why.BigMapMoved m c) e

  stored : storing self old r.storage rest m c ≡ (if eq_by_cmp order old r.storage then rest m c else written self r.storage rest m c)
  stored = either (eq_by_cmp order old r.storage) rest (written self r.storage rest)

  kept_same : is_placed r.storage s.storage ≡ true → is_eq (order old r.storage) ≡ true → returning self s old next r m c ≡ rest m c
  kept_same e same = placed e ∙ stored ∙ ap (λ b. if b then rest m c else written self r.storage rest m c) same

  kept_other : is_placed r.storage s.storage ≡ true → is_eq (order old r.storage) ≡ false → returning self s old next r m c ≡ written self r.storage rest m c
  kept_other e other = placed e ∙ stored ∙ ap (λ b. if b then rest m c else written self r.storage rest m c) other

-- ---- the state that is left

module _ (s : State) (c : Code) (r : Returned) (pending : List Transfer) (changes : List Change)
    (sent : pending ≡ map (sent_by c.dest) r.ops ++ s.pending) (piled : changes ≡ r.changes) (here : is_placed r.storage c.code.now.script.storage ≡ true) where
  abbrev left_in : Phase → State
  left_in p = record s { pending = pending; phase = p }

  abbrev after_writes : List Transfer → List Change → Doing
  after_writes ts cs = changing c.dest cs (transfers s.book.now s.head s.op.now.source s.calls ts)

  now_left : after_writes (map (sent_by c.dest) r.ops ++ s.pending) r.changes ≡ after_writes pending changes
  now_left = ap (λ ts. after_writes ts r.changes) (sym sent) ∙ ap (λ cs. after_writes pending cs) (sym piled)

  pub keeps_same : (new : State) → new ≡ left_in (phase.Writing c.dest changes) → is_eq (order c.stored r.storage) ≡ true → KeepsOn s c r new
  keeps_same new is same = subst (KeepsOn s c r) (sym is) (λ m all safe.
      kept_same c.dest c.code.now.script c.stored (onward s.book.now s.head s.op.now.source s.calls s.pending) r m (course_of s) here same
      ∙ ap (λ (d : Doing). d m (course_of s)) now_left)

  pub keeps_other : (new : State) → new ≡ left_in (phase.Storing c.dest r.storage changes) → is_eq (order c.stored r.storage) ≡ false → KeepsOn s c r new
  keeps_other new is other = subst (KeepsOn s c r) (sym is) (λ m all safe.
      kept_other c.dest c.code.now.script c.stored (onward s.book.now s.head s.op.now.source s.calls s.pending) r m (course_of s) here other
      ∙ ap (λ (d : Doing). written c.dest r.storage d m (course_of s)) now_left)

  -- what waits stays money, and each change may be written
  module _ (contract : get s.book.now c.dest ≡ Some c.code.now.script) where
    all_money : AllByRecursion IsMoney s.pending → IsTypedReturn c.code.now.script r → AllByRecursion IsMoney pending
    all_money money typed = subst (AllByRecursion IsMoney) (sym sent) (emits_money c.dest r.ops s.pending typed.ops money)

    all_fit : IsTypedReturn c.code.now.script r → ChangesFit s.book.now c.dest changes
    all_fit typed = subst (ChangesFit s.book.now c.dest) (sym piled) (changes_fit s.book.now c.dest c.code.now.script contract r.changes typed.changes)

    pub keeps_same_safe : (new : State) → new ≡ left_in (phase.Writing c.dest changes) → KeepsSafe s c r new
    keeps_same_safe new is = subst (KeepsSafe s c r) (sym is) (λ m all safe. record {
      now = ∥∥₁_elim safe.now (hlevel props) all_fit;
      pending = ∥∥₁_elim safe.now (hlevel props) (all_money safe.pending);
    })

    pub keeps_other_safe : (new : State) → new ≡ left_in (phase.Storing c.dest r.storage changes) → KeepsSafe s c r new
    keeps_other_safe new is = subst (KeepsSafe s c r) (sym is) (λ m all safe. record {
      now = (∥∥₁_elim safe.now (hlevel props) (λ typed. storage_fits s.book.now c.dest c.code.now.script contract r typed here), ∥∥₁_elim safe.now (hlevel props) all_fit);
      pending = ∥∥₁_elim safe.now (hlevel props) (all_money safe.pending);
    })
