-- What a step says, carried over from what another one says.
use Rattle.std.proofs.Common.{◌≡◌, ℕ, ◌≤◌, false, nat_lt, if◌then◌else◌, Result, Ok, Err, sym, subst, ap, ◌∙◌, arith}
use Rattle.value_core.specs.declared.val.Val.{Val}
use Rattle.std.specs.Prelude.{List}
use Rattle.std.proofs.lemmas.Bool.Decides.{nat_tests}
use Rattle.michelson_code.specs.declared.instr.Instr.{Instr}
use Rattle.michelson_code.specs.declared.instr.Instr.TheOpen.{Instr-F}
use Rattle.michelson_code.specs.declared.instr.Instr.TheViews.{out-Instr}
use Rattle.michelson_code.specs.declared.why.Why.TheVariants as why
use Rattle.michelson_rules.specs.declared.ask.Budget.{Budget}
use Rattle.michelson_rules.specs.Runs.{Beside, Failed, Run, Take, marked, prefixed, then_do}
use Rattle.michelson_rules.specs.Rules.{charges, rule}
use Rattle.michelson_rules.specs.World.{World}
use Rattle.michelson_rules.specs.Bodies.{Meaning}
use Rattle.michelson_rules.specs.Metered.{Ended, NeverMisses, Outcome, less_gas, less_room, outcome_of}
use Rattle.michelson_code.specs.Forms.{cost_of}
use Rattle.michelson_machine.proofs.CostLaws.{rule_is}
use Rattle.michelson_machine.specs.declared.state.State.{State}
use Rattle.michelson_machine.specs.declared.state.Step.{Step}
use Rattle.michelson_machine.specs.Resume.{beside_of, first, resumed}
use Rattle.michelson_machine.specs.Steps.{Enacts, Foretells, act_at, acted}

-- what comes is the same from another state on, with something else to do first
pub enacts_by : {E : Type 0} (f g : World → Meaning) (old middle new : State) (r : Result Step E) →
    ((w : World) → NeverMisses (first w (f w) old) → first w (f w) old ≡ first w (g w) middle) → Enacts g middle new r → Enacts f old new r
enacts_by f g old middle new (Err e) same goes = tt
enacts_by f g old middle new (Ok s) same goes = λ w never.
    let e : first w (f w) old ≡ first w (g w) middle = same w never in
    let P : Outcome (List Val) → Type 0 = λ o. Foretells w s o new in
    subst P (sym e) (goes w (subst NeverMisses e never))

-- an instruction does what its one level does
pub acted_by : {E : Type 0} (m : State) (i : Instr) (x : Instr-F Instr) (new : State) (r : Result Step E) →
    out-Instr i ≡ x → Enacts (λ w. act_at m w x) m new r → Enacts (λ w. acted m w i) m new r
acted_by {E} m i x new r e goes =
    let P : Instr-F Instr → Type 0 = λ y. Enacts (λ w. act_at m w y) m new r in
    subst P (sym e) goes

-- room that there is, is taken
taken_is : (n : ℕ) (r : Run (List Val)) (left : Budget) (k : List Val → Beside → Run (List Val)) → n ≤ left.room →
    outcome_of left (then_do (marked (Take n) r) k) ≡ outcome_of (less_room left n) (then_do r k)
taken_is n r left k le =
    let enough : nat_lt left.room n ≡ false = grind (arith, nat_tests) in
    ap (λ b. if b then Ended (Failed why.TooMuchData) left else outcome_of (less_room left n) (then_do r k)) enough

-- what is done after room is taken
pub paid_is : (w : World) (n : ℕ) (g : Meaning) (old paid : State) → n ≤ old.left.room → paid ≡ record old { left = less_room old.left n } →
    first w (λ s b. marked (Take n) (g s b)) old ≡ first w g paid
paid_is w n g old paid le e =
    taken_is n (g old.stack (beside_of old)) old.left (resumed old.script.now old.env w old.frames) le ∙ ap (first w g) (sym e)

-- gas that there is, is charged
charged_is : (n : ℕ) (r : Run (List Val)) (left : Budget) (k : List Val → Beside → Run (List Val)) → n ≤ left.gas →
    outcome_of left (then_do (prefixed (charges n) r) k) ≡ outcome_of (less_gas left n) (then_do r k)
charged_is n r left k le =
    let enough : nat_lt left.gas n ≡ false = grind (arith, nat_tests) in
    ap (λ b. if b then Ended (Failed why.OutOfGas) left else outcome_of (less_gas left n) (then_do r k)) enough

-- an instruction after its cost
pub charged_first : (w : World) (m : State) (i : Instr) (n : ℕ) → n ≡ cost_of i → n ≤ m.left.gas →
    first w (rule charges m.script.now m.env w i) m ≡ first w (acted m w i) (record m { left = less_gas m.left n })
charged_first w m i n e le =
    let k : List Val → Beside → Run (List Val) = resumed m.script.now m.env w m.frames in
    let does : Run (List Val) = acted m w i m.stack (beside_of m) in
    ap (λ r. outcome_of m.left (then_do r k)) (rule_is m.script.now m.env w i m.stack (beside_of m))
    ∙ ap (λ c. outcome_of m.left (then_do (prefixed (charges c) does) k)) (sym e)
    ∙ charged_is n does m.left k le
