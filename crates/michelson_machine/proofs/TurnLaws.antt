-- What a turn says after an answer.
use Rattle.std.proofs.Common.{◌≡◌, List, Option, Result, Ok, Err, IfOk, refl, sym, ap, subst}
use Rattle.value_core.specs.declared.val.Val.{Val}
use Rattle.michelson_code.specs.declared.why.Why.{Why}
use Rattle.michelson_rules.specs.World.{World}
use Rattle.michelson_rules.specs.Metered.{NeverMisses, Outcome}
use Rattle.michelson_machine.specs.declared.end.End.TheVariants as end
use Rattle.michelson_machine.specs.declared.end.Turn.{Turn}
use Rattle.michelson_machine.specs.declared.look.Look.{Look}
use Rattle.michelson_machine.specs.declared.machine.Machine.{Machine}
use Rattle.michelson_machine.specs.declared.machine.Phase.TheVariants as phase
use Rattle.michelson_machine.specs.declared.state.State.{State}
use Rattle.michelson_machine.specs.declared.state.Step.{Step}
use Rattle.michelson_machine.specs.declared.state.Step.TheVariants as step
use Rattle.michelson_machine.specs.Ends.{IsEnd}
use Rattle.michelson_machine.specs.Outcomes.{Turns, come_of, outcome}
use Rattle.michelson_machine.specs.Resume.{answer_does, first, outcome_at}
use Rattle.michelson_machine.specs.Steps.{Foretells}

module _ (m : Machine) (look : Look) (v : Option Val) (answered : State) (s : Step) where
  -- an answer was told, and this step came of it
  abbrev pub Answers : Type 0
  Answers = (w : World) → NeverMisses (first w (answer_does look v) m.state) → Foretells w s (first w (answer_does look v) m.state) answered

  -- in the words of what comes of the machine
  tells : phase.Told look v ≡ m.phase → Answers → (w : World) → NeverMisses (outcome w m) → Foretells w s (outcome w m) answered
  tells told answers w never =
      let whole : first w (answer_does look v) m.state ≡ outcome w m = ap (come_of w m.state) told in
      let P : Outcome (List Val) → Type 0 = λ o. Foretells w s o answered in
      subst P whole (answers w (subst NeverMisses (sym whole) never))

-- the run goes on after the answer
pub told_on : {E : Type 0} (m new : Machine) (look : Look) (v : Option Val) (answered stopped : State) (s t : Step) (r : Result Turn E) →
    phase.Told look v ≡ m.phase → Answers m look v answered s → s ≡ step.On →
    ((w : World) → NeverMisses (outcome_at w answered) → Foretells w t (outcome_at w answered) stopped) →
    IfOk r (λ turn. (w : World) (before : Outcome (List Val)) → Foretells w t before stopped → Turns w turn before new) →
    IfOk r (λ turn. (w : World) → NeverMisses (outcome w m) → Turns w turn (outcome w m) new)
told_on m new look v answered stopped s t (Err e) told answers on runs turns = tt
told_on m new look v answered stopped s t (Ok turn) told answers on runs turns = λ w never.
    let At : Step → Type 0 = λ a. Foretells w a (outcome w m) answered in
    let same : outcome w m ≡ outcome_at w answered = subst At on (tells m look v answered s told answers w never) in
    let P : Outcome (List Val) → Type 0 = λ o. Turns w turn o new in
    subst P (sym same) (turns w (outcome_at w answered) (runs w (subst NeverMisses same never)))

-- or it fails
pub told_fails : (m : Machine) (look : Look) (v : Option Val) (answered : State) (s : Step) (y : Why) →
    phase.Told look v ≡ m.phase → Answers m look v answered s → s ≡ step.Fail y →
    (w : World) → NeverMisses (outcome w m) → IsEnd (outcome w m) (end.Fail y answered.left)
told_fails m look v answered s y told answers fails w never =
    let At : Step → Type 0 = λ a. Foretells w a (outcome w m) answered in
    let P : Outcome (List Val) → Type 0 = λ o. IsEnd o (end.Fail y answered.left) in
    subst P (sym (subst At fails (tells m look v answered s told answers w never))) (refl, refl)
