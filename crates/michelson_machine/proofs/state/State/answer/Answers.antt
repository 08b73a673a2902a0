use Rattle.std.proofs.Common.{◌∷◌, Some, ap, sym, ◌∙◌}
use Rattle.value_core.specs.declared.val.Val.{Val}
use Rattle.michelson_rules.specs.BigMaps.{room_of}
use Rattle.michelson_rules.specs.Collections.{option}
use Rattle.michelson_rules.specs.Bodies.{Meaning}
use Rattle.michelson_machine.specs.Resume.{answer_does, changing, first}
use Rattle.michelson_machine.specs.Steps.{above, ends_on}
use Rattle.michelson_machine.proofs.StepLaws.{enacts_by, paid_is}
use Rattle.michelson_machine.proofs.state.State.answer.Goals as goal

pub returns-in-Get-clause-same : goal.returns-in-Get-clause-same
returns-in-Get-clause-same c =
    let tells : Meaning = λ stack. ends_on (option c.args.v ∷ stack) in
    enacts_by (λ w. answer_does c.args.look c.args.v) (λ w. tells) c.args.self.now c.pay-in-Get.new.self c.tell.new.self c.tell.result
    (λ w never. ap (λ l. first w (answer_does l c.args.v) c.args.self.now) c.in-Get.is
    ∙ paid_is w (room_of c.in-Get.key c.args.v) tells c.args.self.now c.pay-in-Get.new.self c.if-not-pay-2.ensures.0 c.if-not-pay-2.ensures.1) c.tell.ensures.same

pub returns-in-Change-clause-same : goal.returns-in-Change-clause-same
returns-in-Change-clause-same c =
    let changes : Val → Meaning = λ old stack. changing c.in-Change.change (above (Some old) stack) stack in
    enacts_by (λ w. answer_does c.args.look c.args.v) (λ w. changes c.in_ok-old-in-Change.old) c.args.self.now c.pay-in-Change.new.self c.change.new.self c.change.result
    (λ w never. ap (λ l. first w (answer_does l c.args.v) c.args.self.now) c.in-Change.is
    ∙ paid_is w (room_of c.in-Change.change.key c.args.v) (changes (option c.args.v)) c.args.self.now c.pay-in-Change.new.self c.if-not-pay-3.ensures.0 c.if-not-pay-3.ensures.1
    ∙ ap (λ old. first w (changes old) c.pay-in-Change.new.self) (sym c.in_ok-old-in-Change.ensures)) c.change.ensures.same
