-- Plain is settled and sound.
use Rattle.std.proofs.Common.{ap, sym, ◌∙◌}
use Rattle.std.specs.Prelude.{◌&&◌}
use Rattle.value_core.specs.Sound.{is_sound}
use Rattle.value_core.proofs.SettledLemmas.{plain-and}
use Rattle.value_core.proofs.plainness.is_plain.Goals as goal

pub returns-then-is_settled : goal.returns-then-is_settled
returns-then-is_settled c =
    c.is_sound.ensures ∙ ap (λ b. b && is_sound c.args.v.now) (sym (sym c.is_settled.ensures ∙ c.if-is_settled.true)) ∙ plain-and c.args.v.now

pub returns-else-is_settled : goal.returns-else-is_settled
returns-else-is_settled c =
    c.if-is_settled.false ∙ ap (λ b. b && is_sound c.args.v.now) (sym (sym c.is_settled.ensures ∙ c.if-is_settled.false)) ∙ plain-and c.args.v.now
