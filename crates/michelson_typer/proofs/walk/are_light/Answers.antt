use Rattle.std.proofs.Common.{◌+◌, true, subst, sym, ap, ◌∙◌}
use Rattle.std.specs.List.{list_all}
use Rattle.michelson_code.specs.FirstFault.{HasTooLarge}
use Rattle.michelson_code.specs.WrittenTypes.{is_within_limits}
use Rattle.michelson_typer.specs.declared.opening.Starts.{Starts}
use Rattle.michelson_typer.specs.FirstKinds.{RulesOut}
use Rattle.michelson_typer.specs.Opened.{starts_at, starts_of}
use Rattle.michelson_typer.specs.Tables.{types_at}
use Rattle.michelson_typer.specs.Told.{SomeStart}
use Rattle.michelson_typer.proofs.BodyLaws.{first_begins, one_begins, rules_light, two_begin}
use Rattle.michelson_typer.proofs.walk.are_light.Goals as goal

pub returns-in-One : goal.returns-in-One
returns-in-One c = λ n.
    let a = c.in-One.start in
    let table = c.args.types.now in
    subst (λ (z : Starts). RulesOut c.is_light.result (SomeStart HasTooLarge n (starts_at table (starts_of z)))) (sym c.in-One.is)
    (one_begins HasTooLarge n c.is_light.result (a.aside, types_at table a.stack.items)
    (rules_light c.is_light.result (n + a.aside) (types_at table a.stack.items) (c.is_light.ensures ∙ ap (λ ids. list_all is_within_limits (types_at table ids)) c.as_slice.ensures.value)))

pub returns-then-is_light : goal.returns-then-is_light
returns-then-is_light c = λ n.
    let a = c.in-Two.first in
    let b = c.in-Two.second in
    let table = c.args.types.now in
    let r = c.is_light-then-is_light.result in
    subst (λ (z : Starts). RulesOut r (SomeStart HasTooLarge n (starts_at table (starts_of z)))) (sym c.in-Two.is)
    (two_begin HasTooLarge n true r (a.aside, types_at table a.stack.items) (b.aside, types_at table b.stack.items)
    (subst (λ z. RulesOut z (HasTooLarge (n + a.aside) (types_at table a.stack.items))) c.if-is_light.true
    (rules_light c.is_light-in-Two.result (n + a.aside) (types_at table a.stack.items) (c.is_light-in-Two.ensures ∙ ap (λ ids. list_all is_within_limits (types_at table ids)) c.as_slice-in-Two.ensures.value)))
    (rules_light r (n + b.aside) (types_at table b.stack.items) (c.is_light-then-is_light.ensures ∙ ap (λ ids. list_all is_within_limits (types_at table ids)) c.as_slice-then-is_light.ensures.value)))

pub returns-else-is_light : goal.returns-else-is_light
returns-else-is_light c = λ n.
    let a = c.in-Two.first in
    let b = c.in-Two.second in
    let table = c.args.types.now in
    let r = c.is_light-in-Two.result in
    subst (λ (z : Starts). RulesOut r (SomeStart HasTooLarge n (starts_at table (starts_of z)))) (sym c.in-Two.is)
    (first_begins HasTooLarge n r (a.aside, types_at table a.stack.items) (b.aside, types_at table b.stack.items) c.if-is_light.false
    (rules_light r (n + a.aside) (types_at table a.stack.items) (c.is_light-in-Two.ensures ∙ ap (λ ids. list_all is_within_limits (types_at table ids)) c.as_slice-in-Two.ensures.value)))
