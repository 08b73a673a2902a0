use Rattle.std.proofs.Common.{◌+◌, true, subst, sym}
use Rattle.michelson_code.specs.FirstFault.{IsTooTall}
use Rattle.michelson_typer.specs.declared.opening.Starts.{Starts}
use Rattle.michelson_typer.specs.FirstKinds.{RulesOut}
use Rattle.michelson_typer.specs.Opened.{starts_at, starts_of}
use Rattle.michelson_typer.specs.Tables.{types_at}
use Rattle.michelson_typer.specs.Told.{SomeStart}
use Rattle.michelson_typer.proofs.BodyLaws.{first_begins, one_begins, rules_low, two_begin}
use Rattle.michelson_typer.proofs.walk.are_low.Goals as goal

pub returns-in-One : goal.returns-in-One
returns-in-One c = λ table.
    let a = c.in-One.start in
    subst (λ (z : Starts). RulesOut c.begins_low.result (SomeStart IsTooTall c.args.aside (starts_at table (starts_of z)))) (sym c.in-One.is)
    (one_begins IsTooTall c.args.aside c.begins_low.result (a.aside, types_at table a.stack.items)
    (rules_low c.begins_low.result table (c.args.aside + a.aside) a.stack.items c.begins_low.ensures))

pub returns-then-begins_low : goal.returns-then-begins_low
returns-then-begins_low c = λ table.
    let a = c.in-Two.first in
    let b = c.in-Two.second in
    let r = c.begins_low-then-begins_low.result in
    subst (λ (z : Starts). RulesOut r (SomeStart IsTooTall c.args.aside (starts_at table (starts_of z)))) (sym c.in-Two.is)
    (two_begin IsTooTall c.args.aside true r (a.aside, types_at table a.stack.items) (b.aside, types_at table b.stack.items)
    (subst (λ z. RulesOut z (IsTooTall (c.args.aside + a.aside) (types_at table a.stack.items))) c.if-begins_low.true
    (rules_low c.begins_low-in-Two.result table (c.args.aside + a.aside) a.stack.items c.begins_low-in-Two.ensures))
    (rules_low r table (c.args.aside + b.aside) b.stack.items c.begins_low-then-begins_low.ensures))

pub returns-else-begins_low : goal.returns-else-begins_low
returns-else-begins_low c = λ table.
    let a = c.in-Two.first in
    let b = c.in-Two.second in
    let r = c.begins_low-in-Two.result in
    subst (λ (z : Starts). RulesOut r (SomeStart IsTooTall c.args.aside (starts_at table (starts_of z)))) (sym c.in-Two.is)
    (first_begins IsTooTall c.args.aside r (a.aside, types_at table a.stack.items) (b.aside, types_at table b.stack.items) c.if-begins_low.false
    (rules_low r table (c.args.aside + a.aside) a.stack.items c.begins_low-in-Two.ensures))
