use Rattle.std.proofs.Common.{rules, ◌-◌, length, sym, ◌∙◌}
use Rattle.ligo_syntax.specs.Classes.{name_kinds}
use Rattle.ligo_syntax.specs.Phrases.{more_of}
use Rattle.ligo_syntax.specs.Reading.{type_field_rule}
use Rattle.ligo_syntax.proofs.Turns.{list_on, list_stops, list_ends, list_fails}
use Rattle.ligo_syntax.proofs.definition_reader.more_fields.Goals as goal

pub returns-then-not-at : goal.returns-then-not-at
returns-then-not-at c = list_stops (type_field_rule c.args.depth) name_kinds c.loop.items (length c.args.tokens.now - c.loop.counter) c.loop.rest.now
    (more_of name_kinds (type_field_rule c.args.depth) c.args.tokens.now) (sym c.at.ensures ∙ c.if-not-at.true) c.loop.invariant

pub returns-then-not-at_name : goal.returns-then-not-at_name
returns-then-not-at_name c = list_ends (type_field_rule c.args.depth) name_kinds c.loop.items (length c.args.tokens.now) c.loop.counter c.loop.rest.now c.in_ok-after.field-0-0.now c.in_ok-after.after.now
    (more_of name_kinds (type_field_rule c.args.depth) c.args.tokens.now) c.loop-test.true (sym c.at.ensures ∙ c.if-not-at.false) c.in_ok-after.ensures (sym c.at_name.ensures ∙ c.if-not-at_name.true) c.loop.invariant

pub returns-in_err-item : goal.returns-in_err-item
returns-in_err-item c =
    let failed = list_fails c.in_err-item.field-0.0 (type_field_rule c.args.depth) name_kinds c.loop.items (length c.args.tokens.now) c.loop.counter c.loop.rest.now c.in_ok-after.field-0-0.now c.in_ok-after.after.now
    (more_of name_kinds (type_field_rule c.args.depth) c.args.tokens.now) c.loop-test.true (sym c.at.ensures ∙ c.if-not-at.false) c.in_ok-after.ensures (sym c.at_name.ensures ∙ c.if-not-at_name.false) c.in_err-item.ensures c.loop.invariant in
    search rules

pub loop-preserved : goal.loop-preserved
loop-preserved c =
    let next = list_on (type_field_rule c.args.depth) name_kinds c.loop.items (length c.args.tokens.now) c.loop.counter c.loop.rest.now c.in_ok-after.field-0-0.now c.in_ok-after.after.now c.in_ok-item.item c.in_ok-item.after.now
    (more_of name_kinds (type_field_rule c.args.depth) c.args.tokens.now) c.loop-test.true (sym c.at.ensures ∙ c.if-not-at.false) c.in_ok-after.ensures (sym c.at_name.ensures ∙ c.if-not-at_name.false) c.in_ok-item.ensures c.loop.invariant in
    rw c.in_ok-push.ensures.ok next
