use Rattle.std.proofs.Common.{rules, ◌∷◌, [], ◌-◌, length, sym, ◌∙◌}
use Rattle.ligo_tokens.specs.declared.token.Kind.TheVariants as kind
use Rattle.ligo_syntax.specs.Readers.{repeated}
use Rattle.ligo_syntax.specs.Phrases.{key}
use Rattle.ligo_syntax.specs.Reading.{type_case_rule}
use Rattle.ligo_syntax.proofs.Turns.{goes_on_key, stops_at, fails_key}
use Rattle.ligo_syntax.proofs.definition_reader.more_cases.Goals as goal

pub returns-then-not-at : goal.returns-then-not-at
returns-then-not-at c = stops_at (key kind.Bar (type_case_rule c.args.depth)) (kind.Bar ∷ []) c.loop.items (length c.args.tokens.now - c.loop.counter) c.loop.rest.now
    (repeated (kind.Bar ∷ []) (key kind.Bar (type_case_rule c.args.depth)) c.args.tokens.now) (sym c.at.ensures ∙ c.if-not-at.true) c.loop.invariant

pub returns-in_err-item : goal.returns-in_err-item
returns-in_err-item c =
    let failed = fails_key c.in_err-item.field-0.0 (type_case_rule c.args.depth) kind.Bar c.loop.items (length c.args.tokens.now) c.loop.counter c.loop.rest.now c.in_ok-after.field-0-0.now c.in_ok-after.after.now
    (repeated (kind.Bar ∷ []) (key kind.Bar (type_case_rule c.args.depth)) c.args.tokens.now) c.loop-test.true (sym c.at.ensures ∙ c.if-not-at.false) c.in_ok-after.ensures c.in_err-item.ensures c.loop.invariant in
    search rules

pub loop-preserved : goal.loop-preserved
loop-preserved c =
    let next = goes_on_key (type_case_rule c.args.depth) kind.Bar c.loop.items (length c.args.tokens.now) c.loop.counter c.loop.rest.now c.in_ok-after.field-0-0.now c.in_ok-after.after.now c.in_ok-item.item c.in_ok-item.after.now
    (repeated (kind.Bar ∷ []) (key kind.Bar (type_case_rule c.args.depth)) c.args.tokens.now) c.loop-test.true (sym c.at.ensures ∙ c.if-not-at.false) c.in_ok-after.ensures c.in_ok-item.ensures c.loop.invariant in
    rw c.in_ok-push.ensures.ok next
