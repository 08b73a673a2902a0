use Rattle.std.proofs.Common.{rules, ◌∷◌, [], length, sym, ◌∙◌}
use Rattle.ligo_tokens.specs.declared.token.Kind.TheVariants as kind
use Rattle.ligo_syntax.specs.Depth.{type_depth}
use Rattle.ligo_syntax.specs.Readers.{repeated}
use Rattle.ligo_syntax.specs.Phrases.{key}
use Rattle.ligo_syntax.specs.TypeReading.{type_at, Post}
use Rattle.ligo_syntax.proofs.Turns.{goes_on_key, fails_key, within_push}
use Rattle.ligo_syntax.proofs.type_reader.+reading_types.Goals as goal

pub more_types-loop-preserved : goal.more_types-loop-preserved
more_types-loop-preserved t c =
    let next = goes_on_key (type_at c.args.depth Post) kind.Star c.loop.items (length c.args.tokens.now) c.loop.counter c.loop.rest.now c.in_ok-after.field-0-0.now c.in_ok-after.after.now c.in_ok-item.item c.in_ok-item.after.now (repeated (kind.Star ∷ []) (key kind.Star (type_at c.args.depth Post)) c.args.tokens.now) c.loop-test.true (sym c.at.ensures ∙ c.if-not-at.false) c.in_ok-after.ensures c.in_ok-item.ensures.read c.loop.invariant.0 in
    rw (c.in_ok-push.ensures.ok) (next, within_push type_depth c.loop.items c.in_ok-item.item c.args.depth c.loop.invariant.1 c.in_ok-item.ensures.within)

pub more_types-returns-in_err-item-clause-read : goal.more_types-returns-in_err-item-clause-read
more_types-returns-in_err-item-clause-read t c =
    let failed = fails_key c.in_err-item.field-0.0 (type_at c.args.depth Post) kind.Star c.loop.items (length c.args.tokens.now) c.loop.counter c.loop.rest.now c.in_ok-after.field-0-0.now c.in_ok-after.after.now (repeated (kind.Star ∷ []) (key kind.Star (type_at c.args.depth Post)) c.args.tokens.now) c.loop-test.true (sym c.at.ensures ∙ c.if-not-at.false) c.in_ok-after.ensures c.in_err-item.ensures.read c.loop.invariant.0 in
    search rules
