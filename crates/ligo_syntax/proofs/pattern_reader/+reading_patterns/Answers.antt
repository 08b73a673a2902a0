use Rattle.std.proofs.Common.{suc, arith, rules, ◌≡◌, ◌∷◌, [], ◌-◌, length, sym, ◌∙◌}
use Rattle.ligo_tokens.specs.declared.token.Kind.TheVariants as kind
use Rattle.ligo_syntax.specs.Depth.{pattern_depth}
use Rattle.ligo_syntax.specs.Readers.{repeated}
use Rattle.ligo_syntax.specs.Phrases.{key}
use Rattle.ligo_syntax.specs.TypeReading.{pattern_at, Single}
use Rattle.ligo_syntax.proofs.LevelTurns.{pattern_fails}
use Rattle.ligo_syntax.proofs.Turns.{goes_on_key, fails_key, within_push}
use Rattle.ligo_syntax.proofs.pattern_reader.+reading_patterns.Goals as goal

pub more_patterns-loop-preserved : goal.more_patterns-loop-preserved
more_patterns-loop-preserved t c =
    let next = goes_on_key (pattern_at c.args.depth Single) kind.Comma c.loop.items (length c.args.tokens.now) c.loop.counter c.loop.rest.now c.in_ok-after.field-0-0.now c.in_ok-after.after.now c.in_ok-item.item c.in_ok-item.after.now (repeated (kind.Comma ∷ []) (key kind.Comma (pattern_at c.args.depth Single)) c.args.tokens.now) c.loop-test.true (sym c.at.ensures ∙ c.if-not-at.false) c.in_ok-after.ensures c.in_ok-item.ensures.read c.loop.invariant.0 in
    rw (c.in_ok-push.ensures.ok) (next, within_push pattern_depth c.loop.items c.in_ok-item.item c.args.depth c.loop.invariant.1 c.in_ok-item.ensures.within)

pub more_patterns-returns-in_err-item-clause-read : goal.more_patterns-returns-in_err-item-clause-read
more_patterns-returns-in_err-item-clause-read t c =
    let failed = fails_key c.in_err-item.field-0.0 (pattern_at c.args.depth Single) kind.Comma c.loop.items (length c.args.tokens.now) c.loop.counter c.loop.rest.now c.in_ok-after.field-0-0.now c.in_ok-after.after.now (repeated (kind.Comma ∷ []) (key kind.Comma (pattern_at c.args.depth Single)) c.args.tokens.now) c.loop-test.true (sym c.at.ensures ∙ c.if-not-at.false) c.in_ok-after.ensures c.in_err-item.ensures.read c.loop.invariant.0 in
    search rules

pub read_pattern-returns-in_err-first-clause-read : goal.read_pattern-returns-in_err-first-clause-read
read_pattern-returns-in_err-first-clause-read t c =
    let left : c.args.depth ≡ suc (c.args.depth - 1) = omega (arith, c.if-depth-eq0.false) in
    let failed = pattern_fails c.in_err-first.field-0.0 c.args.depth (c.args.depth - 1) c.args.tokens.now left c.in_err-first.ensures.read in
    search rules
