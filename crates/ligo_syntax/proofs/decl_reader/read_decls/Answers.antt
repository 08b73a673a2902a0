use Rattle.std.proofs.Common.{rules, ◌-◌, length, sym, ◌∙◌}
use Rattle.ligo_syntax.specs.Classes.{decl_firsts}
use Rattle.ligo_syntax.specs.Reading.{decl_at}
use Rattle.ligo_syntax.specs.Readers.{repeated}
use Rattle.ligo_syntax.proofs.Turns.{goes_on, stops_at, fails_at}
use Rattle.ligo_syntax.proofs.decl_reader.read_decls.Goals as goal

pub returns-then-not-at_decl : goal.returns-then-not-at_decl
returns-then-not-at_decl c = stops_at (decl_at c.args.depth) decl_firsts c.loop.items (length c.args.tokens.now - c.loop.counter) c.loop.rest.now
    (repeated decl_firsts (decl_at c.args.depth) c.args.tokens.now) (sym c.at_decl.ensures ∙ c.if-not-at_decl.true) c.loop.invariant

pub returns-in_err-item : goal.returns-in_err-item
returns-in_err-item c =
    let failed = fails_at c.in_err-item.field-0.0 (decl_at c.args.depth) decl_firsts c.loop.items (length c.args.tokens.now) c.loop.counter c.loop.rest.now
    (repeated decl_firsts (decl_at c.args.depth) c.args.tokens.now) c.loop-test.true (sym c.at_decl.ensures ∙ c.if-not-at_decl.false) c.in_err-item.ensures c.loop.invariant in
    search rules

pub loop-preserved : goal.loop-preserved
loop-preserved c =
    let next = goes_on (decl_at c.args.depth) decl_firsts c.loop.items (length c.args.tokens.now) c.loop.counter c.loop.rest.now c.in_ok-item.item c.in_ok-item.after.now
    (repeated decl_firsts (decl_at c.args.depth) c.args.tokens.now) c.loop-test.true (sym c.at_decl.ensures ∙ c.if-not-at_decl.false) c.in_ok-item.ensures c.loop.invariant in
    rw c.in_ok-push.ensures.ok next
