use Rattle.std.proofs.Common.{rules, ◌∷◌, [], ◌-◌, length, sym, ◌∙◌, arith}
use Rattle.ligo_tokens.specs.declared.token.Kind.TheVariants as kind
use Rattle.ligo_syntax.specs.Classes.{link_kinds}
use Rattle.ligo_syntax.specs.Depth.{expr_depth}
use Rattle.ligo_syntax.specs.Readers.{links}
use Rattle.ligo_syntax.specs.Phrases.{key}
use Rattle.ligo_syntax.specs.TypeReading.{token}
use Rattle.ligo_syntax.specs.AtomTrees.{dotted}
use Rattle.ligo_syntax.proofs.Turns.{link_on, links_fail, links_full, links_stop, is_below, is_full}
use Rattle.ligo_syntax.proofs.leaf_reader.read_dots.Goals as goal

pub loop-preserved : goal.loop-preserved
loop-preserved c =
    let next = link_on expr_depth c.args.depth dotted (kind.Dot ∷ []) (key kind.Dot (token link_kinds)) (length c.args.tokens.now) c.loop.counter c.loop.made c.loop.rest.now
    c.in_ok-link.link.now c.in_ok-link.after.now _ c.loop-test.true (sym c.at.ensures ∙ c.if-not-at.false) (is_below c.loop.made.depth c.args.depth c.if-made-depth.false)
    c.in_ok-link.ensures c.loop.invariant.0 in
    rw (c.in_ok-made.ensures) (next, omega (arith, c.if-made-depth.false))

pub returns-in_err-link-clause-read : goal.returns-in_err-link-clause-read
returns-in_err-link-clause-read c =
    let failed = links_fail c.in_err-link.field-0.0 expr_depth c.args.depth dotted (kind.Dot ∷ []) (key kind.Dot (token link_kinds)) (length c.args.tokens.now) c.loop.counter c.loop.made c.loop.rest.now
    (links expr_depth c.args.depth dotted (kind.Dot ∷ []) (key kind.Dot (token link_kinds)) (length c.args.tokens.now) c.args.first c.args.tokens.now)
    c.loop-test.true (sym c.at.ensures ∙ c.if-not-at.false) (is_below c.loop.made.depth c.args.depth c.if-made-depth.false) c.in_err-link.ensures c.loop.invariant.0 in
    search rules

pub returns-then-not-at-clause-read : goal.returns-then-not-at-clause-read
returns-then-not-at-clause-read c = links_stop expr_depth c.args.depth dotted (kind.Dot ∷ []) (key kind.Dot (token link_kinds)) (length c.args.tokens.now - c.loop.counter) c.loop.made c.loop.rest.now
    (links expr_depth c.args.depth dotted (kind.Dot ∷ []) (key kind.Dot (token link_kinds)) (length c.args.tokens.now) c.args.first c.args.tokens.now) (sym c.at.ensures ∙ c.if-not-at.true) c.loop.invariant.0

pub returns-then-made-depth-clause-read : goal.returns-then-made-depth-clause-read
returns-then-made-depth-clause-read c = links_full expr_depth c.args.depth dotted (kind.Dot ∷ []) (key kind.Dot (token link_kinds)) (length c.args.tokens.now) c.loop.counter c.loop.made c.loop.rest.now
    (links expr_depth c.args.depth dotted (kind.Dot ∷ []) (key kind.Dot (token link_kinds)) (length c.args.tokens.now) c.args.first c.args.tokens.now) c.loop-test.true (sym c.at.ensures ∙ c.if-not-at.false) (is_full c.loop.made.depth c.args.depth c.if-made-depth.true) c.loop.invariant.0
