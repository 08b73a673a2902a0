use Rattle.std.proofs.Common.{length, sym, ◌∙◌, arith}
use Rattle.ligo_syntax.specs.Classes.{postfix_kinds}
use Rattle.ligo_syntax.specs.Depth.{type_depth}
use Rattle.ligo_syntax.specs.TypeReading.{token}
use Rattle.ligo_syntax.specs.TypeTrees.{postfixed}
use Rattle.ligo_syntax.proofs.Turns.{link_on, is_below}
use Rattle.ligo_syntax.proofs.type_reader.read_words.Goals as goal

pub loop-preserved : goal.loop-preserved
loop-preserved c =
    let next = link_on type_depth c.args.depth postfixed postfix_kinds (token postfix_kinds) (length c.args.tokens.now) c.loop.counter c.loop.made c.loop.rest.now
    c.in_ok-word.word.now c.in_ok-word.after.now _ c.loop-test.true (sym c.at.ensures ∙ c.if-not-at.false) (is_below c.loop.made.depth c.args.depth c.if-made-depth.false)
    c.in_ok-word.ensures c.loop.invariant.0 in
    rw (c.in_ok-made.ensures) (next, omega (arith, c.if-made-depth.false))
