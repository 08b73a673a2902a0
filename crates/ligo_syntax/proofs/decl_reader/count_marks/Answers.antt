use Rattle.std.proofs.Common.{◌≡◌, true, sym, subst, ◌∙◌, arith}
use Rattle.ligo_syntax.specs.Classes.{attribute_kinds}
use Rattle.ligo_syntax.specs.Kinds.{Tokens, next, has}
use Rattle.ligo_syntax.specs.Readers.{repeated}
use Rattle.ligo_syntax.specs.TypeReading.{token}
use Rattle.ligo_syntax.proofs.Marks.{mark_on, rest_whole}
use Rattle.ligo_syntax.proofs.decl_reader.count_marks.Goals as goal

pub loop-count-preserved : goal.loop-count-preserved
loop-count-preserved c =
    let here = subst (λ (l : Tokens). has attribute_kinds (next l) ≡ true) (rest_whole c.loop-count.count c.args.tokens.now) (sym c.at.ensures ∙ c.if-not-at.false) in
    let next = mark_on attribute_kinds c.loop-count.count c.args.tokens.now (repeated attribute_kinds (token attribute_kinds) c.args.tokens.now)
    c.loop-count-test.true here c.loop-count.invariant.0 in
    (next, omega (arith, c.loop-count-test.true))
