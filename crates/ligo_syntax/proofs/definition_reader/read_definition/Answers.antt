use Rattle.std.proofs.Common.{◌≡◌, suc, ◌-◌, sym, ◌∙◌, arith}
use Rattle.ligo_syntax.proofs.DeclTurns.{record_there, variant_there}
use Rattle.ligo_syntax.proofs.definition_reader.read_definition.Goals as goal

pub returns-then-at : goal.returns-then-at
returns-then-at c =
    let left : c.args.depth ≡ suc (c.args.depth - 1) = omega (arith, c.if-depth-eq0.false) in
    rw (record_there c.args.depth (c.args.depth - 1) c.args.tokens.now left (sym c.at.ensures ∙ c.if-at.true)) c.record_type.ensures

pub returns-then-at-2 : goal.returns-then-at-2
returns-then-at-2 c =
    let left : c.args.depth ≡ suc (c.args.depth - 1) = omega (arith, c.if-depth-eq0.false) in
    rw (variant_there c.args.depth (c.args.depth - 1) c.args.tokens.now left (sym c.at.ensures ∙ c.if-at.false) (sym c.at-2.ensures ∙ c.if-at-2.true)) c.variant_type.ensures
