use Rattle.std.proofs.Common.{◌≡◌, suc, ◌-◌, sym, ◌∙◌, arith}
use Rattle.ligo_syntax.proofs.DeclTurns.{type_decl_there, value_decl_there}
use Rattle.ligo_syntax.proofs.decl_reader.read_decl.Goals as goal

pub returns-then-at : goal.returns-then-at
returns-then-at c =
    let left : c.args.depth ≡ suc (c.args.depth - 1) = omega (arith, c.if-depth-eq0.false) in
    rw (type_decl_there c.args.depth (c.args.depth - 1) c.args.tokens.now left (sym c.at.ensures ∙ c.if-at.true)) c.type_decl.ensures

pub returns : goal.returns
returns c =
    let left : c.args.depth ≡ suc (c.args.depth - 1) = omega (arith, c.if-depth-eq0.false) in
    rw (value_decl_there c.args.depth (c.args.depth - 1) c.args.tokens.now left (sym c.at.ensures ∙ c.if-at.false)) c.value_decl.ensures
