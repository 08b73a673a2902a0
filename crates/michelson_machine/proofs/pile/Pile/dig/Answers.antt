use Rattle.std.proofs.Common.{◌≡◌, suc, ◌+◌, ◌-◌, ◌∷◌, reverse, take, drop, length, ap, sym, ◌∙◌, arith}
use Rattle.std.proofs.lemmas.List.{length-reverse}
use Rattle.michelson_machine.proofs.Piles.{above_the_removed, below_the_removed}
use Rattle.michelson_machine.proofs.pile.Pile.dig.Goals as goal

pub returns-clause-above : goal.returns-clause-above
returns-clause-above g c =
    let many : length c.args.self.now ≡ length c.self.inside.items.items = ap length (sym c.self.view_is) ∙ length-reverse c.self.inside.items.items in
    let whole : c.args.depth + suc (c.len.result - 1 - c.args.depth) ≡ length c.self.inside.items.items = omega arith in
    sym (ap (take c.args.depth) c.self.view_is) ∙ above_the_removed c.self.inside.items.items (c.len.result - 1 - c.args.depth) c.args.depth c.remove.result c.remove.ensures.value whole
    ∙ sym (ap (λ xs. take c.args.depth (reverse xs)) c.remove.ensures.items)

pub returns-clause-below : goal.returns-clause-below
returns-clause-below g c =
    let many : length c.args.self.now ≡ length c.self.inside.items.items = ap length (sym c.self.view_is) ∙ length-reverse c.self.inside.items.items in
    let whole : c.args.depth + suc (c.len.result - 1 - c.args.depth) ≡ length c.self.inside.items.items = omega arith in
    sym (ap (drop c.args.depth) c.self.view_is) ∙ below_the_removed c.self.inside.items.items (c.len.result - 1 - c.args.depth) c.args.depth c.remove.result c.remove.ensures.value whole
    ∙ sym (ap (λ xs. c.remove.result ∷ drop c.args.depth (reverse xs)) c.remove.ensures.items)
