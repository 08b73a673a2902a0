use Rattle.std.proofs.Common.{◌≡◌, ◌+◌, ◌-◌, ◌∷◌, reverse, take, drop, length, ap, sym, ◌∙◌, arith}
use Rattle.std.proofs.lemmas.List.{length-reverse}
use Rattle.michelson_machine.proofs.Piles.{above_the_inserted, below_the_inserted}
use Rattle.michelson_machine.proofs.pile.Pile.dug.Goals as goal

pub returns-clause-above : goal.returns-clause-above
returns-clause-above g c =
    let many : length c.args.self.now ≡ length c.self.inside.items.items = ap length (sym c.self.view_is) ∙ length-reverse c.self.inside.items.items in
    let whole : c.args.depth + (c.len.result - c.args.depth) ≡ length c.self.inside.items.items = omega arith in
    ap (λ xs. take c.args.depth (reverse xs)) c.in_ok-insert.ensures.items ∙ above_the_inserted c.self.inside.items.items (c.len.result - c.args.depth) c.args.depth c.args.item whole ∙ ap (take c.args.depth) c.self.view_is

pub returns-clause-below : goal.returns-clause-below
returns-clause-below g c =
    let many : length c.args.self.now ≡ length c.self.inside.items.items = ap length (sym c.self.view_is) ∙ length-reverse c.self.inside.items.items in
    let whole : c.args.depth + (c.len.result - c.args.depth) ≡ length c.self.inside.items.items = omega arith in
    ap (λ xs. drop c.args.depth (reverse xs)) c.in_ok-insert.ensures.items ∙ below_the_inserted c.self.inside.items.items (c.len.result - c.args.depth) c.args.depth c.args.item whole ∙ ap (λ xs. c.args.item ∷ drop c.args.depth xs) c.self.view_is
