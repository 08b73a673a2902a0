use Rattle.std.proofs.Common.{◌≡◌, ◌+◌, ◌-◌, reverse, drop, length, ap, sym, ◌∙◌, arith}
use Rattle.std.proofs.lemmas.List.{length-reverse}
use Rattle.michelson_machine.proofs.Piles.{below_the_last}
use Rattle.michelson_machine.proofs.pile.Pile.drop_top.Goals as goal

pub returns : goal.returns
returns g c =
    let many : length c.args.self.now ≡ length c.self.inside.items.items = ap length (sym c.self.view_is) ∙ length-reverse c.self.inside.items.items in
    let whole : c.args.count + (c.len.result - c.args.count) ≡ length c.self.inside.items.items = omega arith in
    ap reverse c.truncate.ensures.items ∙ sym (below_the_last c.self.inside.items.items (c.len.result - c.args.count) c.args.count whole) ∙ ap (drop c.args.count) c.self.view_is
