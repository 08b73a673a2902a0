-- The parts in the place of their pairs.
use Rattle.std.proofs.Common.{List, ◌++◌, reverse, refl, ap, ◌∙◌}
use Rattle.value_core.specs.declared.val.Val.{Val}
use Rattle.michelson_data.proofs.PairLaws.{apart_is}
use Rattle.michelson_data.proofs.pairs.apart.Goals as goal

pub returns-in-true-Ok-clause-applies : goal.returns-in-true-Ok-clause-applies
returns-in-true-Ok-clause-applies c = apart_is c.args.n c.in-Some.v c.pop.new.self.items c.args.stack.now.items c.spread.new.stack.items c.in-Some.ensures.items
    (c.in-true-Ok.ensures.there refl) (λ parts is_it. c.spread.ensures.parts parts is_it ∙ ap (λ (l : List Val). l ++ reverse parts) c.reserve.ensures.items)
