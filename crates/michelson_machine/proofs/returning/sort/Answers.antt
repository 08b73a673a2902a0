-- A stable sort puts changes in order.
use Rattle.std.proofs.Common.{rules}
use Rattle.std.proofs.lemmas.Fn.{always_returns_same}
use Rattle.std.proofs.lemmas.Result.{on_ok_weaker}
use Rattle.michelson_machine.proofs.OrderLaws.{below, ranks, sorted_is}
use Rattle.michelson_machine.proofs.returning.sort.Goals as goal

pub returns : goal.returns
returns c = on_ok_weaker c.sort_by.result
    (λ sorted. sorted_is c.args.changes.now.items c.sort_by.new.self.items
    (sorted below ranks (always_returns_same _ _ _ (λ a r f' k. search rules)))
    (c.sort_by.ensures.stable below ranks (always_returns_same _ _ _ (λ a r f' k. search rules))))
    c.sort_by.ensures.sorted
