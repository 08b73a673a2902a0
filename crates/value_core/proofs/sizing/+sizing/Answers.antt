-- The sizes of lists and maps are sums over what they hold.
use Rattle.std.proofs.Common.{rules}
use Rattle.value_core.proofs.LawfulLemmas.{lawful_lists}
use Rattle.value_core.proofs.Sizes.{size-list, size-map, size-set}
use Rattle.value_core.proofs.sizing.+sizing.Goals as goal

pub size-returns-in-List-clause-size : goal.size-returns-in-List-clause-size
size-returns-in-List-clause-size t c = search (rules, size-list, size-set)

pub size-returns-in-List-clause-lawful : goal.size-returns-in-List-clause-lawful
size-returns-in-List-clause-lawful t c = c.loop-v.invariant.lawful (search (rules, lawful_lists))

pub size-returns-in-Map-clause-size : goal.size-returns-in-Map-clause-size
size-returns-in-Map-clause-size t c = search (rules, size-map)

pub size-returns-in-Map-clause-lawful : goal.size-returns-in-Map-clause-lawful
size-returns-in-Map-clause-lawful t c = c.loop-v.invariant.lawful (search (rules, lawful_lists))
