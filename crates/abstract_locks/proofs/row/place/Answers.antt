-- A binary search among ascending tickets finds the place or the gap.
use Rattle.std.proofs.Common.{rules}
use Rattle.std.specs.Ordering.{nat_cmp}
use Rattle.std.specs.FinMap.{nat_cmp-IsAntisymmetric}
use Rattle.std.proofs.lemmas.Cmp.{nat_cmp_total}
use Rattle.std.proofs.lemmas.Fn.{always_returns_same}
use Rattle.value_core.proofs.PlaceLemmas.{stands, sorted_by}
use Rattle.abstract_locks.proofs.row.place.Goals as goal

pub returns : goal.returns
returns c =
    stands nat_cmp_total nat_cmp-IsAntisymmetric (λ p. p.0) c.args.places.now c.args.ticket c.binary_search_by.result (sorted_by nat_cmp_total c.args.places.now c.requires) c.binary_search_by.ensures.bound
    (c.binary_search_by.ensures.position (λ p. nat_cmp p.0 c.args.ticket) (always_returns_same _ _ _ (λ a r f' k. search rules)))
